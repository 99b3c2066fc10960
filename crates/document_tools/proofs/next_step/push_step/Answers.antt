use Rattle.std.proofs.Common.{codes}
use Rattle.document_tools.specs.Reports.{restore_words}
use Rattle.document_tools.proofs.Joined.{five}
use Rattle.document_tools.proofs.next_step.push_step.Goals as goal

pub returns : goal.returns
returns c =
    five c.args.out.now.items c.extend_from_slice.new.self.items c.extend_from_slice-2.new.self.items c.extend_from_slice-3.new.self.items c.extend_from_slice-4.new.self.items c.push.new.self.items
    (codes "next: geosdoc ") c.args.command.now (restore_words c.args.summed) c.args.made.now (codes "\n")
    c.in_ok-extend_from_slice.ensures.items c.in_ok-extend_from_slice-2.ensures.items (rw c.restore_words.ensures at c.in_ok-extend_from_slice-3.ensures.items) c.in_ok-extend_from_slice-4.ensures.items
    c.in_ok-push.ensures.items
