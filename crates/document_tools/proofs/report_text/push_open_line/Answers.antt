use Rattle.std.proofs.Common.{codes}
use Rattle.document_tools.specs.Reports.{words_and_number, slot_start, stands_text}
use Rattle.document_tools.proofs.Joined.{five}
use Rattle.document_tools.proofs.report_text.push_open_line.Goals as goal

pub returns : goal.returns
returns c =
    let slot = c.args.report.now.slot in
    five c.args.out.now.items c.push_start.new.out.items c.push_numbered.new.out.items c.push_numbered-2.new.out.items c.extend_from_slice.new.self.items c.push_stands.new.out.items
    (slot_start c.args.number) (words_and_number (codes "open, version ") slot.version) (words_and_number (codes ", sequence ") slot.sequence) (codes ": ") (stands_text c.args.report.now.verdict)
    c.in_ok-push_start.ensures (rw c.from.ensures at c.in_ok-push_numbered.ensures) c.in_ok-push_numbered-2.ensures c.in_ok-extend_from_slice.ensures.items c.in_ok-push_stands.ensures
