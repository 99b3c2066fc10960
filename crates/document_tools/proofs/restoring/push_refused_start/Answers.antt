use Rattle.std.proofs.Common.{codes}
use Rattle.std.specs.Fmt.{decimal}
use Rattle.document_tools.proofs.Joined.{five}
use Rattle.document_tools.proofs.restoring.push_refused_start.Goals as goal

pub returns : goal.returns
returns c =
    five c.args.out.now.items c.extend_from_slice.new.self.items c.extend_from_slice-2.new.self.items c.extend_from_slice-3.new.self.items c.push_decimal.new.out.items c.extend_from_slice-4.new.self.items
    (codes "geosdoc: ") c.args.file.now (codes ": line ") (decimal c.args.number) (codes " of the script is refused: ")
    c.in_ok-extend_from_slice.ensures.items (rw c.as_bytes.ensures.value at c.in_ok-extend_from_slice-2.ensures.items) c.in_ok-extend_from_slice-3.ensures.items c.in_ok-push_decimal.ensures c.in_ok-extend_from_slice-4.ensures.items
