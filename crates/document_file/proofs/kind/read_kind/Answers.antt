use Rattle.std.proofs.Common.{◌*◌, sym, ◌∙◌, eqb-true}
use Rattle.vm_store.specs.Facts.{byte}
use Rattle.document_file.proofs.ImageLemmas.{raw_there}
use Rattle.document_file.proofs.kind.read_kind.Goals as goal

pub returns-then-branch-clause-imaged : goal.returns-then-branch-clause-imaged
returns-then-branch-clause-imaged g c = λ honest.
    let read = c.in_ok-is_raw.ensures.first honest in
    let e = c.args.extent in
    let long = c.is_long.ensures (c.if-is_long.true) in
    raw_there _ e read.0 (eqb-true (byte _ (512 * e.page)) 0 (sym read.1 ∙ c.if-branch.true)) long.0 long.1
