use Rattle.std.proofs.Common.{Err, ap}
use Rattle.std.proofs.lemmas.Result.{err_from_is_err_and}
use Rattle.file_map.proofs.FaultLemmas.{read_file}
use Rattle.file_map.proofs.tables.read_table.Goals as goal

pub returns-in_err-image-clause-file : goal.returns-in_err-image-clause-file
returns-in_err-image-clause-file g c =
    let fault = c.in_err-image.field-0.0 in
    let p = err_from_is_err_and c.from_residual.result c.from_residual.ensures.1 in
    rw (p.1, p.2) (λ is. c.in_err-image.ensures.file (ap (λ f. Err f) (read_file fault c.in_err-image.ensures.refusals (cc is))))
