use Rattle.std.proofs.Common.{ℕ, replicate, ◌+◌, ap, ◌∙◌, arith}
use Rattle.std.proofs.lemmas.List.{take-replicate}
use Rattle.document_file.proofs.image.zeros.Goals as goal

pub returns : goal.returns
returns c = take-replicate (c.from.result + 1) 65536 0 (omega (arith, c.from.ensures, c.ranges.size.fits)) ∙ ap (λ (n : ℕ). replicate (n + 1) 0) c.from.ensures
