use Rattle.std.proofs.Common.{◌∙◌, ℕ, List, length, take, ap, arith}
use Rattle.raw_region.proofs.Puts.{take-put_to}
use Rattle.raw_region.proofs.body.RawBody.fill.Goals as goal

pub returns : goal.returns
returns c =
    let xs = c.args.region in let bytes = c.args.bytes.now in
    ap (λ (l : List ℕ). take (length bytes) l) c.copy_in.ensures ∙ take-put_to xs bytes 0 (omega arith) (length bytes) (omega arith)
