use Rattle.std.proofs.Common.{◌*◌, ◌-◌, length, min, take, drop, ap, ◌∙◌, arith, length-drop}
use Rattle.std.proofs.lemmas.List.{take_all, take_min}
use Rattle.document_dump.proofs.bodies.piece_at.Goals as goal

pub returns : goal.returns
returns c =
    let bytes = c.args.bytes.now in
    let rest = drop (32 * c.args.k) bytes in
    let whole = take_all (length bytes - 32 * c.args.k) rest (omega (arith, length-drop (32 * c.args.k) bytes)) in
    rw whole (ap (λ n. take n rest) (c.min.ensures ∙ ap (λ n. min 32 n) (ap length whole)) ∙ take_min 32 rest)
