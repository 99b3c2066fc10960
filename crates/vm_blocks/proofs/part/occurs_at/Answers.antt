use Rattle.std.proofs.Common.{◌≡◌, ◌-◌, length, take, drop, arith, sym, ap, ◌∙◌, length-drop, length-take}
use Rattle.std.proofs.lemmas.List.{take_rest}
use Rattle.vm_blocks.proofs.part.occurs_at.Goals as goal

pub returns-then-at-bytes : goal.returns-then-at-bytes
returns-then-at-bytes c =
    let bytes = c.args.bytes.now in
    let at = c.args.at in
    let part = c.args.part.now in
    let rest : take (length part) (take (length bytes - at) (drop at bytes)) ≡ take (length part) (drop at bytes) = ap (take (length part)) (take_rest bytes at) in (
      λ begins.
          let same : take (length part) (drop at bytes) ≡ part = sym rest ∙ c.begins_with.ensures.0 begins in
          record { within = omega (arith, c.if-at-bytes.true, ap length same, length-take (length part) (drop at bytes), length-drop at bytes); same = same },
      λ occurs. c.begins_with.ensures.1 (rest ∙ occurs.same),
    )
