use Rattle.std.proofs.Common.{◌≡◌, ◌%◌, ◌/◌, ℕ, [], ◌∷◌, false, nat_lt, refl, ap₂, ◌∙◌, arith, le-ltb}
use Rattle.geos_model.specs.Array.{array_bytes}
use Rattle.geos_model.specs.ElementArray.{slots_array}
use Rattle.geos_model.specs.NameArray.{name_bytes}
use Rattle.name_arrays.proofs.edits.create_bytes.Goals as goal

pub returns : goal.returns
unfolding name_bytes slots_array
returns c =
    let short : nat_lt 64 c.args.part ≡ false = le-ltb 64 c.args.part c.if-part-gt-GREATEST_PART.false in
    let low : c.args.part ≡ c.args.part % 256 = omega arith in
    let high : 0 ≡ c.args.part / 256 % 256 = omega arith in (
      rw short refl,
      c.in_ok-empty_bytes.ensures ∙ ap₂ (λ (x y : ℕ). array_bytes (record { extra = 255 ∷ 255 ∷ x ∷ y ∷ []; size = 0; elements = [] })) low high,
    )
