-- The table is what it says, by computing it.
use Rattle.std.proofs.Common.{◌≡◌, ℕ, ◌<◌, get_or, map, refl, ap, ◌∙◌, arith}
use Rattle.std.proofs.lemmas.List.FromFn.{get_or-map-range_with_len}
use Rattle.std.specs.List.{range_with_len}
use Rattle.geos_script.proofs.Digits.{counted, counted_few}
use Rattle.geos_script.specs.declared.hex_digits.TheConstants.{VALUES}
use Rattle.geos_script.proofs.hex_digits.value_of.Goals as goal

table_is : VALUES ≡ map counted (range_with_len 0 256)
table_is = refl

read : (b : ℕ) → b < 256 → get_or VALUES b 0 ≡ counted b
read b h = ap (λ t. get_or t b 0) table_is ∙ get_or-map-range_with_len counted 0 256 b b 0 h (omega arith)

pub returns-clause-value : goal.returns-clause-value
returns-clause-value c = rw c.from.ensures (read c.args.digit (omega arith))

pub returns-clause-few : goal.returns-clause-few
returns-clause-few c = rw (c.from.ensures, read c.args.digit (omega arith)) (counted_few c.args.digit)
