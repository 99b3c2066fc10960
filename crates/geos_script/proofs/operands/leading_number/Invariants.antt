use Rattle.std.proofs.Common.{◌≡◌, ◌<◌, ◌^◌, true, take, fold}
use Rattle.std.specs.List.{list_all}
use Rattle.geos_model.specs.Script.{is_digit, with_digit}
use Rattle.geos_script.proofs.operands.leading_number.Given as goal

-- the number that the digits so far spell, and how small they leave it
abbrev pub invariant-loop-i : goal.invariant-loop-i
invariant-loop-i g l =
    (l.number ≡ fold with_digit 0 (take l.i l.text)) × (list_all is_digit (take l.i l.text) ≡ true) × (l.number < 10 ^ l.i)
