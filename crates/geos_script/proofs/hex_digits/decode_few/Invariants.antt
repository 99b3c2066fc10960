use Rattle.std.proofs.Common.{nat_lt, ◌≡◌, ◌*◌, ◌<◌, take, drop}
use Rattle.std.specs.List.{list_all}
use Rattle.hex.specs.Hex.{decode_pairs, is_hex_digit}
use Rattle.hex.proofs.Pairs.{prepend}
use Rattle.geos_script.proofs.hex_digits.decode_few.Given as goal

-- whether the digits so far are some; and where they are, the bytes so far, and what the digits behind them spell
abbrev pub invariant-bytes : goal.invariant-bytes
invariant-bytes l =
    (nat_lt l.seen 256 ≡ list_all is_hex_digit (take (2 * l.i) l.digits)) × (l.seen < 256 → decode_pairs 0 l.digits ≡ prepend (take l.i l.out) (decode_pairs (2 * l.i) (drop (2 * l.i) l.digits)))
