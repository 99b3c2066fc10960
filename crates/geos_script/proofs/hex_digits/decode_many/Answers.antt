use Rattle.std.proofs.Common.{◌+◌, ◌*◌, sym, arith}
use Rattle.std.proofs.lemmas.List.Sums.{AllPass-from_list_all}
use Rattle.hex.specs.Hex.{is_hex_digit}
use Rattle.hex.proofs.Pairs.{decode_done, decode_start, decode_step}
use Rattle.geos_script.proofs.hex_digits.decode_many.Goals as goal

pub bytes-init : goal.bytes-init
bytes-init c = decode_start c.args.digits.now c.args.out.now

pub byte_of-requires : goal.byte_of-requires
byte_of-requires c =
    let all = AllPass-from_list_all is_hex_digit c.args.digits.now (sym c.if-not-are_digits.ensures) in
    (all (2 * c.bytes.i) 0 (omega arith), all (2 * c.bytes.i + 1) 0 (omega arith))

pub bytes-preserved : goal.bytes-preserved
bytes-preserved c = decode_step _ _ c.bytes.i _ (omega arith) (omega arith) (c.byte_of.ensures (2 * c.bytes.i)) c.bytes.invariant

pub returns-clause-spelled : goal.returns-clause-spelled
returns-clause-spelled c = λ all. decode_done _ c.bytes.out c.bytes.i (omega arith) (omega arith) c.bytes.invariant
