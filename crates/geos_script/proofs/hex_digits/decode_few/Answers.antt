use Rattle.std.proofs.Common.{◌+◌, ◌*◌, ◌∙◌, slice_index, refl, ap, arith}
use Rattle.std.proofs.lemmas.Bool.Decides.{nat_tests}
use Rattle.std.proofs.lemmas.List.{take_all}
use Rattle.std.specs.List.{list_all}
use Rattle.hex.specs.Hex.{is_hex_digit}
use Rattle.hex.proofs.Pairs.{decode_done, decode_start, decode_step}
use Rattle.geos_script.proofs.Decoding.{pair_seen, pair_small_parts}
use Rattle.geos_script.proofs.hex_digits.decode_few.Goals as goal

pub bytes-init : goal.bytes-init
bytes-init c = (refl, λ small. decode_start c.args.digits.now c.args.out.now)

pub bytes-preserved : goal.bytes-preserved
bytes-preserved c = (
  pair_seen c.args.digits.now c.bytes.i c.bytes.seen _ _ (omega arith) c.bytes.invariant.0 c.value_of.ensures.value c.value_of-in-bytes.ensures.value,
  λ small.
      let parts = pair_small_parts (slice_index c.args.digits.now (2 * c.bytes.i)) (slice_index c.args.digits.now (2 * c.bytes.i + 1)) c.bytes.seen _ _ c.value_of.ensures.value c.value_of-in-bytes.ensures.value small in
      decode_step _ _ c.bytes.i _ (omega arith) (omega arith) (parts.1 (2 * c.bytes.i)) (c.bytes.invariant.1 parts.0),
)

pub returns-clause-tells : goal.returns-clause-tells
returns-clause-tells c = c.bytes.invariant.0 ∙ ap (list_all is_hex_digit) (take_all (2 * c.bytes.i) c.args.digits.now (omega arith))

pub returns-clause-spelled : goal.returns-clause-spelled
returns-clause-spelled c = λ all. decode_done _ c.bytes.out c.bytes.i (omega arith) (omega arith) (c.bytes.invariant.1 (grind (arith, nat_tests)))
