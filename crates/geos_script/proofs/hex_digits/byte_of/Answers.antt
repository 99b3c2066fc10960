use Rattle.std.proofs.Common.{arith}
use Rattle.geos_script.proofs.Digits.{few, pair_read, values_read}
use Rattle.geos_script.proofs.hex_digits.byte_of.Goals as goal

pub overflow_mul-result : goal.overflow_mul-result
overflow_mul-result c =
    let read = values_read c.args.high c.args.low c.requires.0 c.requires.1 in
    rw (c.from_le_bytes-digits.ensures, read) (omega (arith, few c.args.high c.requires.0, few c.args.low c.requires.1))

pub overflow_add-result : goal.overflow_add-result
overflow_add-result c =
    let read = values_read c.args.high c.args.low c.requires.0 c.requires.1 in
    rw (c.from_le_bytes-digits.ensures, read) (omega (arith, few c.args.high c.requires.0, few c.args.low c.requires.1))

pub returns : goal.returns
returns c = λ i.
    let read = values_read c.args.high c.args.low c.requires.0 c.requires.1 in
    rw (c.from_le_bytes-digits.ensures, read) (pair_read c.args.high c.args.low i c.requires.0 c.requires.1)
