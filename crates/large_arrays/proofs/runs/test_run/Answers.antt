use Rattle.std.proofs.Common.{◌≤◌, ◌*◌, arith}
use Rattle.std.proofs.Math.Nat.{mul-le-mul_left}
use Rattle.large_arrays.proofs.runs.test_run.Goals as goal

pub overflow_mul-n : goal.overflow_mul-n
overflow_mul-n c =
    let small = c.element_size-size.ensures.small in
    let most : c.element_size-size.result ≤ 65536 = omega (arith, small) in
    let product : c.args.n * c.element_size-size.result ≤ c.args.n * 65536 = mul-le-mul_left c.args.n most in
    let few = c.ranges.n.fits in
    omega (arith, product, few)
