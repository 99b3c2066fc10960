use Rattle.std.proofs.Common.{◌*◌, ◌≤◌, arith}
use Rattle.std.proofs.Math.Nat.{mul-le-mul_right}
use Rattle.large_arrays.proofs.joining.bytes_of_even.Goals as goal

pub overflow_mul-result : goal.overflow_mul-result
overflow_mul-result c =
    let few : c.from.result ≤ 65535 = (let count = c.ranges.count in let is = c.from.ensures in omega arith) in
    let most : c.from.result * c.args.size ≤ 65535 * c.args.size = mul-le-mul_right c.args.size few in
    omega arith
