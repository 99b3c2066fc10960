use Rattle.std.proofs.Common.{arith}
use Rattle.chunk_arrays.proofs.PlaceLemmas.{place-within}
use Rattle.chunk_arrays.proofs.even.head_with.Goals as goal

pub overflow_cast-head : goal.overflow_cast-head
overflow_cast-head c =
    let within = place-within c.args.view.now.array 0 (omega arith) in
    let place = c.place-head.ensures.place in
    let short = c.requires in
    omega (arith, within, place, short)
