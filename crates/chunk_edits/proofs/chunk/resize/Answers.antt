use Rattle.std.proofs.Common.{◌-◌, length, drop, arith, length-take, length-drop}
use Rattle.chunk_edits.proofs.FoundLemmas.{found_short}
use Rattle.chunk_edits.proofs.chunk.resize.Goals as goal

pub overflow_cast-bytes : goal.overflow_cast-bytes
overflow_cast-bytes c = let few = found_short c.args.heap.now.chunks c.args.h.0 c.args.bytes.now c.requires in omega (arith, few)

pub of_zeros-requires : goal.of_zeros-requires
of_zeros-requires c =
    let all = c.args.bytes.now in let kept = c.min-kept.result in
    omega (arith, length-take (length all - kept) (drop kept all), length-drop kept all, found_short c.args.heap.now.chunks c.args.h.0 all c.requires)
