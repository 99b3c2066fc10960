use Rattle.std.proofs.Common.{◌+◌, ◌≤◌, List, ℕ, length, refl, ap, sym, arith}
use Rattle.geos_model.specs.Bytes.{spliced}
use Rattle.geos_model.specs.Heap.{chunk_bytes}
use Rattle.lmem_heap.specs.Found.{handle_found}
use Rattle.vm_blocks.proofs.RunLemmas.{length_after, short_in}
use Rattle.vm_blocks.proofs.run.test_chunk.Goals as goal

pub returns-clause-short : goal.returns-clause-short
returns-clause-short c =
    let m = c.args.heap.now.chunks in let h = handle_found c.args.found in let run = c.args.run in let bytes : List ℕ = chunk_bytes m h in let is = c.requires.found in
    let size = ap length c.found_bytes-size.ensures in
    let within : run.at + run.count ≤ length bytes = omega (arith, size, c.if-not-is_within.ensures.0 refl) in
    short_in m h run.at run.count run.new.now c.requires.valid is.live within
    (sym (c.if-not-has_room.ensures (spliced bytes run.at run.count run.new.now) (omega (arith, size, within, length_after bytes run.new.now run.at run.count within))))
