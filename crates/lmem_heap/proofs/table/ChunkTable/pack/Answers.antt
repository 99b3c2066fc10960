use Rattle.std.proofs.Common.{◌≡◌, ◌+◌, ℕ, ap, sym, subst, ◌∙◌, arith}
use Rattle.heap_images.specs.Slots.{space_in}
use Rattle.lmem_heap.specs.Stored.{offsets_in, AreLast}
use Rattle.lmem_heap.specs.Tiled.{chunks_in}
use Rattle.lmem_heap.proofs.StoredLemmas.{all_last}
use Rattle.lmem_heap.proofs.table.ChunkTable.pack.Goals as goal

pub returns-clause-last : goal.returns-clause-last
returns-clause-last c =
    let u = c.compact.new.self in let e = c.compact.ensures in
    let total : u.total ≡ space_in (chunks_in u.region u.slots) = e.same.total ∙ (c.self.invariant.count ∙ ap space_in (sym e.same.chunks)) in
    let ends : u.low + u.total ≡ 65520 = omega (arith, e.low, e.well_formed.held.tiled.table) in
    subst (λ (n : ℕ). AreLast (offsets_in u.region u.slots) n) total (all_last u e.well_formed ends)
