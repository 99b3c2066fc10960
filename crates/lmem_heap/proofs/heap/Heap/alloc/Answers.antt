use Rattle.std.proofs.Common.{true, refl, ap, ◌≡◌, ℕ, List, replicate, arith, sym, ◌∙◌}
use Rattle.geos_model.proofs.HeapTables.{next_chunk-free}
use Rattle.geos_model.specs.Heap.{ChunkMap, fits_new}
use Rattle.geos_model.proofs.Table.{first_gap, table_map}
use Rattle.lmem_heap.proofs.PlacedLemmas.{gap_found, first_gap_le, shown_chunks, gap_below, next_at, fits_new-some}
use Rattle.lmem_heap.proofs.heap.Heap.alloc.Goals.{After-gap_from-i}
use Rattle.lmem_heap.proofs.heap.Heap.alloc.Goals as goal

gap : (c : After-gap_from-i) → c.gap_from-i.result ≡ first_gap c.self.inside.table.chunks
gap c = c.gap_from-i.ensures ∙ gap_found c.self.inside.table.chunks c.self.inside.gap c.self.invariant.0.1

pub gap_from-i-requires : goal.gap_from-i-requires
gap_from-i-requires c = omega (arith, c.self.invariant.0.1, first_gap_le c.self.inside.table.chunks)

pub handle_of-h-requires : goal.handle_of-h-requires
handle_of-h-requires c = omega (arith, gap (goal.at.handle_of-h-requires c).After-gap_from-i, gap_below c.self.inside.table.chunks (replicate c.args.n 0) c.args.self.now.chunks (shown_chunks c.self.inside.table c.args.self.now c.self.view_is) c.requires)

pub alloc_at-requires : goal.alloc_at-requires
alloc_at-requires c =
    let t = c.self.inside.table.chunks in let m = table_map 2 16 t in let z : List ℕ = replicate c.args.n 0 in let h = c.handle_of-h.result.0 in
    let fits : fits_new m z ≡ true = ap (λ (x : ChunkMap). fits_new x z) (shown_chunks c.self.inside.table c.args.self.now c.self.view_is) ∙ c.requires in
    let next = next_at t c.gap_from-i.result h z m refl (gap (goal.at.alloc_at-requires c).After-gap_from-i) c.handle_of-h.ensures fits in
    let free = next_chunk-free m h next in
    record { handle = free.0; free = free.1; fits = sym (fits_new-some m h z next) ∙ fits }

pub invariant_of-self : goal.invariant_of-self
invariant_of-self c = let i = c.self.invariant.0 in ((i.0, omega (arith, gap (goal.at.invariant_of-self c).After-gap_from-i), i.2), c.self.invariant.1)

pub returns-clause-handle : goal.returns-clause-handle
returns-clause-handle c = next_at c.self.inside.table.chunks c.gap_from-i.result c.handle_of-h.result.0 (replicate c.args.n 0) c.args.self.now.chunks (shown_chunks c.self.inside.table c.args.self.now c.self.view_is) (gap (goal.at.returns-clause-handle c).After-gap_from-i) c.handle_of-h.ensures c.requires
