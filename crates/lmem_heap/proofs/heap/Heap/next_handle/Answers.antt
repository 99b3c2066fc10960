use Rattle.std.proofs.Common.{◌≡◌, ◌+◌, ◌*◌, ℕ, Some, arith, ap, sym, ◌∙◌}
use Rattle.geos_model.proofs.Table.{first_gap}
use Rattle.geos_model.specs.Heap.{next_chunk}
use Rattle.lmem_heap.proofs.PlacedLemmas.{shown_chunks, next_some, next_none, gap_found, first_gap_le}
use Rattle.lmem_heap.proofs.heap.Heap.next_handle.Goals.{After-gap_from-i}
use Rattle.lmem_heap.proofs.heap.Heap.next_handle.Goals as goal

gap : (c : After-gap_from-i) → c.gap_from-i.result ≡ first_gap c.self.inside.table.chunks
gap c = c.gap_from-i.ensures ∙ gap_found c.self.inside.table.chunks c.self.inside.gap c.self.invariant.0.1

pub gap_from-i-requires : goal.gap_from-i-requires
gap_from-i-requires c = omega (arith, c.self.invariant.0.1, first_gap_le c.self.inside.table.chunks)

pub returns-then-i-lt-MOST_CHUNKS : goal.returns-then-i-lt-MOST_CHUNKS
returns-then-i-lt-MOST_CHUNKS c =
    let t = c.self.inside.table.chunks in let is = gap (goal.at.returns-then-i-lt-MOST_CHUNKS c).After-gap_from-i in
    ap Some (c.handle_of.ensures ∙ ap (λ (g : ℕ). 16 + 2 * g) is) ∙ (sym (next_some t (omega (arith, is, c.if-i-lt-MOST_CHUNKS.true))) ∙ ap next_chunk (shown_chunks c.self.inside.table c.args.self.now c.self.view_is))

pub returns-else-i-lt-MOST_CHUNKS : goal.returns-else-i-lt-MOST_CHUNKS
returns-else-i-lt-MOST_CHUNKS c =
    let t = c.self.inside.table.chunks in let is = gap (goal.at.returns-else-i-lt-MOST_CHUNKS c).After-gap_from-i in
    sym (next_none t (omega (arith, is, c.if-i-lt-MOST_CHUNKS.false))) ∙ ap next_chunk (shown_chunks c.self.inside.table c.args.self.now c.self.view_is)
