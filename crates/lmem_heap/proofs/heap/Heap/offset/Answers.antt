use Rattle.std.proofs.Common.{◌≡◌, ◌+◌, ◌*◌, ◌≤◌, ℕ, [], List, Option, None, is_some, unwrap_or, nat_lt, length, get_or, subst, arith, ap, sym, ◌∙◌}
use Rattle.std.specs.Option.{IfSome}
use Rattle.std.specs.FinMap.{FinMap, get}
use Rattle.std.specs.Ordering.{nat_cmp}
use Rattle.geos_model.specs.Heap.{ChunkMap, chunk_bytes}
use Rattle.geos_model.proofs.Tables.{get-table_map_at, get-table_map_off}
use Rattle.lmem_heap.specs.Stored.{Stored}
use Rattle.lmem_heap.specs.Placed.{Placed, placed_in}
use Rattle.lmem_heap.proofs.PlacedLemmas.{shown_chunks, shown_places, get_slot, get_other}
use Rattle.lmem_heap.proofs.StoredLemmas.{heap_disjoint, heap_behind}
use Rattle.lmem_heap.proofs.heap.Heap.offset.Goals as goal

-- the chunk under the handle of a slot
bytes_here : (t : Stored) (m : Placed) (i h : ℕ) → placed_in t ≡ m → h ≡ 16 + 2 * i → unwrap_or (get_or t.chunks i None) [] ≡ chunk_bytes m.chunks h
bytes_here t m i h shows at = sym (ap (λ (x : ChunkMap). chunk_bytes x h) (sym (shown_chunks t m shows)) ∙ ap (λ (o : Option (List ℕ)). unwrap_or o []) (get_slot t.chunks i h at))

pub returns-in_err-i-clause-place : goal.returns-in_err-i-clause-place
returns-in_err-i-clause-place c =
    c.from_residual.ensures ∙ (sym (get-table_map_off (omega arith) 16 c.self.inside.table.offsets c.args.h.0 (λ k l e. c.in_err-i.ensures k (omega (arith, c.len.ensures.offsets)) e))
    ∙ ap (λ (m : FinMap nat_cmp ℕ). get m c.args.h.0) (shown_places c.self.inside.table c.args.self.now c.self.view_is))

pub returns-in_err-i-clause-there : goal.returns-in_err-i-clause-there
returns-in_err-i-clause-there c =
    let t = c.self.inside.table in let m = c.args.self.now in let h = c.args.h.0 in
    let none : get m.chunks h ≡ None = ap (λ (x : ChunkMap). get x h) (sym (shown_chunks t m c.self.view_is)) ∙ get_other t.chunks h (λ k l e. c.in_err-i.ensures k (omega (arith, c.len.ensures.chunks)) e) in
    ap is_some c.from_residual.ensures ∙ ap (λ (o : Option (List ℕ)). nat_lt 0 (length (unwrap_or o []))) (sym none)

pub returns-clause-place : goal.returns-clause-place
returns-clause-place c =
    c.offset.ensures.place ∙ (sym (get-table_map_at (omega arith) 16 c.self.inside.table.offsets c.in_ok-i.i c.args.h.0 c.in_ok-i.ensures.1) ∙ ap (λ (m : FinMap nat_cmp ℕ). get m c.args.h.0) (shown_places c.self.inside.table c.args.self.now c.self.view_is))

pub returns-clause-there : goal.returns-clause-there
returns-clause-there c =
    c.offset.ensures.there ∙ ap (λ (b : List ℕ). nat_lt 0 (length b)) (bytes_here c.self.inside.table c.args.self.now c.in_ok-i.i c.args.h.0 c.self.view_is c.in_ok-i.ensures.1)

pub returns-clause-within : goal.returns-clause-within
returns-clause-within c =
    subst (λ (b : List ℕ). IfSome c.offset.result (λ n. n + length b ≤ 65520)) (bytes_here c.self.inside.table c.args.self.now c.in_ok-i.i c.args.h.0 c.self.view_is c.in_ok-i.ensures.1) c.offset.ensures.within

pub returns-in_err-i-clause-apart : goal.returns-in_err-i-clause-apart
returns-in_err-i-clause-apart c = heap_disjoint c.self.inside.table c.args.self.now c.self.view_is c.len.ensures.apart

pub returns-in_err-i-clause-behind : goal.returns-in_err-i-clause-behind
returns-in_err-i-clause-behind c = heap_behind c.self.inside.table c.args.self.now c.self.view_is c.len.ensures.behind

pub returns-clause-apart : goal.returns-clause-apart
returns-clause-apart c = heap_disjoint c.self.inside.table c.args.self.now c.self.view_is c.len.ensures.apart

pub returns-clause-behind : goal.returns-clause-behind
returns-clause-behind c = heap_behind c.self.inside.table c.args.self.now c.self.view_is c.len.ensures.behind
