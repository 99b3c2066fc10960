use Rattle.std.proofs.Common.{◌≡◌, ◌*◌, ◌+◌, ℕ, Option, None, Some, MatchOption, get_or, arith, sym, ap, ◌∙◌}
use Rattle.std.specs.FinMap.{get}
use Rattle.geos_model.specs.Heap.{ChunkMap}
use Rattle.lmem_heap.specs.Found.{IsFoundAt, IsFoundIn, handle_found}
use Rattle.lmem_heap.specs.Placed.{Placed, placed_in}
use Rattle.lmem_heap.specs.Stored.{Stored}
use Rattle.lmem_heap.specs.declared.found.FoundChunk.{FoundChunk}
use Rattle.lmem_heap.proofs.FoundLemmas.{found_in}
use Rattle.lmem_heap.proofs.PlacedLemmas.{shown_chunks, get_slot, get_other, valid_is}
use Rattle.lmem_heap.proofs.heap.Heap.find_chunk.Goals as goal

-- what the table has in a slot the heap has under the slot's handle
found_here : (t : Stored) (p : Placed) (i h : ℕ) (o : Option FoundChunk) → placed_in t ≡ p → h ≡ 16 + 2 * i → MatchOption o (get_or t.chunks i None ≡ None) (λ f. (f.slot ≡ i) × IsFoundAt t f)
    → MatchOption o (get p.chunks h ≡ None) (λ f. (handle_found f ≡ h) × IsFoundIn p f)
found_here t p i h None shows at none = ap (λ (m : ChunkMap). get m h) (sym (shown_chunks t p shows)) ∙ (get_slot t.chunks i h at ∙ none)
found_here t p i h (Some f) shows at is = (omega (arith, is.0, at), found_in t p f shows is.1)

pub returns-in_err-i-clause-value : goal.returns-in_err-i-clause-value
returns-in_err-i-clause-value c =
    let s = c.self.inside in let shows = shown_chunks s.table c.args.self.now c.self.view_is in
    let none : get c.args.self.now.chunks c.args.h.0 ≡ None
    = ap (λ (m : ChunkMap). get m c.args.h.0) (sym shows) ∙ get_other s.table.chunks c.args.h.0 (λ k l e. c.in_err-i.ensures k (omega (arith, c.len.ensures.chunks)) e) in
    rw c.from_residual.ensures none

pub returns-in_err-i-clause-valid : goal.returns-in_err-i-clause-valid
returns-in_err-i-clause-valid c = let s = c.self.inside in valid_is s.table.chunks s.gap c.args.self.now.chunks (shown_chunks s.table c.args.self.now c.self.view_is) c.self.invariant.0

pub returns-clause-value : goal.returns-clause-value
returns-clause-value c = found_here c.self.inside.table c.args.self.now c.in_ok-i.i c.args.h.0 c.find.result c.self.view_is c.in_ok-i.ensures.1 c.find.ensures

pub returns-clause-valid : goal.returns-clause-valid
returns-clause-valid c = let s = c.self.inside in valid_is s.table.chunks s.gap c.args.self.now.chunks (shown_chunks s.table c.args.self.now c.self.view_is) c.self.invariant.0
