use Rattle.std.proofs.Common.{Some, arith, ap, sym, ◌∙◌}
use Rattle.std.specs.FinMap.{get}
use Rattle.geos_model.specs.Heap.{ChunkMap}
use Rattle.lmem_heap.proofs.PlacedLemmas.{shown_chunks, get_slot, get_other, valid_is}
use Rattle.lmem_heap.proofs.MarkLemmas.{known_kind}
use Rattle.lmem_heap.proofs.heap.Heap.known_chunk.Goals as goal

pub returns-in_err-i-clause-value : goal.returns-in_err-i-clause-value
returns-in_err-i-clause-value c =
    let s = c.self.inside in let t = s.table.chunks in let h = c.args.h.0 in let shows = shown_chunks s.table c.args.self.now c.self.view_is in
    c.from_residual.ensures ∙ (sym (get_other t h (λ k l e. c.in_err-i.ensures k (omega (arith, c.len.ensures.chunks)) e)) ∙ ap (λ (m : ChunkMap). get m h) shows)

pub returns-in_err-i-clause-valid : goal.returns-in_err-i-clause-valid
returns-in_err-i-clause-valid c = let s = c.self.inside in valid_is s.table.chunks s.gap c.args.self.now.chunks (shown_chunks s.table c.args.self.now c.self.view_is) c.self.invariant.0

pub returns-in_err-bytes-clause-value : goal.returns-in_err-bytes-clause-value
returns-in_err-bytes-clause-value c =
    let s = c.self.inside in let t = s.table.chunks in let h = c.args.h.0 in let shows = shown_chunks s.table c.args.self.now c.self.view_is in
    c.from_residual-in_err-bytes.ensures ∙ (c.in_err-bytes.ensures ∙ (sym (get_slot t c.in_ok-i.i h c.in_ok-i.ensures.1) ∙ ap (λ (m : ChunkMap). get m h) shows))

pub returns-in_err-bytes-clause-valid : goal.returns-in_err-bytes-clause-valid
returns-in_err-bytes-clause-valid c = let s = c.self.inside in valid_is s.table.chunks s.gap c.args.self.now.chunks (shown_chunks s.table c.args.self.now c.self.view_is) c.self.invariant.0

pub of_kind-requires : goal.of_kind-requires
of_kind-requires c =
    let s = c.self.inside in
    known_kind s.table.chunks s.marks.list.items c.in_ok-i.i c.in_ok-bytes.bytes.now c.kind_of.result c.self.invariant.1 c.kind_of.ensures c.in_ok-bytes.ensures

pub returns-clause-value : goal.returns-clause-value
returns-clause-value c =
    let s = c.self.inside in let t = s.table.chunks in let h = c.args.h.0 in let shows = shown_chunks s.table c.args.self.now c.self.view_is in
    ap Some c.of_kind.ensures ∙ (c.in_ok-bytes.ensures ∙ (sym (get_slot t c.in_ok-i.i h c.in_ok-i.ensures.1) ∙ ap (λ (m : ChunkMap). get m h) shows))

pub returns-clause-valid : goal.returns-clause-valid
returns-clause-valid c = let s = c.self.inside in valid_is s.table.chunks s.gap c.args.self.now.chunks (shown_chunks s.table c.args.self.now c.self.view_is) c.self.invariant.0
