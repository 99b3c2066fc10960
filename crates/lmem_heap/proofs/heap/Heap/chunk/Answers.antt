use Rattle.std.proofs.Common.{arith, ap, sym, ◌∙◌}
use Rattle.std.specs.FinMap.{get}
use Rattle.std.specs.Option.{option_copied}
use Rattle.geos_model.specs.Heap.{ChunkMap}
use Rattle.lmem_heap.proofs.PlacedLemmas.{shown_chunks, get_slot, get_other, valid_is}
use Rattle.lmem_heap.proofs.heap.Heap.chunk.Goals as goal

pub returns-in_err-i : goal.returns-in_err-i
returns-in_err-i c =
    let s = c.self.inside in let t = s.table.chunks in let shows = shown_chunks s.table c.args.self.now c.self.view_is in
    record {
      value = ap option_copied c.from_residual.ensures ∙ (sym (get_other t c.args.h.0 (λ k l e. c.in_err-i.ensures k (omega (arith, c.len.ensures.chunks)) e)) ∙ ap (λ (m : ChunkMap). get m c.args.h.0) shows);
      valid = valid_is t s.gap c.args.self.now.chunks shows c.self.invariant.0;
    }

pub returns : goal.returns
returns c =
    let s = c.self.inside in let t = s.table.chunks in let shows = shown_chunks s.table c.args.self.now c.self.view_is in
    record {
      value = c.chunk.ensures ∙ (sym (get_slot t c.in_ok-i.i c.args.h.0 c.in_ok-i.ensures.1) ∙ ap (λ (m : ChunkMap). get m c.args.h.0) shows);
      valid = valid_is t s.gap c.args.self.now.chunks shows c.self.invariant.0;
    }
