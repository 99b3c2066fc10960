use Rattle.std.proofs.Common.{ℕ, ◌==◌, not, is_some, ap, sym, ◌∙◌, arith}
use Rattle.lmem_heap.specs.Pieces.{entry}
use Rattle.lmem_heap.proofs.TiledLemmas.{chunk_in, under_some}
use Rattle.lmem_heap.proofs.EntryLemmas.{entry_ends}
use Rattle.lmem_heap.proofs.space.Space.has_chunk.Goals as goal

pub entry-requires : goal.entry-requires
entry-requires c = omega (arith, entry_ends c.requires.well_formed c.args.i c.requires.slot)

pub returns : goal.returns
returns c =
    let s = c.args.self.now in
    ap (λ (e : ℕ). not (e == 0)) c.entry.ensures.value
    ∙ (sym (under_some s.region (entry s.region c.args.i)) ∙ ap is_some (sym (chunk_in s.region s.slots c.args.i c.requires.slot)))
