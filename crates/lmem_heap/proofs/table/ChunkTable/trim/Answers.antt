use Rattle.std.proofs.Common.{◌∙◌, sym, ap, List, Option, ℕ, None, get_or, refl, arith}
use Rattle.lmem_heap.specs.Stored.{store_of}
use Rattle.lmem_heap.proofs.TiledLemmas.{length-chunks_in}
use Rattle.lmem_heap.proofs.StoredLemmas.{shown, stored_cut, cut_gaps, cut_offsets, cut_trimmed}
use Rattle.lmem_heap.proofs.table.ChunkTable.trim.Goals as goal

pub invariant_of-self : goal.invariant_of-self
invariant_of-self c =
    let s = c.self.inside.space in let u = c.trim.new.self in let e = c.trim.ensures in
    stored_cut s u e.region e.less e.none c.self.invariant e.well_formed e.total e.chunks

pub returns-clause-gaps : goal.returns-clause-gaps
returns-clause-gaps c = λ j above.
    let s = c.self.inside.space in let u = c.trim.new.self in let e = c.trim.ensures in
    ap (λ (cs : List (Option (List ℕ))). get_or cs j None) (sym (shown s c.args.self.now c.self.view_is).chunks) ∙ cut_gaps s u e.region e.less e.none j (omega (arith, length-chunks_in u.region u.slots))

pub returns-clause-trimmed : goal.returns-clause-trimmed
returns-clause-trimmed c =
    let s = c.self.inside.space in let u = c.trim.new.self in let e = c.trim.ensures in
    cut_trimmed s u (store_of u.region u.slots) (shown u (store_of u.region u.slots) refl) c.self.invariant.well_formed e.less e.chunks e.last

pub returns-clause-offsets : goal.returns-clause-offsets
returns-clause-offsets c = λ j.
    let s = c.self.inside.space in let u = c.trim.new.self in let e = c.trim.ensures in
    cut_offsets s u e.region e.less e.none j ∙ ap (λ (os : List (Option ℕ)). get_or os j None) (shown s c.args.self.now c.self.view_is).offsets
