use Rattle.std.proofs.Common.{◌∙◌, sym, ap, List, Option, ℕ, None, set, arith}
use Rattle.lmem_heap.proofs.StoredLemmas.{shown, in_table, stored_vacated, offsets_vacated}
use Rattle.lmem_heap.proofs.table.ChunkTable.vacate.Goals as goal

pub vacate-requires-clause-slot : goal.vacate-requires-clause-slot
vacate-requires-clause-slot c = in_table c.self.inside.space c.args.self.now c.args.i c.self.invariant c.self.view_is c.requires.slot

pub invariant_of-self : goal.invariant_of-self
invariant_of-self c =
    let s = c.self.inside.space in let l = in_table s c.args.self.now c.args.i c.self.invariant c.self.view_is c.requires.slot in let e = c.vacate.ensures in
    stored_vacated s c.vacate.new.self c.args.i c.args.e c.self.invariant e.well_formed l e.changed.chunks e.total

pub returns-clause-offsets : goal.returns-clause-offsets
returns-clause-offsets c =
    let s = c.self.inside.space in let u = c.vacate.new.self in let l = in_table s c.args.self.now c.args.i c.self.invariant c.self.view_is c.requires.slot in let e = c.vacate.ensures in
    offsets_vacated s.region u.region s.slots u.slots c.args.i e.changed.slots l e.changed.entries (omega (arith, e.entry, c.requires.entry))
    ∙ ap (λ (os : List (Option ℕ)). set os c.args.i None) (shown s c.args.self.now c.self.view_is).offsets

pub returns-clause-count : goal.returns-clause-count
returns-clause-count c = let v = shown c.self.inside.space c.args.self.now c.self.view_is in sym v.count_offsets ∙ v.count
