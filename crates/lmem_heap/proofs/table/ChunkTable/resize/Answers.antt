use Rattle.std.proofs.Common.{◌≡◌, ◌≤◌, ◌<◌, ◌∙◌, ℕ, List, [], Option, Some, None, length, get_or, set, replicate, unwrap_or, sym, ap, subst, arith}
use Rattle.std.proofs.lemmas.List.{length-replicate}
use Rattle.geos_model.specs.Bytes.{resized}
use Rattle.geos_model.specs.Heap.{space_of}
use Rattle.geos_model.proofs.HeapTables.{space_of_some}
use Rattle.lmem_heap.specs.Pieces.{entry}
use Rattle.lmem_heap.specs.Tiled.{chunks_in}
use Rattle.heap_images.specs.Slots.{need_in}
use Rattle.lmem_heap.proofs.EntryLemmas.{space_live, space_dead}
use Rattle.lmem_heap.proofs.StoredLemmas.{shown, in_table, empty_entry, live_entry, need_shown, place_fits, stored_set, stored_vacated}
use Rattle.lmem_heap.proofs.LendsChunkLemmas.{run_size}
use Rattle.lmem_heap.proofs.ResizingLemmas.{count_resized}
use Rattle.lmem_heap.proofs.ChunkBytesLemmas.{resized_empty}
use Rattle.lmem_heap.proofs.table.ChunkTable.resize.Goals as goal

pub find_run-size-requires-clause-slot : goal.find_run-size-requires-clause-slot
find_run-size-requires-clause-slot c = in_table c.self.inside.space c.args.self.now c.args.i c.self.invariant c.self.view_is c.requires.slot

pub vacate-requires-clause-slot : goal.vacate-requires-clause-slot
vacate-requires-clause-slot c = in_table c.self.inside.space c.args.self.now c.args.i c.self.invariant c.self.view_is c.requires.slot

pub place-requires-clause-slot : goal.place-requires-clause-slot
place-requires-clause-slot c = in_table c.self.inside.space c.args.self.now c.args.i c.self.invariant c.self.view_is c.requires.slot

pub resize-requires-clause-slot : goal.resize-requires-clause-slot
resize-requires-clause-slot c = in_table c.self.inside.space c.args.self.now c.args.i c.self.invariant c.self.view_is c.requires.slot

pub invariant_of-self : goal.invariant_of-self
invariant_of-self c =
    let s = c.self.inside.space in let e = c.vacate.ensures in
    stored_vacated s c.vacate.new.self c.args.i 1 c.self.invariant e.well_formed (in_table s c.args.self.now c.args.i c.self.invariant c.self.view_is c.requires.slot) e.changed.chunks e.total

pub place-requires-clause-none : goal.place-requires-clause-none
place-requires-clause-none c =
    let s = c.self.inside.space in let m = c.args.self.now in let i = c.args.i in let n = c.args.n in let r = c.find_run-size in let b = unwrap_or (get_or m.chunks i None) [] in
    let count = run_size s m i r.result.from r.result.size c.self.invariant c.self.view_is c.requires.slot r.ensures in let l = in_table s m i c.self.invariant c.self.view_is c.requires.slot in
    let none : length b ≡ 0 = count ∙ c.if-size-eq0.true in let same : resized b n ≡ replicate n 0 = resized_empty b n none in
    empty_entry s m i c.self.invariant c.self.view_is c.requires.slot none

pub place-requires-clause-fits : goal.place-requires-clause-fits
place-requires-clause-fits c =
    let s = c.self.inside.space in let m = c.args.self.now in let i = c.args.i in let n = c.args.n in let r = c.find_run-size in let b = unwrap_or (get_or m.chunks i None) [] in
    let count = run_size s m i r.result.from r.result.size c.self.invariant c.self.view_is c.requires.slot r.ensures in let l = in_table s m i c.self.invariant c.self.view_is c.requires.slot in
    let none : length b ≡ 0 = count ∙ c.if-size-eq0.true in let same : resized b n ≡ replicate n 0 = resized_empty b n none in
    place_fits s m i c.self.invariant c.self.view_is c.requires.slot n none (subst (λ (x : List ℕ). need_in (set m.chunks i (Some x)) ≤ 65520) same c.requires.room)

pub invariant_of-self-then-size-eq0 : goal.invariant_of-self-then-size-eq0
invariant_of-self-then-size-eq0 c =
    let s = c.self.inside.space in let m = c.args.self.now in let i = c.args.i in let n = c.args.n in let r = c.find_run-size in let b = unwrap_or (get_or m.chunks i None) [] in
    let count = run_size s m i r.result.from r.result.size c.self.invariant c.self.view_is c.requires.slot r.ensures in let l = in_table s m i c.self.invariant c.self.view_is c.requires.slot in
    let none : length b ≡ 0 = count ∙ c.if-size-eq0.true in let same : resized b n ≡ replicate n 0 = resized_empty b n none in
    let e = c.place.ensures in let z : List ℕ = replicate n 0 in
    stored_set s c.place.new.self i (Some z) c.self.invariant e.well_formed l e.chunks
    (omega (arith, e.total, space_dead s.region (entry s.region i) (empty_entry s m i c.self.invariant c.self.view_is c.requires.slot none), ap space_of (length-replicate {A = ℕ} n 0)))

pub returns-then-size-eq0 : goal.returns-then-size-eq0
returns-then-size-eq0 c =
    let s = c.self.inside.space in let m = c.args.self.now in let i = c.args.i in let n = c.args.n in let r = c.find_run-size in let b = unwrap_or (get_or m.chunks i None) [] in
    let count = run_size s m i r.result.from r.result.size c.self.invariant c.self.view_is c.requires.slot r.ensures in let l = in_table s m i c.self.invariant c.self.view_is c.requires.slot in
    let none : length b ≡ 0 = count ∙ c.if-size-eq0.true in let same : resized b n ≡ replicate n 0 = resized_empty b n none in
    c.place.ensures.chunks ∙ (ap (λ (cs : List (Option (List ℕ))). set cs i (Some (replicate n 0))) (shown s m c.self.view_is).chunks ∙ ap (λ (x : List ℕ). set m.chunks i (Some x)) (sym same))

pub resize-requires-clause-fits : goal.resize-requires-clause-fits
resize-requires-clause-fits c =
    let s = c.self.inside.space in let m = c.args.self.now in let i = c.args.i in let n = c.args.n in let r = c.find_run-size in let b = unwrap_or (get_or m.chunks i None) [] in
    let count = run_size s m i r.result.from r.result.size c.self.invariant c.self.view_is c.requires.slot r.ensures in let l = in_table s m i c.self.invariant c.self.view_is c.requires.slot in
    let live : 1 < entry s.region i = live_entry s m i c.self.invariant c.self.view_is c.requires.slot (omega (arith, count, c.if-size-eq0.false)) in
    let taken = space_live s c.self.invariant.well_formed i l live in let count_n = count_resized b n in
    omega (arith, c.requires.room, need_shown s m i c.self.invariant c.self.view_is c.requires.slot (resized b n), taken, ap space_of count_n, space_of_some n (omega arith))

pub invariant_of-self-else-size-eq0 : goal.invariant_of-self-else-size-eq0
invariant_of-self-else-size-eq0 c =
    let s = c.self.inside.space in let m = c.args.self.now in let i = c.args.i in let n = c.args.n in let r = c.find_run-size in let b = unwrap_or (get_or m.chunks i None) [] in
    let count = run_size s m i r.result.from r.result.size c.self.invariant c.self.view_is c.requires.slot r.ensures in let l = in_table s m i c.self.invariant c.self.view_is c.requires.slot in
    let live : 1 < entry s.region i = live_entry s m i c.self.invariant c.self.view_is c.requires.slot (omega (arith, count, c.if-size-eq0.false)) in
    let taken = space_live s c.self.invariant.well_formed i l live in let count_n = count_resized b n in
    let e = c.resize.ensures in let old = unwrap_or (get_or (chunks_in s.region s.slots) i None) [] in
    stored_set s c.resize.new.self i (Some (resized old n)) c.self.invariant e.well_formed l e.resized.chunks (omega (arith, e.resized.total, taken, ap space_of (count_resized old n), space_of_some n (omega arith)))
