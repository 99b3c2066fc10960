use Rattle.std.proofs.Common.{◌≡◌, ◌+◌, ◌-◌, ◌≤◌, ℕ, List, true, length, inl, inr, arith, sym, ap, ◌∙◌, drop, length-drop}
use Rattle.std.proofs.lemmas.Bool.{cases_lt}
use Rattle.std.proofs.lemmas.List.{length-take-le}
use Rattle.std.specs.FinMap.{contains_key}
use Rattle.geos_model.specs.Heap.{ChunkMap, fits_with, is_heap_map}
use Rattle.geos_model.specs.Bytes.{spliced}
use Rattle.geos_model.proofs.HeapTables.{fits_with-many}
use Rattle.chunk_edits.proofs.FoundLemmas.{found_short}
use Rattle.chunk_edits.proofs.SplicingLemmas.{length-splice}
use Rattle.chunk_edits.proofs.chunk.splice.Goals as goal

-- what fits is no longer than the greatest chunk
fitting : (m : ChunkMap) (h : ℕ) (bytes : List ℕ) → is_heap_map m ≡ true → contains_key m h ≡ true → fits_with m h bytes ≡ true → length bytes ≤ 65520
fitting m h bytes heap live fits = elim (cases_lt 65520 (length bytes)) [
  | inl many ↦ absurd (cc (sym (fits_with-many m h bytes heap live many) ∙ fits))
  | inr few ↦ few
]

pub of-requires-clause-old : goal.of-requires-clause-old
of-requires-clause-old c =
    let all = c.args.bytes.now in let at = c.args.at in let n = c.args.n in let within = c.in_ok-old.ensures.0 in
    omega (arith, within, ap length c.in_ok-old.ensures.1, length-take-le n (drop at all) (omega (arith, within, length-drop at all)), found_short c.args.heap.now.chunks c.args.h.0 all c.requires)

pub of-requires-clause-new : goal.of-requires-clause-new
of-requires-clause-new c =
    let m = c.args.heap.now.chunks in let h = c.args.h.0 in let at = c.args.at in let n = c.args.n in
    let all = c.args.bytes.now in let new = c.args.new.now in let found = c.requires in
    let made : List ℕ = spliced all at n new in
    let within = c.in_ok-old.ensures.0 in
    let old : length c.in_ok-old.old.now ≡ n = ap length c.in_ok-old.ensures.1 ∙ length-take-le n (drop at all) (omega (arith, within, length-drop at all)) in
    let size : length made ≡ at + length new + (length all - (at + n)) = length-splice all new at (at + n) (omega (arith, within)) in
    let fits : fits_with m h made ≡ true = sym (c.fits_size.ensures made (omega (arith, within, old, size))) ∙ c.if-not-fits_size.false in
    let few = fitting m h made found.valid found.live fits in
    omega (arith, few, size)
