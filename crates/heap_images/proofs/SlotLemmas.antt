-- Slots with chunks, or with none.
use Rattle.std.proofs.Common.{◌≡◌, ℕ, ◌+◌, ◌*◌, ◌/◌, ◌<◌, ◌≤◌, ◌==◌, true, false, List, [], length, get_or, take, Option, Some, None, is_some, refl, ap, inl, inr, arith}
use Rattle.std.proofs.lemmas.Bool.{cases_eq, cond-false, ne_eqb}
use Rattle.std.proofs.lemmas.List.Sums.{sum_by_more}
use Rattle.std.specs.Option.{option_map}
use Rattle.geos_model.proofs.Table.{slot_space, table_map, IsTrimmed}
use Rattle.geos_model.specs.Heap.{need, space_of, is_heap_map}
use Rattle.geos_model.proofs.HeapTables.{need-table, is_heap_map-trimmed}
use Rattle.heap_images.specs.Packed.{PackedSlots}
use Rattle.heap_images.proofs.PackedLemmas.{slot_some}
use Rattle.heap_images.specs.Slots.{space_in, need_in}

pub need_is : (t : PackedSlots) → IsTrimmed t → need (table_map 2 16 t) ≡ need_in t
need_is t trimmed = need-table t trimmed

pub is_heap : (t : PackedSlots) → IsTrimmed t → need_in t ≤ 65520 → is_heap_map (table_map 2 16 t) ≡ true
is_heap t trimmed room = is_heap_map-trimmed t trimmed (omega (arith, need_is t trimmed))

-- a slot by its size
pub none_by_size : (o : Option (List ℕ)) (size : Option ℕ) → size ≡ option_map length o → is_some size ≡ false → o ≡ None
none_by_size None size is none = refl
none_by_size (Some b) size is none = let e : is_some size ≡ true = ap is_some is in cc

pub some_by_size : (o : Option (List ℕ)) (size : Option ℕ) → size ≡ option_map length o → is_some size ≡ true → is_some o ≡ true
some_by_size None size is live = let e : is_some size ≡ false = ap is_some is in cc
some_by_size (Some b) size is live = refl

pub space_some : (t : PackedSlots) (i size : ℕ) → i < length t → Some size ≡ option_map length (get_or t i None) → space_in (take (i + 1) t) ≡ space_in (take i t) + space_of size
space_some t i size l is =
    let slot = slot_some (get_or t i None) size is in
    omega (arith, sum_by_more slot_space t i None l, ap slot_space slot.1, ap space_of slot.2)

pub space_none : (t : PackedSlots) (i : ℕ) → i < length t → get_or t i None ≡ None → space_in (take (i + 1) t) ≡ space_in (take i t)
space_none t i l gap = omega (arith, sum_by_more slot_space t i None l, ap slot_space gap)

pub space_of_at_most : (n : ℕ) → space_of n ≤ n + 8
space_of_at_most n = elim (cases_eq n 0) [
  | inl e ↦ let is : space_of n ≡ 0 = ap space_of e in omega arith
  | inr e ↦ let is : space_of n ≡ 4 * ((n + 5) / 4) = cond-false (n == 0) _ _ (ne_eqb n 0 e) in omega arith
]
