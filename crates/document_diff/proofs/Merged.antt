-- Two heaps are compared by the handles of their chunks, walked side by side.
use Rattle.std.proofs.Common.{◌≡◌, ℕ, suc, zero, ◌+◌, ◌<◌, ◌≤◌, min, Bool, true, false, cond, List, [], ◌∷◌, ◌++◌, length, map, filter, Option, Some, None, is_some, refl, sym, ap, subst, ◌∙◌, arith, inl, inr, flat_map, append_assoc, append-nil, eq-eqb, if◌then◌else◌, ◌==◌}
use Rattle.std.proofs.lemmas.Bool.{cases_eq, cond-false, cond-true, ne_eqb}
use Rattle.std.proofs.lemmas.List.{length-map}
use Rattle.std.specs.List.{range_with_len}
use Rattle.std.specs.FinMap.{contains_key, get}
use Rattle.geos_model.specs.Heap.{ChunkMap, chunk_handles, handle_of, most_chunks}
use Rattle.geos_model.specs.declared.handle.VmHandle.{VmHandle}
use Rattle.geos_model.specs.declared.handle.ChunkHandle.{ChunkHandle}
use Rattle.document_diff.specs.Differences.{chunk_compared, chunk_named, heap_compared}
use Rattle.document_diff.specs.Lines.{diff_lines}
use Rattle.document_diff.specs.Merging.{handle_numbers, lesser_first, live_chunks, rest_behind}
use Rattle.document_diff.specs.declared.difference.Difference.{Difference}
use Rattle.document_diff.proofs.Texts.{text_append}

-- the handles of so many entries of a table
abbrev pub row : ℕ → ℕ → List ℕ
row i k = map handle_of (range_with_len i k)

-- the first one is higher
abbrev IsAbove : ℕ → List ℕ → Type 0
IsAbove h [] = Unit {0}
IsAbove h (x ∷ xs) = h < x

above_row : (p : ℕ → Bool) (h i k : ℕ) → h < handle_of i → IsAbove h (filter p (row i k))
above_row p h i zero low = tt
above_row p h i (suc k) low = elim (p (handle_of i)) as (λ b. IsAbove h (cond b (handle_of i ∷ filter p (row (i + 1) k)) (filter p (row (i + 1) k)))) [
  | true ↦ low
  | false ↦ above_row p h (i + 1) k (omega (arith, low))
]

lesser_left : (h : ℕ) (xs ys : List ℕ) → IsAbove h ys → lesser_first (h ∷ xs) ys ≡ Some h
lesser_left h xs [] above = refl
lesser_left h xs (y ∷ ys) above = let least : min h y ≡ h = omega (arith, above) in ap Some least

lesser_right : (h : ℕ) (xs ys : List ℕ) → IsAbove h xs → lesser_first xs (h ∷ ys) ≡ Some h
lesser_right h [] ys above = refl
lesser_right h (x ∷ xs) ys above = let least : min x h ≡ h = omega (arith, above) in ap Some least

lesser_both : (h : ℕ) (xs ys : List ℕ) → lesser_first (h ∷ xs) (h ∷ ys) ≡ Some h
lesser_both h xs ys = let least : min h h ≡ h = omega arith in ap Some least

goes : (x h : ℕ) (xs : List ℕ) → x ≡ h → rest_behind h (x ∷ xs) ≡ xs
goes x h xs e = cond-true _ _ _ (eq-eqb x h e)

stays : (h : ℕ) (xs : List ℕ) → IsAbove h xs → rest_behind h xs ≡ xs
stays h [] above = refl
stays h (x ∷ xs) above = cond-false _ _ _ (ne_eqb x h (λ e. omega (arith, e, above)))

-- what a row tells, of which these handles are in the lists: nothing, or what differs under the lesser first one and
-- then what a later row does
record Next (f : ℕ → List Difference) (p q : ℕ → Bool) (xs ys : List ℕ) (ds : List Difference) (h : ℕ) : Type 0 where
  pub i : ℕ
  pub k : ℕ
  pub first : rest_behind h xs ≡ filter p (row i k)
  pub second : rest_behind h ys ≡ filter q (row i k)
  pub told : ds ≡ f h ++ flat_map f (row i k)

abbrev IsTold : (ℕ → List Difference) → (ℕ → Bool) → (ℕ → Bool) → List ℕ → List ℕ → List Difference → Option ℕ → Type 0
IsTold f p q xs ys ds None = ds ≡ []
IsTold f p q xs ys ds (Some h) = Next f p q xs ys ds h

-- nothing differs where neither list has a handle
module _ (f : ℕ → List Difference) (p q : ℕ → Bool) (silent : (c : ℕ) → p c ≡ false → q c ≡ false → f c ≡ []) where
  abbrev IsRowTold : List ℕ → List ℕ → List Difference → Type 0
  IsRowTold xs ys ds = IsTold f p q xs ys ds (lesser_first xs ys)

  -- by whether the lists have the first handle of a row
  told_by : (i k : ℕ) (b c : Bool) → p (handle_of i) ≡ b → q (handle_of i) ≡ c → IsRowTold (filter p (row (i + 1) k)) (filter q (row (i + 1) k)) (flat_map f (row (i + 1) k))
      → IsRowTold (cond b (handle_of i ∷ filter p (row (i + 1) k)) (filter p (row (i + 1) k))) (cond c (handle_of i ∷ filter q (row (i + 1) k)) (filter q (row (i + 1) k))) (f (handle_of i) ++ flat_map f (row (i + 1) k))
  told_by i k true true is also later =
      let h = handle_of i in let xs = filter p (row (i + 1) k) in let ys = filter q (row (i + 1) k) in
      subst (IsTold f p q (h ∷ xs) (h ∷ ys) (f h ++ flat_map f (row (i + 1) k))) (sym (lesser_both h xs ys))
      (record { i = i + 1; k = k; first = goes h h xs refl; second = goes h h ys refl; told = refl })
  told_by i k true false is isnt later =
      let h = handle_of i in let xs = filter p (row (i + 1) k) in let ys = filter q (row (i + 1) k) in
      let above = above_row q h (i + 1) k (omega arith) in
      subst (IsTold f p q (h ∷ xs) ys (f h ++ flat_map f (row (i + 1) k))) (sym (lesser_left h xs ys above))
      (record { i = i + 1; k = k; first = goes h h xs refl; second = stays h ys above; told = refl })
  told_by i k false true isnt is later =
      let h = handle_of i in let xs = filter p (row (i + 1) k) in let ys = filter q (row (i + 1) k) in
      let above = above_row p h (i + 1) k (omega arith) in
      subst (IsTold f p q xs (h ∷ ys) (f h ++ flat_map f (row (i + 1) k))) (sym (lesser_right h xs ys above))
      (record { i = i + 1; k = k; first = stays h xs above; second = goes h h ys refl; told = refl })
  told_by i k false false isnt neither later =
      subst (λ (ds : List Difference). IsRowTold (filter p (row (i + 1) k)) (filter q (row (i + 1) k)) (ds ++ flat_map f (row (i + 1) k))) (sym (silent (handle_of i) isnt neither)) later

  told_row : (i k : ℕ) → IsRowTold (filter p (row i k)) (filter q (row i k)) (flat_map f (row i k))
  told_row i zero = refl
  told_row i (suc k) = told_by i k (p (handle_of i)) (q (handle_of i)) refl refl (told_row (i + 1) k)

  told_first : (i k : ℕ) (xs ys : List ℕ) (o : Option ℕ) → xs ≡ filter p (row i k) → ys ≡ filter q (row i k) → lesser_first xs ys ≡ o → IsTold f p q xs ys (flat_map f (row i k)) o
  told_first i k xs ys o xs_are ys_are least =
      let so : IsRowTold xs ys (flat_map f (row i k)) =
      subst (λ (l : List ℕ). IsRowTold l ys (flat_map f (row i k))) (sym xs_are) (subst (λ (l : List ℕ). IsRowTold (filter p (row i k)) l (flat_map f (row i k))) (sym ys_are) (told_row i k)) in
      subst (IsTold f p q xs ys (flat_map f (row i k))) least so

-- Each step takes a handle from a list.

length-rest : (h : ℕ) (xs : List ℕ) → length (rest_behind h xs) ≤ length xs
length-rest h [] = omega arith
length-rest h (x ∷ xs) = elim (x == h) as (λ b. length (if b then xs else x ∷ xs) ≤ length (x ∷ xs)) [
  | true ↦ omega arith
  | false ↦ omega arith
]

length-goes : (x h : ℕ) (xs : List ℕ) → x ≡ h → length (rest_behind h (x ∷ xs)) < length (x ∷ xs)
length-goes x h xs e = let less = ap length (goes x h xs e) in omega (arith, less)

fewer : (xs ys : List ℕ) (h : ℕ) → lesser_first xs ys ≡ Some h → length (rest_behind h xs) + length (rest_behind h ys) < length xs + length ys
fewer [] [] h e = absurd (cc e)
fewer (x ∷ xs) [] h e = let at : x ≡ h = cc in let less = length-goes x h xs at in omega (arith, less)
fewer [] (y ∷ ys) h e = let at : y ≡ h = cc in let less = length-goes y h ys at in omega (arith, less)
fewer (x ∷ xs) (y ∷ ys) h e =
    let at : min x y ≡ h = cc in
    elim (cases_eq x h) [
      | inl here ↦ (let less = length-goes x h xs here in let rest = length-rest h (y ∷ ys) in omega (arith, less, rest))
      | inr apart ↦ (let there : y ≡ h = omega (arith, at, apart) in let less = length-goes y h ys there in let rest = length-rest h (x ∷ xs) in omega (arith, less, rest))
    ]

pub fewer_left : (before after old new : List ChunkHandle) (h : ℕ) → lesser_first (handle_numbers before) (handle_numbers after) ≡ Some h → handle_numbers old ≡ rest_behind h (handle_numbers before)
    → handle_numbers new ≡ rest_behind h (handle_numbers after) → length old + length new < length before + length after
fewer_left before after old new h least old_is new_is =
    let less = fewer (handle_numbers before) (handle_numbers after) h least in
    let old_size = ap length old_is in
    let new_size = ap length new_is in
    let size : (hs : List ChunkHandle) → length (handle_numbers hs) ≡ length hs = λ hs. length-map hs (λ (c : ChunkHandle). c.0) in
    omega (arith, less, old_size, new_size, size before, size after, size old, size new)

-- Heaps.

abbrev compared_under : VmHandle → ChunkMap → ChunkMap → ℕ → List Difference
compared_under b m n c = chunk_compared b (chunk_named c) (get m c) (get n c)

none_there : (b : VmHandle) (c : ChunkHandle) (x y : Option (List ℕ)) → is_some x ≡ false → is_some y ≡ false → chunk_compared b c x y ≡ []
none_there b c None None isnt neither = refl
none_there b c None (Some y) isnt neither = absurd (cc neither)
none_there b c (Some x) y isnt neither = absurd (cc isnt)

-- what is written so far, and which handles are left; a row of the table holds these, and what is yet to be told
pub record IsMerging (b : VmHandle) (m n : ChunkMap) (start now : List ℕ) (before after : List ChunkHandle) : Type 0 where
  pub i : ℕ
  pub k : ℕ
  pub before_is : handle_numbers before ≡ filter (contains_key m) (row i k)
  pub after_is : handle_numbers after ≡ filter (contains_key n) (row i k)
  pub told : now ++ diff_lines (flat_map (compared_under b m n) (row i k)) ≡ start ++ diff_lines (heap_compared b m n)

module _ (b : VmHandle) (m n : ChunkMap) (start : List ℕ) where
  silent_at : (c : ℕ) → contains_key m c ≡ false → contains_key n c ≡ false → compared_under b m n c ≡ []
  silent_at c isnt neither = none_there b (chunk_named c) (get m c) (get n c) isnt neither

  pub merging_none : (before after : List ChunkHandle) → handle_numbers before ≡ live_chunks m → handle_numbers after ≡ live_chunks n → IsMerging b m n start start before after
  unfolding chunk_handles heap_compared
  merging_none before after old new = record { i = 0; k = most_chunks; before_is = old; after_is = new; told = refl }

  pub merging_more : (now later : List ℕ) (before after old new : List ChunkHandle) (chunk : ChunkHandle) → IsMerging b m n start now before after
      → lesser_first (handle_numbers before) (handle_numbers after) ≡ Some chunk.0 → later ≡ now ++ diff_lines (compared_under b m n chunk.0)
      → handle_numbers old ≡ rest_behind chunk.0 (handle_numbers before) → handle_numbers new ≡ rest_behind chunk.0 (handle_numbers after) → IsMerging b m n start later old new
  merging_more now later before after old new chunk so_far least step old_is new_is =
      let f : ℕ → List Difference = compared_under b m n in
      let next = told_first f (contains_key m) (contains_key n) silent_at so_far.i so_far.k (handle_numbers before) (handle_numbers after) (Some chunk.0) so_far.before_is so_far.after_is least in
      let rest : List Difference = flat_map f (row next.i next.k) in
      record {
        i = next.i;
        k = next.k;
        before_is = old_is ∙ next.first;
        after_is = new_is ∙ next.second;
        told = ap (λ (l : List ℕ). l ++ diff_lines rest) step ∙ append_assoc now (diff_lines (f chunk.0)) (diff_lines rest) ∙ ap (λ (l : List ℕ). now ++ l) (sym (text_append (f chunk.0) rest))
            ∙ ap (λ (ds : List Difference). now ++ diff_lines ds) (sym next.told) ∙ so_far.told;
      }

  pub merging_all : (now : List ℕ) (before after : List ChunkHandle) → IsMerging b m n start now before after → lesser_first (handle_numbers before) (handle_numbers after) ≡ None
      → now ≡ start ++ diff_lines (heap_compared b m n)
  merging_all now before after so_far least =
      let none = told_first (compared_under b m n) (contains_key m) (contains_key n) silent_at so_far.i so_far.k (handle_numbers before) (handle_numbers after) None so_far.before_is so_far.after_is least in
      sym (append-nil now) ∙ ap (λ (ds : List Difference). now ++ diff_lines ds) (sym none) ∙ so_far.told
