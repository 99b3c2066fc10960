-- An accepted edit of an array leaves an array.
use Rattle.std.proofs.Common.{◌≡◌, ◌<◌, ℕ, ◌+◌, ◌≤◌, Bool, true, false, ◌&&◌, ◌||◌, not, ◌==◌, nat_lt, List, [], ◌∷◌, ◌++◌, length, take, drop, get_or, Option, Some, None, refl, sym, ap, subst, ◌∙◌, arith, inl, inr, ltb-false, lt-ltb}
use Rattle.std.proofs.lemmas.Bool.{cases_Bool, and_parts, and_from}
use Rattle.std.proofs.lemmas.List.{take-append-drop}
use Rattle.std.proofs.lemmas.List.Folds.{list_all-append}
use Rattle.std.specs.List.{splice, list_all}
use Rattle.std.specs.Option.{unwrap_or, is_none}
use Rattle.geos_model.specs.Bytes.{resized}
use Rattle.geos_model.specs.Array.{Array, array_bytes, array_of, is_even}
use Rattle.geos_model.specs.ArrayEdits.{new_array, array_in, with_elements, element_inserted, element_set, element_resized, elements_deleted, on_array, create_conditions, insert_conditions, set_conditions, resize_conditions, delete_conditions, is_missized}
use Rattle.geos_model.specs.EditLaws.{LeavesArray, ArrayEditsLaw}
use Rattle.geos_model.specs.declared.fault.Fault.TheVariants.{NotArray, Range}
use Rattle.geos_model.proofs.Refusals.{none_applies, or_none}
use Rattle.geos_model.proofs.Arrays.{all_even, array_bytes-of, array_again}

-- what holds of all holds of the first and of the rest
list_all-parts : (p : List ℕ → Bool) (xs : List (List ℕ)) (n : ℕ) → list_all p xs ≡ true → (list_all p (take n xs) ≡ true) × (list_all p (drop n xs) ≡ true)
list_all-parts p xs n all =
    and_parts (list_all p (take n xs)) (list_all p (drop n xs)) (sym (list_all-append p (take n xs) (drop n xs)) ∙ ap (list_all p) (take-append-drop n xs) ∙ all)

sized_or : (x y : Bool) → (not x && not y) ≡ false → (x || y) ≡ true
sized_or true y e = refl
sized_or false true e = refl
sized_or false false e = sym e

fits_all : (x y : Bool) → (x || y) ≡ true → (x || (y && true)) ≡ true
fits_all true y e = refl
fits_all false true e = refl
fits_all false false e = e

or_true : (x : Bool) → (x || true) ≡ true
or_true true = refl
or_true false = refl

-- An array stays even with elements of its size in the place of others.
pub even_with : (a : Array) (extra : List ℕ) (from to : ℕ) (ys : List (List ℕ)) → is_even a ≡ true → (a.size == 0 || list_all (λ x. length x == a.size) ys) ≡ true
    → is_even (record a { extra = extra; elements = splice a.elements from to ys }) ≡ true
even_with a extra from to ys even new =
    let p : List ℕ → Bool = λ x. length x == a.size in
    let xs : List (List ℕ) = a.elements in
    let parts = and_parts (nat_lt a.size 65536) (a.size == 0 || list_all p xs) even in
    let elements : (a.size == 0 || list_all p (splice xs from to ys)) ≡ true = elim (cases_Bool (a.size == 0)) [
      | inl any ↦ ap (λ (b : Bool). b || list_all p (splice xs from to ys)) any
      | inr one ↦ (
          let all : list_all p xs ≡ true = all_even a even one in
          let front = (list_all-parts p xs from all).0 in
          let back = (list_all-parts p xs to all).1 in
          let middle : list_all p ys ≡ true = subst (λ b. (b || list_all p ys) ≡ true) one new in
          let spliced : list_all p (splice xs from to ys) ≡ true =
          list_all-append p (take from xs) (ys ++ drop to xs)
          ∙ and_from (list_all p (take from xs)) (list_all p (ys ++ drop to xs)) front
          (list_all-append p ys (drop to xs) ∙ and_from (list_all p ys) (list_all p (drop to xs)) middle back) in
          ap (λ (b : Bool). b || list_all p (splice xs from to ys)) one ∙ spliced)
    ] in
    and_from (nat_lt a.size 65536) (a.size == 0 || list_all p (splice xs from to ys)) parts.0 elements

-- with one that has not another size
pub even_with_one : (a : Array) (extra : List ℕ) (from to : ℕ) (x element : List ℕ) → is_even a ≡ true → x ≡ element → is_missized a.size element ≡ false
    → is_even (record a { extra = extra; elements = splice a.elements from to (x ∷ []) }) ≡ true
even_with_one a extra from to x element even is sized =
    let fits : (a.size == 0 || (length x == a.size)) ≡ true = ap (λ (y : List ℕ). a.size == 0 || (length y == a.size)) is ∙ sized_or (a.size == 0) (length element == a.size) sized in
    even_with a extra from to (x ∷ []) even (fits_all (a.size == 0) (length x == a.size) fits)

-- with none
pub even_with_none : (a : Array) (extra : List ℕ) (from to : ℕ) → is_even a ≡ true → is_even (record a { extra = extra; elements = splice a.elements from to [] }) ≡ true
even_with_none a extra from to even = even_with a extra from to [] even (or_true (a.size == 0))

-- what is read as an array is even
pub even_in : (bytes : List ℕ) → is_none (array_of bytes) ≡ false → is_even (array_in bytes) ≡ true
even_in bytes is = by_read (array_of bytes) refl is
  where
    by_read : (read : Option Array) → array_of bytes ≡ read → is_none read ≡ false → is_even (unwrap_or read (new_array 0 0)) ≡ true
    by_read None e none = absurd (cc)
    by_read (Some a) e some = (array_bytes-of bytes a e).0

-- with one element that has not another size in the place of some
leaves_one : (bytes : List ℕ) (from to : ℕ) (x : List ℕ) → is_none (array_of bytes) ≡ false → is_missized (array_in bytes).size x ≡ false
    → length (array_bytes (with_elements (array_in bytes) from to (x ∷ []))) < 65536
    → array_of (array_bytes (with_elements (array_in bytes) from to (x ∷ []))) ≡ Some (with_elements (array_in bytes) from to (x ∷ []))
leaves_one bytes from to x is sized short =
    array_again (with_elements (array_in bytes) from to (x ∷ [])) (even_with_one (array_in bytes) (array_in bytes).extra from to x x (even_in bytes is) refl sized) short

leaves_none : (bytes : List ℕ) (from to : ℕ) → is_none (array_of bytes) ≡ false
    → length (array_bytes (with_elements (array_in bytes) from to [])) < 65536
    → array_of (array_bytes (with_elements (array_in bytes) from to [])) ≡ Some (with_elements (array_in bytes) from to [])
leaves_none bytes from to is short =
    array_again (with_elements (array_in bytes) from to []) (even_with_none (array_in bytes) (array_in bytes).extra from to (even_in bytes is)) short

created_even : (size extra : ℕ) → (nat_lt 4096 size || nat_lt 1024 extra) ≡ false → is_even (new_array size extra) ≡ true
created_even size extra small =
    let low : size ≤ 4096 = ltb-false 4096 size (or_none small).0 in
    and_from (nat_lt size 65536) (size == 0 || true) (lt-ltb size 65536 (omega (arith, low))) (or_true (size == 0))

zeroed_even : (a : Array) → is_even a ≡ true → is_even (record a { elements = [] }) ≡ true
zeroed_even a even = and_from (nat_lt a.size 65536) (a.size == 0 || true) (and_parts (nat_lt a.size 65536) _ even).0 (or_true (a.size == 0))

any_fits : (n : ℕ) (x : List ℕ) → not (n == 0) ≡ false → is_missized n x ≡ false
any_fits n x any = ap (λ (b : Bool). b && not (length x == n)) any

leaves_insert : (bytes : List ℕ) (i : ℕ) (element : List ℕ) → LeavesArray (insert_conditions bytes i element) (element_inserted bytes i element) (with_elements (array_in bytes) i i (element ∷ []))
leaves_insert bytes i element none short =
    let conditions = insert_conditions bytes i element in
    leaves_one bytes i i element (or_none (none_applies conditions none NotArray refl)).0 (or_none (or_none (none_applies conditions none Range refl)).0).1 short

leaves_set : (bytes : List ℕ) (i : ℕ) (element : List ℕ) → LeavesArray (set_conditions bytes i element) (element_set bytes i element) (with_elements (array_in bytes) i (i + 1) (element ∷ []))
leaves_set bytes i element none short =
    let conditions = set_conditions bytes i element in
    leaves_one bytes i (i + 1) element (or_none (none_applies conditions none NotArray refl)).0 (or_none (none_applies conditions none Range refl)).0 short

leaves_resize : (bytes : List ℕ) (i n : ℕ) → LeavesArray (resize_conditions bytes i) (element_resized bytes i n) (with_elements (array_in bytes) i (i + 1) (resized (get_or (array_in bytes).elements i []) n ∷ []))
leaves_resize bytes i n none short =
    let x : List ℕ = resized (get_or (array_in bytes).elements i []) n in
    let conditions = resize_conditions bytes i in
    leaves_one bytes i (i + 1) x (or_none (none_applies conditions none NotArray refl)).0 (any_fits (array_in bytes).size x (or_none (none_applies conditions none Range refl)).0) short

leaves_delete : (bytes : List ℕ) (i k : ℕ) → LeavesArray (delete_conditions bytes i k) (elements_deleted bytes i k) (with_elements (array_in bytes) i (i + k) [])
leaves_delete bytes i k none short =
    let conditions = delete_conditions bytes i k in
    leaves_none bytes i (i + k) (or_none (none_applies conditions none NotArray refl)).0 short

pub array_edits_law : ArrayEditsLaw
array_edits_law = record {
  create = λ size extra none short. let conditions = create_conditions size extra in
      array_again (new_array size extra) (created_even size extra (or_none (none_applies conditions none Range refl)).0) short;
  insert = leaves_insert;
  set = leaves_set;
  resize = leaves_resize;
  delete = leaves_delete;
  zero = λ bytes none short. let conditions = on_array bytes in
      array_again (record (array_in bytes) { elements = [] }) (zeroed_even (array_in bytes) (even_in bytes (or_none (none_applies conditions none NotArray refl)).0)) short;
}
