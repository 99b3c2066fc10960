-- Which refusal of an edit of an array is the first, and what a patch of the whole array leads to.
use Rattle.std.proofs.Common.{◌≡◌, ℕ, ◌+◌, ◌<◌, ◌≤◌, List, [], ◌∷◌, ◌++◌, length, Some, None, Ok, Err, Result, MatchResult, Bool, inl, inr, nat_lt, true, false, refl, sym, ap, ap₂, subst, ◌∙◌, arith, lt-ltb, le-ltb, not, ◌||◌, ◌==◌, nat_le}
use Rattle.std.proofs.lemmas.Bool.{lt-leb, cases_lt}
use Rattle.std.proofs.lemmas.List.{drop_all}
use Rattle.std.specs.Option.{unwrap_or, is_none}
use Rattle.geos_model.specs.Refusal.{Conditions, first_refusal}
use Rattle.geos_model.specs.Array.{Array, array_of, array_bytes}
use Rattle.geos_model.specs.ArrayEdits.{too_long, array_in, new_array, with_elements, array_zeroed, on_array, insert_conditions, set_conditions, resize_conditions, delete_conditions, is_missized}
use Rattle.geos_model.specs.declared.fault.Fault.{Fault}
use Rattle.geos_model.specs.declared.fault.Fault.TheVariants.{Full, NotArray, NoElement, Range}
use Rattle.chunk_edits.specs.Patching.{PatchLeads}
use Rattle.chunk_edits.specs.Runs.{AreRuns}
use Rattle.chunk_edits.specs.declared.runs.ArrayPatch.{ArrayPatch}
use Rattle.chunk_arrays.specs.Replacing.{ReplacesAt, RefusesToReplace}
use Rattle.geos_model.proofs.Arrays.{array_bytes-of}

pub refused-long : (bytes : List ℕ) → 65498 < length bytes → first_refusal (too_long bytes) ≡ Some Full
refused-long bytes long = let so : nat_lt 65498 (length bytes) ≡ true = lt-ltb 65498 (length bytes) long in rw so refl

pub accepted-short : (bytes : List ℕ) → length bytes ≤ 65498 → first_refusal (too_long bytes) ≡ None
accepted-short bytes short = let so : nat_lt 65498 (length bytes) ≡ false = le-ltb 65498 (length bytes) short in rw so refl

pub short-accepted : (bytes : List ℕ) → first_refusal (too_long bytes) ≡ None → length bytes ≤ 65498
short-accepted bytes accepted = elim (cases_lt 65498 (length bytes)) [
  | inl long ↦ (let odd : None ≡ Some Full = sym accepted ∙ refused-long bytes long in absurd (cc))
  | inr short ↦ short
]

-- the array in bytes that are one
pub array_in-is : (bytes : List ℕ) (a : Array) → array_of bytes ≡ Some a → array_in bytes ≡ a
array_in-is bytes a is = ap (λ o. unwrap_or o (new_array 0 0)) is

or_false : {x y : Bool} → x ≡ false → y ≡ false → (x || y) ≡ false
or_false {x = x} {y = y} x_is y_is = ap₂ (λ (p q : Bool). p || q) x_is y_is

-- bytes that are one are no refusal
is_array : (bytes : List ℕ) (a : Array) → array_of bytes ≡ Some a → is_none (array_of bytes) ≡ false
is_array bytes a is = ap is_none is

-- Where no refusal applies but that of a long array, it alone decides.
pub insert_decides : (bytes : List ℕ) (a : Array) (i : ℕ) (element to : List ℕ) → array_of bytes ≡ Some a → i ≤ length a.elements → is_missized a.size element ≡ false
    → first_refusal (insert_conditions bytes i element ++ too_long to) ≡ first_refusal (too_long to)
insert_decides bytes a i element to is within sized =
    let in_is : array_in bytes ≡ a = array_in-is bytes a is in
    let range : (nat_lt (length (array_in bytes).elements) i || is_missized (array_in bytes).size element) ≡ false =
    ap (λ (b : Array). nat_lt (length b.elements) i || is_missized b.size element) in_is ∙ or_false (le-ltb (length a.elements) i within) sized in
    ap₂ (λ (x y : Bool). first_refusal ((NotArray, x) ∷ (Range, y) ∷ too_long to)) (is_array bytes a is) range

pub set_decides : (bytes : List ℕ) (a : Array) (i : ℕ) (element to : List ℕ) → array_of bytes ≡ Some a → i < length a.elements → is_missized a.size element ≡ false
    → first_refusal (set_conditions bytes i element ++ too_long to) ≡ first_refusal (too_long to)
set_decides bytes a i element to is within sized =
    let in_is : array_in bytes ≡ a = array_in-is bytes a is in
    let there : nat_le (length (array_in bytes).elements) i ≡ false = ap (λ (b : Array). nat_le (length b.elements) i) in_is ∙ lt-leb (length a.elements) i within in
    let range : is_missized (array_in bytes).size element ≡ false = ap (λ (b : Array). is_missized b.size element) in_is ∙ sized in
    ap₂ (λ (x y : Bool). first_refusal ((NotArray, is_none (array_of bytes)) ∷ (NoElement, x) ∷ (Range, y) ∷ too_long to)) there range
    ∙ ap (λ (x : Bool). first_refusal ((NotArray, x) ∷ (NoElement, false) ∷ (Range, false) ∷ too_long to)) (is_array bytes a is)

pub resize_decides : (bytes : List ℕ) (a : Array) (i : ℕ) (to : List ℕ) → array_of bytes ≡ Some a → i < length a.elements → a.size ≡ 0
    → first_refusal (resize_conditions bytes i ++ too_long to) ≡ first_refusal (too_long to)
resize_decides bytes a i to is within any =
    let in_is : array_in bytes ≡ a = array_in-is bytes a is in
    let there : nat_le (length (array_in bytes).elements) i ≡ false = ap (λ (b : Array). nat_le (length b.elements) i) in_is ∙ lt-leb (length a.elements) i within in
    let range : not ((array_in bytes).size == 0) ≡ false = ap (λ (b : Array). not (b.size == 0)) in_is ∙ ap (λ (n : ℕ). not (n == 0)) any in
    ap₂ (λ (x y : Bool). first_refusal ((NotArray, is_none (array_of bytes)) ∷ (NoElement, x) ∷ (Range, y) ∷ too_long to)) there range
    ∙ ap (λ (x : Bool). first_refusal ((NotArray, x) ∷ (NoElement, false) ∷ (Range, false) ∷ too_long to)) (is_array bytes a is)

pub delete_decides : (bytes : List ℕ) (a : Array) (i k : ℕ) (to : List ℕ) → array_of bytes ≡ Some a → i + k ≤ length a.elements
    → first_refusal (delete_conditions bytes i k ++ too_long to) ≡ first_refusal (too_long to)
delete_decides bytes a i k to is within =
    let there : nat_lt (length (array_in bytes).elements) (i + k) ≡ false =
    ap (λ (b : Array). nat_lt (length b.elements) (i + k)) (array_in-is bytes a is) ∙ le-ltb (length a.elements) (i + k) within in
    ap₂ (λ (x y : Bool). first_refusal ((NotArray, x) ∷ (NoElement, y) ∷ too_long to)) (is_array bytes a is) there

pub zero_decides : (bytes : List ℕ) (a : Array) (to : List ℕ) → array_of bytes ≡ Some a → first_refusal (on_array bytes ++ too_long to) ≡ first_refusal (too_long to)
zero_decides bytes a to is = ap (λ (x : Bool). first_refusal ((NotArray, x) ∷ too_long to)) (is_array bytes a is)

-- what a rewritten array is answered by, where only its length decides
module _ (own : Conditions) (old old′ new new′ : List ℕ) (from to others : ℕ) (decides : first_refusal (own ++ too_long new) ≡ first_refusal (too_long new)) (old_is : old′ ≡ old) (new_is : new′ ≡ new) where
  pub handed_on : (r : Result ArrayPatch Fault) → MatchResult r (ReplacesAt [] old′ new′ from to others) (RefusesToReplace [] new′) → MatchResult r (ReplacesAt own old new from to others) (RefusesToReplace own new)
  handed_on (Ok p) made = record {
    replaces = record {
      accepted = decides ∙ ap (λ (l : List ℕ). first_refusal (too_long l)) (sym new_is) ∙ made.replaces.accepted;
      leads = subst (λ (l : List ℕ). PatchLeads p.patch l new) old_is (subst (λ (l : List ℕ). PatchLeads p.patch old′ l) new_is made.replaces.leads);
    };
    runs = subst (λ (l : List ℕ). length l < 65536 → AreRuns l new from to others p.runs) old_is (subst (λ (l : List ℕ). length old′ < 65536 → AreRuns old′ l from to others p.runs) new_is made.runs);
  }
  handed_on (Err fault) refused = elim refused [
    | inl memory ↦ inl memory
    | inr first ↦ inr (decides ∙ ap (λ (l : List ℕ). first_refusal (too_long l)) (sym new_is) ∙ first)
  ]

-- the bytes that a rewriting makes are those that an edit means
made : (bytes : List ℕ) (a : Array) (from to : ℕ) (xs ys : List (List ℕ)) → array_of bytes ≡ Some a → xs ≡ ys
    → array_bytes (with_elements a from to xs) ≡ array_bytes (with_elements (array_in bytes) from to ys)
made bytes a from to xs ys is xs_is =
    ap₂ (λ (b : Array) (l : List (List ℕ)). array_bytes (with_elements b from to l)) (sym (array_in-is bytes a is)) xs_is

-- an edit that puts elements in the place of others is answered by the rewritten array, where only its length decides
module _ (bytes : List ℕ) (a : Array) (from to : ℕ) (xs ys : List (List ℕ)) (own : Conditions) (is : array_of bytes ≡ Some a) (xs_is : xs ≡ ys) where
  abbrev meant : List ℕ
  meant = array_bytes (with_elements (array_in bytes) from to ys)

  abbrev rewritten : List ℕ
  rewritten = array_bytes (with_elements a from to xs)

  pub elements_handed_on : (r : Result ArrayPatch Fault) (others : ℕ) → first_refusal (own ++ too_long meant) ≡ first_refusal (too_long meant)
      → MatchResult r (ReplacesAt [] (array_bytes a) rewritten from to others) (RefusesToReplace [] rewritten)
      → MatchResult r (ReplacesAt own bytes meant from to others) (RefusesToReplace own meant)
  elements_handed_on r others decides =
      handed_on own bytes (array_bytes a) meant rewritten from to others decides (array_bytes-of bytes a is).1 (made bytes a from to xs ys is xs_is) r

pub made-zeroed : (bytes : List ℕ) (a : Array) (count : ℕ) → array_of bytes ≡ Some a → count ≡ length a.elements
    → array_bytes (with_elements a 0 count []) ≡ array_zeroed bytes
made-zeroed bytes a count is count_is =
    ap (λ (l : List (List ℕ)). array_bytes (record a { elements = l })) (drop_all count a.elements (omega arith))
    ∙ ap (λ (b : Array). array_bytes (record b { elements = [] })) (sym (array_in-is bytes a is))
