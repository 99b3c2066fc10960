-- Lemmas on pieces and handles for the edits of arrays.
use Rattle.std.proofs.Common.{◌≡◌, ℕ, ◌<◌, Bool, true, false, not, ◌&&◌, ◌||◌, ◌==◌, nat_le, nat_lt, List, [], ◌∷◌, ◌++◌, length, take, drop, map, filter, refl, sym, ap, ap₂, subst, ◌∙◌, inl, inr, arith, ltb-true, lt-ltb, eqb-true}
use Rattle.std.proofs.lemmas.Bool.{cases_Bool, and_parts, and_from, not-true, eq-eqb}
use Rattle.std.proofs.lemmas.List.{length-map, take-append-drop}
use Rattle.std.proofs.lemmas.List.Folds.{list_all-append}
use Rattle.std.proofs.lemmas.List.Elements.{All-contains, All-contains_itself, All-filter, filter_passes}
use Rattle.std.specs.List.{Contains, list_all, list_any}
use Rattle.geos_model.proofs.Chains.{contains_first, contains_later}
use Rattle.geos_model.proofs.BlockLists.{none_passes}
use Rattle.geos_model.proofs.ChainCopies.{kept-there}
use Rattle.geos_model.specs.Pieces.{BranchPiece, elements_in_pieces}
use Rattle.geos_model.specs.LargeLayout.{Root, greatest_element_size, is_root}
use Rattle.geos_model.specs.Spread.{respread}
use Rattle.geos_model.proofs.SpreadElements.{respread-elements}
use Rattle.geos_model.proofs.SpreadSides.{is_full}
use Rattle.geos_model.proofs.BranchBytes.{is_sized}
use Rattle.geos_model.proofs.Layouts.{all_sized}

-- Elements of one size, in pieces or all together.

pub sized-append : (size : ℕ) (xs ys : BranchPiece) → is_sized size (xs ++ ys) ≡ (is_sized size xs && is_sized size ys)
sized-append size xs ys = by_test (size == 0)
  where
    all : BranchPiece → Bool
    all zs = list_all (λ x. length x == size) zs

    by_test : (b : Bool) → (b || all (xs ++ ys)) ≡ ((b || all xs) && (b || all ys))
    by_test true = refl
    by_test false = list_all-append (λ x. length x == size) xs ys

pub sized-none : (size : ℕ) → is_sized size [] ≡ true
sized-none size = by_test (size == 0)
  where
    by_test : (b : Bool) → (b || true) ≡ true
    by_test true = refl
    by_test false = refl

pub sized_elements : (size : ℕ) (ps : List BranchPiece) → all_sized size ps ≡ is_sized size (elements_in_pieces ps)
sized_elements size [] = sym (sized-none size)
sized_elements size (p ∷ ps) = ap (λ (b : Bool). is_sized size p && b) (sized_elements size ps) ∙ sym (sized-append size p (elements_in_pieces ps))

pub sized_part : (size n : ℕ) (xs : BranchPiece) → is_sized size xs ≡ true → (is_sized size (take n xs) ≡ true) × (is_sized size (drop n xs) ≡ true)
sized_part size n xs all =
    and_parts (is_sized size (take n xs)) (is_sized size (drop n xs))
    (sym (sized-append size (take n xs) (drop n xs)) ∙ ap (is_sized size) (take-append-drop n xs) ∙ all)

pub respread-sized : (size : ℕ) (ps : List BranchPiece) (i j : ℕ) (new : BranchPiece) → all_sized size ps ≡ true → is_sized size new ≡ true
    → all_sized size (respread size ps i j new) ≡ true
respread-sized size ps i j new all each =
    let xs : BranchPiece = elements_in_pieces ps in
    let old : is_sized size xs ≡ true = sym (sized_elements size ps) ∙ all in
    sized_elements size (respread size ps i j new)
    ∙ ap (is_sized size) (respread-elements size ps i j new)
    ∙ sized-append size (take i xs) (new ++ drop j xs)
    ∙ and_from (is_sized size (take i xs)) (is_sized size (new ++ drop j xs)) (sized_part size i xs old).0
    (sized-append size new (drop j xs) ∙ and_from (is_sized size new) (is_sized size (drop j xs)) each (sized_part size j xs old).1)

-- A root by its pieces.

pub counts_full : (ps : List BranchPiece) → list_all (λ c. nat_lt 0 c) (map length ps) ≡ list_all (λ x. nat_lt 0 (length x)) ps
counts_full [] = refl
counts_full (p ∷ ps) = ap (λ (b : Bool). nat_lt 0 (length p) && b) (counts_full ps)

pub root_full : (r : Root) (ps : List BranchPiece) → is_root r ≡ true → r.counts ≡ map length ps → (0 < length ps) × (is_full ps ≡ true)
root_full r ps is counts =
    let parts = and_parts (nat_lt 0 (length r.counts) && nat_le r.size greatest_element_size) (length r.counts == 1 || list_all (λ c. nat_lt 0 c) r.counts) is in
    let two = and_parts (nat_lt 0 (length r.counts)) (nat_le r.size greatest_element_size) parts.0 in
    let count : length r.counts ≡ length ps = ap length counts ∙ length-map ps (λ (p : BranchPiece). length p) in
    let some = ltb-true 0 (length r.counts) two.0 in (
      omega arith,
      ap₂ (λ (n : ℕ) (b : Bool). n == 1 || b) (sym count) (sym (counts_full ps) ∙ ap (list_all (λ c. nat_lt 0 c)) (sym counts)) ∙ parts.1,
    )

pub root_from : (r : Root) (ps : List BranchPiece) → nat_le r.size greatest_element_size ≡ true → r.counts ≡ map length ps → 0 < length ps → is_full ps ≡ true → is_root r ≡ true
root_from r ps small counts some full =
    let count : length r.counts ≡ length ps = ap length counts ∙ length-map ps (λ (p : BranchPiece). length p) in
    and_from (nat_lt 0 (length r.counts) && nat_le r.size greatest_element_size) (length r.counts == 1 || list_all (λ c. nat_lt 0 c) r.counts)
    (and_from (nat_lt 0 (length r.counts)) (nat_le r.size greatest_element_size) (lt-ltb 0 (length r.counts) (omega arith)) small)
    (ap₂ (λ (n : ℕ) (b : Bool). n == 1 || b) count (ap (list_all (λ c. nat_lt 0 c)) counts ∙ counts_full ps) ∙ full)

pub root_small : (r : Root) → is_root r ≡ true → nat_le r.size greatest_element_size ≡ true
root_small r is =
    let parts = and_parts (nat_lt 0 (length r.counts) && nat_le r.size greatest_element_size) (length r.counts == 1 || list_all (λ c. nat_lt 0 c) r.counts) is in
    (and_parts (nat_lt 0 (length r.counts)) (nat_le r.size greatest_element_size) parts.0).1

-- The handles that go.

pub absent_any : (news : List ℕ) (h : ℕ) → (Contains news h → ⊥) → list_any (λ x. x == h) news ≡ false
absent_any [] h absent = refl
absent_any (x ∷ news) h absent =
    let rest = absent_any news h (λ there. absent (contains_later x news h there)) in
    elim (cases_Bool (x == h)) [
      | inl is ↦ absurd (absent (subst (Contains (x ∷ news)) (eqb-true x h is) (contains_first x news)))
      | inr other ↦ ap (λ (b : Bool). b || list_any (λ y. y == h) news) other ∙ rest
    ]

module _ (olds news : List ℕ) where
  abbrev goes : ℕ → Bool
  goes h = not (list_any (λ x. x == h) news)

  pub freed-old : (h : ℕ) → Contains (filter goes olds) h → Contains olds h
  freed-old h there = All-contains (Contains olds) (filter goes olds) h (All-filter goes (Contains olds) olds (All-contains_itself olds)) there

  pub freed-not : (h : ℕ) → Contains (filter goes olds) h → Contains news h → ⊥
  freed-not h there fresh =
      let gone : goes h ≡ true = All-contains (λ x. goes x ≡ true) (filter goes olds) h (filter_passes goes olds) there in
      none_passes (λ x. x == h) news h (not-true (list_any (λ x. x == h) news) gone) (eq-eqb h h refl) fresh

  pub freed-all : (h : ℕ) → Contains olds h → (Contains news h → ⊥) → Contains (filter goes olds) h
  freed-all h there absent = kept-there goes olds h there (ap not (absent_any news h absent))
