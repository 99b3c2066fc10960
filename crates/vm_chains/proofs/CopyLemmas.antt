-- Blocks of a copy, planned one by one.
use Rattle.std.proofs.Common.{◌≡◌, ℕ, zero, suc, take, ◌+◌, ◌-◌, ◌<◌, ◌≤◌, List, [], ◌∷◌, ◌++◌, Bool, true, false, not, cond, length, drop, map, get_or, Some, None, refl, sym, ap, ◌∙◌, inl, inr, arith}
use Rattle.std.proofs.lemmas.Bool.{cases_Bool, cond-true, cond-false}
use Rattle.std.proofs.lemmas.List.{append_assoc, append-nil, length_push, drop_more, map-append}
use Rattle.std.specs.List.{zip, filter, find, range_with_len}
use Rattle.geos_model.specs.Chain.{free_handles, name_of, new_handles, relinked_block}
use Rattle.geos_model.specs.Document.{Block, Document, block_at, is_live, most_blocks, next_handle, vm_handles}
use Rattle.geos_model.specs.declared.handle.VmHandle.{VmHandle}
use Rattle.document_file.specs.Members.{imaged_block, imaged_blocks}
use Rattle.vm_chains.specs.Numbers.{numbers}
use Rattle.document_file.specs.declared.member.Member.{Member}

-- some blocks of a chain under new handles, with the names that all of them get
abbrev pub copies_from : Document → List VmHandle → List VmHandle → List VmHandle → List VmHandle → List (ℕ × Block)
copies_from d hs new some given = map (λ p. (p.1, relinked_block (name_of (zip (numbers hs) (numbers new))) (block_at d p.0))) (zip (numbers some) (numbers given))

module _ (d : Document) (hs new : List VmHandle) where
  pub copies_next : (i : ℕ) (h n : VmHandle) → i < length hs → i < length new → copies_from d hs new (drop i hs) (drop i new) ≡ ((get_or new i n).0, relinked_block (name_of (zip (numbers hs) (numbers new))) (block_at d (get_or hs i h).0)) ∷ copies_from d hs new (drop (i + 1) hs) (drop (i + 1) new)
  copies_next i h n within there = λ j. copies_from d hs new (drop_more hs i h within j) (drop_more new i n there j)

  -- one more block is planned
  pub copies_more : (plan : List Member) (m : Member) (i : ℕ) (h n : VmHandle) (all : List (ℕ × Block)) → i < length hs → i < length new → m.handle ≡ get_or new i n → imaged_block m.block ≡ relinked_block (name_of (zip (numbers hs) (numbers new))) (block_at d (get_or hs i h).0) → imaged_blocks plan ++ copies_from d hs new (drop i hs) (drop i new) ≡ all → imaged_blocks (plan ++ m ∷ []) ++ copies_from d hs new (drop (i + 1) hs) (drop (i + 1) new) ≡ all
  copies_more plan m i h n all within there handle block so_far =
      let rest = copies_from d hs new (drop (i + 1) hs) (drop (i + 1) new) in
      ap (λ (xs : List (ℕ × Block)). xs ++ rest) (map-append (λ (x : Member). (x.handle.0, imaged_block x.block)) plan (m ∷ []))
      ∙ append_assoc (imaged_blocks plan) ((m.handle.0, imaged_block m.block) ∷ []) rest
      ∙ (λ j. imaged_blocks plan ++ ((handle j).0, block j) ∷ rest)
      ∙ ap (λ (xs : List (ℕ × Block)). imaged_blocks plan ++ xs) (sym (copies_next i h n within there)) ∙ so_far

-- Free handles, looked for one by one.

-- those past so many handles
unfoldable pub free_from : Document → ℕ → List ℕ
free_from d i = filter (λ h. not (is_live d h)) (range_with_len (i + 1) (most_blocks - i))

pub none_free : (d : Document) (i : ℕ) → most_blocks ≤ i → free_from d i ≡ []
unfolding free_from
none_free d i past =
    let e : most_blocks - i ≡ 0 = omega arith in
    ap (λ (n : ℕ). filter (λ h. not (is_live d h)) (range_with_len (i + 1) n)) e

split : (d : Document) (i : ℕ) → i < most_blocks → free_from d i ≡ cond (not (is_live d (i + 1))) ((i + 1) ∷ free_from d (i + 1)) (free_from d (i + 1))
unfolding free_from
split d i within =
    let e : most_blocks - i ≡ suc (most_blocks - (i + 1)) = omega arith in
    ap (λ (n : ℕ). filter (λ h. not (is_live d h)) (range_with_len (i + 1) n)) e

pub free_next : (d : Document) (i : ℕ) → i < most_blocks → is_live d (i + 1) ≡ false → free_from d i ≡ (i + 1) ∷ free_from d (i + 1)
free_next d i within free = split d i within ∙ cond-true _ _ _ (ap not free)

pub live_next : (d : Document) (i : ℕ) → i < most_blocks → is_live d (i + 1) ≡ true → free_from d i ≡ free_from d (i + 1)
live_next d i within live = split d i within ∙ cond-false _ _ _ (ap not live)

take_none : (n : ℕ) → take n [] ≡ (let none : List ℕ = [] in none)
take_none zero = refl
take_none (suc n) = refl

-- the least one is the first of them
first_found : (test : ℕ → Bool) (i n h : ℕ) → find test (range_with_len i n) ≡ Some h → (i ≤ h) × (filter test (range_with_len i n) ≡ filter test (range_with_len h (i + n - h)))
first_found test i zero h is = absurd (cc is)
first_found test i (suc n) h is = elim (cases_Bool (test i)) as (λ _. (i ≤ h) × (filter test (range_with_len i (suc n)) ≡ filter test (range_with_len h (i + suc n - h)))) [
  | inl here ↦
      (let some : Some i ≡ Some h = sym (cond-true _ _ _ here) ∙ is in
      let same : i ≡ h = cc some in
      let left : suc n ≡ i + suc n - h = omega (arith, same) in
      (omega (arith, same), λ j. filter test (range_with_len (same j) (left j))))
  | inr past ↦
      (let on = first_found test (i + 1) n h (sym (cond-false _ _ _ past) ∙ is) in
      let low : i + 1 ≤ h = on.0 in
      let left : i + 1 + n - h ≡ i + suc n - h = omega arith in
      (omega (arith, low), cond-false _ _ _ past ∙ on.1 ∙ ap (λ (k : ℕ). filter test (range_with_len h k)) left))
]

pub free_first : (d : Document) (h : ℕ) → next_handle d ≡ Some h → free_from d (h - 1) ≡ free_handles d
unfolding vm_handles next_handle free_from
free_first d h is =
    let found = first_found (λ k. not (is_live d k)) 1 most_blocks h is in
    let low : 1 ≤ h = found.0 in
    let from : h - 1 + 1 ≡ h = omega (arith, low) in
    let left : most_blocks - (h - 1) ≡ 1 + most_blocks - h = omega (arith, low) in
    (λ j. filter (λ k. not (is_live d k)) (range_with_len (from j) (left j))) ∙ sym found.1

-- and where there is no least one there is none
none_found : (test : ℕ → Bool) (xs : List ℕ) → find test xs ≡ None → filter test xs ≡ []
none_found test [] is = refl
none_found test (x ∷ xs) is = elim (cases_Bool (test x)) as (λ _. filter test (x ∷ xs) ≡ []) [
  | inl here ↦ (let some : Some x ≡ None = sym (cond-true _ _ _ here) ∙ is in absurd (cc some))
  | inr past ↦ cond-false _ _ _ past ∙ none_found test xs (sym (cond-false _ _ _ past) ∙ is)
]

pub all_taken : (d : Document) (wanted : ℕ) → next_handle d ≡ None → [] ≡ new_handles d wanted
unfolding vm_handles next_handle
all_taken d wanted is = sym (take_none wanted) ∙ sym (ap (λ (hs : List ℕ). take wanted hs) (none_found (λ k. not (is_live d k)) vm_handles is))

-- one more of those that are wanted
pub new_more : (found : List VmHandle) (h : VmHandle) (wanted : ℕ) (rest all : List ℕ) → length found < wanted → numbers found ++ take (wanted - length found) (h.0 ∷ rest) ≡ all → numbers (found ++ h ∷ []) ++ take (wanted - length (found ++ h ∷ [])) rest ≡ all
new_more found h wanted rest all few so_far =
    let left : wanted - length found ≡ suc (wanted - (length found + 1)) = omega arith in
    (λ j. map-append (λ (x : VmHandle). x.0) found (h ∷ []) j ++ take (wanted - length_push found h j) rest)
    ∙ append_assoc (numbers found) (h.0 ∷ []) (take (wanted - (length found + 1)) rest)
    ∙ sym (ap (λ (k : ℕ). numbers found ++ take k (h.0 ∷ rest)) left) ∙ so_far

-- all that there are
pub new_end : (found : List VmHandle) (n : ℕ) (rest all : List ℕ) → rest ≡ [] → numbers found ++ take n rest ≡ all → numbers found ≡ all
new_end found n rest all none so_far =
    sym (append-nil (numbers found)) ∙ sym (ap (λ (xs : List ℕ). numbers found ++ xs) (ap (λ (xs : List ℕ). take n xs) none ∙ take_none n)) ∙ so_far
