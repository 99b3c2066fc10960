-- Two chains of the same shape.
use Rattle.std.proofs.Common.{◌≡◌, ◌≢◌, ℕ, zero, suc, ◌+◌, ◌<◌, ◌≤◌, true, List, [], length, get_or, map, Some, sym, ap, ◌∙◌, ◌⊎◌, inl, inr, arith}
use Rattle.std.proofs.lemmas.Bool.{cases_eq, and_parts}
use Rattle.std.proofs.lemmas.List.{length-map, get_or-map, get_or_default, ext_get_or}
use Rattle.std.proofs.lemmas.List.FromFn.{length-range_with_len, get_or-range_with_len}
use Rattle.std.proofs.lemmas.List.Elements.{All-nil, All-cons, Contains-get_or}
use Rattle.std.specs.List.{All, Contains, range_with_len, zip}
use lib.Pointwise.{bytes_decides, pointwise_decides}
use Rattle.geos_model.specs.Words.{word_at}
use Rattle.geos_model.specs.ElementArray.{all_distinct}
use Rattle.geos_model.specs.Document.{Document, IsValid, most_blocks, is_raw, raw_bytes_of}
use Rattle.geos_model.specs.Chain.{tree_mark, is_linked, link_count, link_place, links, relinked, chain, name_of, shape, same_shape}
use Rattle.geos_model.specs.ChainLaws.{AreAlike, AreSameBodies, HaveSameShape}
use Rattle.geos_model.proofs.Chains.{member-handle, walk-few, chain-walk, chain-members}
use Rattle.geos_model.proofs.Relinking.{same-relinked, relinked-same}
use Rattle.geos_model.proofs.CopiedChains.{name-unknown, name-known, name-low, link-there}

range-low : (top a n : ℕ) → a + n ≤ top → All (λ x. x < top) (range_with_len a n)
range-low top a zero low = All-nil (λ x. x < top)
range-low top a (suc n) low = All-cons (λ x. x < top) a (range_with_len (a + 1) n) (omega arith) (range-low top (a + 1) n (omega arith))

-- a valid document's chain, as far as its shape asks
record IsList (d : Document) (hs : List ℕ) : Type 0 where
  body : (x : ℕ) → Contains hs x → is_linked (raw_bytes_of d x) ≡ true
  linked : (x y : ℕ) → Contains hs x → Contains (links (raw_bytes_of d x)) y → Contains hs y
  once : all_distinct hs ≡ true
  few : length hs ≤ most_blocks
  none : Contains hs 0 → ⊥

chain-list : (d : Document) (h : ℕ) (hs : List ℕ) → IsValid d → chain d h ≡ Some hs → IsList d hs
chain-list d h hs valid is =
    let are = chain-members d h hs is in record {
      body = λ x there. (and_parts (is_raw d x) (is_linked (raw_bytes_of d x)) (are.member x there)).1;
      linked = are.linked;
      once = are.once;
      few = walk-few d h hs valid (chain-walk d h hs is);
      none = λ there. let low = member-handle d valid 0 (are.member 0 there) in absurd (omega arith);
    }

-- the place of each block, from 1 on
abbrev place : List ℕ → ℕ → ℕ
place hs = name_of (zip hs (range_with_len 1 (length hs)))

module _ (d : Document) (hs : List ℕ) (are : IsList d hs) where
  place_none : place hs 0 ≡ 0
  place_none = name-unknown hs (range_with_len 1 (length hs)) 0 are.none

  place_at : (i : ℕ) → i < length hs → place hs (get_or hs i 0) ≡ 1 + i
  place_at i low =
      name-known hs (range_with_len 1 (length hs)) i (sym (length-range_with_len 1 (length hs))) are.once low ∙ get_or-range_with_len 1 (length hs) i 0 low

  place_few : (x : ℕ) → place hs x < tree_mark
  place_few x = let few = are.few in name-low tree_mark hs (range_with_len 1 (length hs)) x (omega arith) (range-low tree_mark 1 (length hs) (omega arith))

  -- what a link's place is
  link_at : (w : ℕ) → (w ≢ 0 → Contains hs w) → ((w ≡ 0) × (place hs w ≡ 0)) ⊎ ((i : ℕ) × (i < length hs) × (get_or hs i 0 ≡ w) × (place hs w ≡ 1 + i))
  link_at w known = elim (cases_eq w 0) [
    | inl is ↦ inl (is, ap (place hs) is ∙ place_none)
    | inr some ↦
        (let there = known some in
        let at : get_or hs there.0 0 ≡ w = get_or_default hs there.0 0 w there.1 ∙ there.2 in
        inr (there.0, there.1, at, ap (place hs) (sym at) ∙ place_at there.0 there.1))
  ]

  link_known : (x i : ℕ) → Contains hs x → i < link_count (raw_bytes_of d x) → word_at (raw_bytes_of d x) (link_place (raw_bytes_of d x) i) ≢ 0
      → Contains hs (word_at (raw_bytes_of d x) (link_place (raw_bytes_of d x) i))
  link_known x i there low some = are.linked x (word_at (raw_bytes_of d x) (link_place (raw_bytes_of d x) i)) there (link-there (raw_bytes_of d x) i low some)

-- Two chains.
module _ (d : Document) (xs ys : List ℕ) (left : IsList d xs) (right : IsList d ys) where
  -- links at one place are alike, and alike ones at one place
  place-alike : (v w : ℕ) → (v ≢ 0 → Contains xs v) → (w ≢ 0 → Contains ys w) → place xs v ≡ place ys w → AreAlike xs ys v w
  place-alike v w known_left known_right same = elim (link_at d xs left v known_left) [
    | inl zero_left ↦ elim (link_at d ys right w known_right) [
      | inl zero_right ↦ inl (zero_left.0, zero_right.0)
      | inr at ↦ absurd (let l = zero_left.1 in let r = at.3 in omega arith)
    ]
    | inr from ↦ elim (link_at d ys right w known_right) [
      | inl zero_right ↦ absurd (let l = from.3 in let r = zero_right.1 in omega arith)
      | inr at ↦ (let l = from.3 in let r = at.3 in let one : at.0 ≡ from.0 = omega arith in inr (from.0, from.1, from.2, ap (λ (i : ℕ). get_or ys i 0) (sym one) ∙ at.2))
    ]
  ]

  alike-place : (v w : ℕ) → length ys ≡ length xs → AreAlike xs ys v w → place xs v ≡ place ys w
  alike-place v w long (inl zeros) = ap (place xs) zeros.0 ∙ place_none d xs left ∙ sym (place_none d ys right) ∙ ap (place ys) (sym zeros.1)
  alike-place v w long (inr at) =
      let low = at.1 in
      ap (place xs) (sym at.2) ∙ place_at d xs left at.0 low ∙ sym (place_at d ys right at.0 (omega arith)) ∙ ap (place ys) at.3

  abbrev old_body : ℕ → List ℕ
  old_body x = relinked (place xs) (raw_bytes_of d x)

  abbrev new_body : ℕ → List ℕ
  new_body y = relinked (place ys) (raw_bytes_of d y)

  shape-bodies : (x y : ℕ) → Contains xs x → Contains ys y → old_body x ≡ new_body y → AreSameBodies xs ys (raw_bytes_of d x) (raw_bytes_of d y)
  shape-bodies x y there here same =
      let are = relinked-same (place xs) (place ys) (raw_bytes_of d x) (raw_bytes_of d y) (left.body x there) (right.body y here) (place_few d xs left) (place_few d ys right) same in record {
        long = are.long;
        count = are.count;
        first = are.first;
        alike = λ i low. place-alike (word_at (raw_bytes_of d x) (link_place (raw_bytes_of d x) i)) (word_at (raw_bytes_of d y) (link_place (raw_bytes_of d y) i))
            (link_known d xs left x i there low) (link_known d ys right y i here (let n = are.count in omega arith)) (are.alike i low);
        others = are.others;
      }

  bodies-shape : (x y : ℕ) → Contains xs x → Contains ys y → length ys ≡ length xs → AreSameBodies xs ys (raw_bytes_of d x) (raw_bytes_of d y) → old_body x ≡ new_body y
  bodies-shape x y there here long are =
      same-relinked (place xs) (place ys) (raw_bytes_of d x) (raw_bytes_of d y) (left.body x there) (right.body y here) (record {
        long = are.long;
        count = are.count;
        first = are.first;
        alike = λ i low. alike-place (word_at (raw_bytes_of d x) (link_place (raw_bytes_of d x) i)) (word_at (raw_bytes_of d y) (link_place (raw_bytes_of d y) i)) long (are.alike i low);
        others = are.others;
      })

  shape-same : same_shape d xs ys ≡ true → HaveSameShape d xs ys
  shape-same same =
      let is : shape d xs ≡ shape d ys = (pointwise_decides bytes_decides (shape d xs) (shape d ys)).0 same in
      let long : length ys ≡ length xs = sym (length-map ys new_body) ∙ ap length (sym is) ∙ length-map xs old_body in record {
        as_many = long;
        bodies = λ i low. shape-bodies (get_or xs i 0) (get_or ys i 0) (Contains-get_or xs i 0 low) (Contains-get_or ys i 0 (omega arith))
            (sym (get_or-map old_body xs i 0 [] low) ∙ ap (λ (bs : List (List ℕ)). get_or bs i []) is ∙ get_or-map new_body ys i 0 [] (omega arith));
      }

  same-shape : HaveSameShape d xs ys → same_shape d xs ys ≡ true
  same-shape same =
      let long = same.as_many in
      let many = length-map xs old_body in
      let new_many = length-map ys new_body in
      (pointwise_decides bytes_decides (shape d xs) (shape d ys)).1 (ext_get_or [] (map old_body xs) (map new_body ys) (many ∙ sym long ∙ sym new_many) (λ i within.
      let low : i < length xs = omega arith in
      get_or-map old_body xs i 0 [] low
      ∙ bodies-shape (get_or xs i 0) (get_or ys i 0) (Contains-get_or xs i 0 low) (Contains-get_or ys i 0 (omega arith)) long (same.bodies i low)
      ∙ sym (get_or-map new_body ys i 0 [] (omega arith))))

pub chain-shapes : (d : Document) (x y : ℕ) (xs ys : List ℕ) → IsValid d → chain d x ≡ Some xs → chain d y ≡ Some ys
    → (same_shape d xs ys ≡ true → HaveSameShape d xs ys) × (HaveSameShape d xs ys → same_shape d xs ys ≡ true)
chain-shapes d x y xs ys valid first second =
    let left = chain-list d x xs valid first in
    let right = chain-list d y ys valid second in
    (shape-same d xs ys left right, same-shape d xs ys left right)
