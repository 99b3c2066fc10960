-- Two chains are equal just where the blocks at the same places are alike.
use Rattle.std.proofs.Common.{◌≡◌, ◌≢◌, ℕ, zero, suc, ◌+◌, ◌<◌, ◌≤◌, Bool, true, false, not, ◌==◌, ◌&&◌, List, [], ◌∷◌, ◌++◌, length, get_or, map, Option, Some, None, refl, sym, ap, ap₂, subst, ◌∙◌, ◌⊎◌, inl, inr, arith, length-append}
use Rattle.std.proofs.lemmas.Bool.{cases_Bool, cases_eq, and_parts, and_from, cond-true, cond-false, eq-eqb, eqb-true, ne_eqb}
use Rattle.std.proofs.lemmas.List.{get_or_default}
use Rattle.std.proofs.lemmas.List.FromFn.{length-range_with_len, get_or-range_with_len}
use Rattle.std.proofs.lemmas.List.Elements.{Contains-get_or}
use Rattle.std.specs.List.{Contains, range_with_len, filter, zip}
use Rattle.std.specs.Option.{option_map}
use lib.Pointwise.{pointwise, pointwise_long, bytes_decides}
use Rattle.geos_model.specs.Bytes.{same_bytes}
use Rattle.geos_model.specs.Words.{word_at}
use Rattle.geos_model.specs.Document.{Document, IsValid, most_blocks, is_raw, raw_bytes_of}
use Rattle.geos_model.specs.Chain.{tree_mark, is_linked, link_count, link_place, links, name_of, relinked, is_member, blocks_from, chain, same_shape}
use Rattle.geos_model.proofs.Chains.{distinct_some, chain-walk, chain-members, member-handle, walk-few}
use Rattle.geos_model.proofs.CopiedChains.{name-unknown, name-known, name-low, link-there}
use Rattle.geos_model.proofs.Relinking.{AreSameRelinked, same-relinked, relinked-same, relinked_twice}
use Rattle.vm_chains.specs.Alike.{mark_of, are_alike}
use Rattle.vm_chains.proofs.WalkLemmas.{blocks_from-nil, blocks_from-member, blocks_from-other, blocks_from-full}

-- the place of a handle among these, from 1 on
abbrev place_in : List ℕ → ℕ → ℕ
place_in hs h = name_of (zip hs (range_with_len 1 (length hs))) h

-- Two lists beside each other.

-- both numbers stand at one place of their lists
abbrev IsBeside : List ℕ → List ℕ → ℕ → ℕ → Type 0
IsBeside xs ys a b = (i : ℕ) × (i < length xs) × (get_or xs i 0 ≡ a) × (get_or ys i 0 ≡ b)

beside_first : (x y : ℕ) (xs ys : List ℕ) → IsBeside (x ∷ xs) (y ∷ ys) x y
beside_first x y xs ys = (zero, omega arith, refl, refl)

beside_later : (x y : ℕ) (xs ys : List ℕ) (a b : ℕ) → IsBeside xs ys a b → IsBeside (x ∷ xs) (y ∷ ys) a b
beside_later x y xs ys a b at = (suc at.0, (let low = at.1 in omega arith), at.2, at.3)

beside_cases : (x y : ℕ) (xs ys : List ℕ) (a b : ℕ) → IsBeside (x ∷ xs) (y ∷ ys) a b → ((x ≡ a) × (y ≡ b)) ⊎ IsBeside xs ys a b
beside_cases x y xs ys a b at = by_place at.0 at.1 at.2 at.3
  where
    by_place : (i : ℕ) → i < length (x ∷ xs) → get_or (x ∷ xs) i 0 ≡ a → get_or (y ∷ ys) i 0 ≡ b → ((x ≡ a) × (y ≡ b)) ⊎ IsBeside xs ys a b
    by_place zero low left right = inl (left, right)
    by_place (suc i) low left right = inr (i, omega arith, left, right)

beside_nothing : (ys : List ℕ) (a b : ℕ) → IsBeside [] ys a b → ⊥
beside_nothing ys a b at = absurd (let low = at.1 in omega arith)

-- in longer lists
beside_in_front : (xs ys us vs : List ℕ) (a b : ℕ) → length xs ≡ length ys → IsBeside xs ys a b → IsBeside (xs ++ us) (ys ++ vs) a b
beside_in_front [] ys us vs a b long at = absurd (beside_nothing ys a b at)
beside_in_front (x ∷ xs) [] us vs a b long at = absurd (let none : suc (length xs) ≡ 0 = long in omega arith)
beside_in_front (x ∷ xs) (y ∷ ys) us vs a b long at =
    let same : suc (length xs) ≡ suc (length ys) = long in
    elim (beside_cases x y xs ys a b at) [
      | inl here ↦ (zero, omega arith, here.0, here.1)
      | inr later ↦ beside_later x y (xs ++ us) (ys ++ vs) a b (beside_in_front xs ys us vs a b (omega arith) later)
    ]

beside_behind : (xs ys us vs : List ℕ) (a b : ℕ) → length xs ≡ length ys → IsBeside us vs a b → IsBeside (xs ++ us) (ys ++ vs) a b
beside_behind [] [] us vs a b long at = at
beside_behind [] (y ∷ ys) us vs a b long at = absurd (let none : 0 ≡ suc (length ys) = long in omega arith)
beside_behind (x ∷ xs) [] us vs a b long at = absurd (let none : suc (length xs) ≡ 0 = long in omega arith)
beside_behind (x ∷ xs) (y ∷ ys) us vs a b long at =
    let same : suc (length xs) ≡ suc (length ys) = long in
    beside_later x y (xs ++ us) (ys ++ vs) a b (beside_behind xs ys us vs a b (omega arith) at)

-- what a test says of each pair
pointwise_beside : (test : ℕ → ℕ → Bool) (xs ys : List ℕ) → pointwise test xs ys ≡ true → (a b : ℕ) → IsBeside xs ys a b → test a b ≡ true
pointwise_beside test [] ys all a b at = absurd (beside_nothing ys a b at)
pointwise_beside test (x ∷ xs) [] all a b at = absurd (cc all)
pointwise_beside test (x ∷ xs) (y ∷ ys) all a b at =
    let parts = and_parts (test x y) (pointwise test xs ys) all in
    elim (beside_cases x y xs ys a b at) [
      | inl here ↦ ap₂ (λ (c e : ℕ). test c e) (sym here.0) (sym here.1) ∙ parts.0
      | inr later ↦ pointwise_beside test xs ys parts.1 a b later
    ]

pointwise_from : (test : ℕ → ℕ → Bool) (xs ys : List ℕ) → length xs ≡ length ys → ((a b : ℕ) → IsBeside xs ys a b → test a b ≡ true) → pointwise test xs ys ≡ true
pointwise_from test [] [] long each = refl
pointwise_from test [] (y ∷ ys) long each = absurd (let none : 0 ≡ suc (length ys) = long in omega arith)
pointwise_from test (x ∷ xs) [] long each = absurd (let none : suc (length xs) ≡ 0 = long in omega arith)
pointwise_from test (x ∷ xs) (y ∷ ys) long each =
    let same : suc (length xs) ≡ suc (length ys) = long in
    and_from (test x y) (pointwise test xs ys) (each x y (beside_first x y xs ys))
    (pointwise_from test xs ys (omega arith) (λ a b at. each a b (beside_later x y xs ys a b at)))

pointwise_map : (test : List ℕ → List ℕ → Bool) (f g : ℕ → List ℕ) (xs ys : List ℕ) → pointwise test (map f xs) (map g ys) ≡ pointwise (λ a b. test (f a) (g b)) xs ys
pointwise_map test f g [] [] = refl
pointwise_map test f g [] (y ∷ ys) = refl
pointwise_map test f g (x ∷ xs) [] = refl
pointwise_map test f g (x ∷ xs) (y ∷ ys) = ap (λ (rest : Bool). test (f x) (g y) && rest) (pointwise_map test f g xs ys)

both_or_neither : (p q : Bool) → (p ≡ true → q ≡ true) → (q ≡ true → p ≡ true) → p ≡ q
both_or_neither true q on back = sym (on refl)
both_or_neither false true on back = back refl
both_or_neither false false on back = refl

-- Links of two bodies beside each other.

mark_none : (v : ℕ) → mark_of v ≡ 0 → v ≡ 0
mark_none v none = elim (cases_Bool (v == 0)) [
  | inl e ↦ eqb-true v 0 e
  | inr e ↦ (let one : ◌≡◌ {A = ℕ} 1 0 = sym (cond-false (v == 0) 0 1 e) ∙ none in absurd (omega arith))
]

mark_some : (v : ℕ) → v ≢ 0 → mark_of v ≡ 1
mark_some v some = cond-false (v == 0) 0 1 (ne_eqb v 0 some)

mark_few : (v : ℕ) → mark_of v < tree_mark
mark_few v = elim (cases_Bool (v == 0)) [
  | inl e ↦ subst (λ (m : ℕ). m < tree_mark) (sym (cond-true (v == 0) 0 1 e)) (omega arith)
  | inr e ↦ subst (λ (m : ℕ). m < tree_mark) (sym (cond-false (v == 0) 0 1 e)) (omega arith)
]

-- where one links to no block, so does the other
none_too : (v w : ℕ) → mark_of v ≡ mark_of w → v ≡ 0 → w ≡ 0
none_too v w same none = mark_none w (sym same ∙ ap mark_of none)

-- words from a place on, but for zeros
abbrev kept : (ℕ → ℕ) → ℕ → ℕ → List ℕ
kept f a n = filter (λ h. not (h == 0)) (map f (range_with_len a n))

kept-none : (f : ℕ → ℕ) (a n : ℕ) → f a ≡ 0 → kept f a (suc n) ≡ kept f (a + 1) n
kept-none f a n none = cond-false (not (f a == 0)) (f a ∷ kept f (a + 1) n) (kept f (a + 1) n) (ap not (eq-eqb (f a) 0 none))

kept-some : (f : ℕ → ℕ) (a n : ℕ) → f a ≢ 0 → kept f a (suc n) ≡ f a ∷ kept f (a + 1) n
kept-some f a n some = cond-true (not (f a == 0)) (f a ∷ kept f (a + 1) n) (kept f (a + 1) n) (ap not (ne_eqb (f a) 0 some))

module _ (f g : ℕ → ℕ) where
  abbrev AreMarkedSame : ℕ → ℕ → Type 0
  AreMarkedSame a n = (i : ℕ) → a ≤ i → i < a + n → mark_of (f i) ≡ mark_of (g i)

  kept_as_many : (n a : ℕ) → AreMarkedSame a n → length (kept f a n) ≡ length (kept g a n)
  kept_as_many zero a same = refl
  kept_as_many (suc n) a same =
      let rest = kept_as_many n (a + 1) (λ i from low. same i (omega arith) (omega arith)) in
      let here = same a (omega arith) (omega arith) in
      elim (cases_eq (f a) 0) [
        | inl none ↦ ap length (kept-none f a n none) ∙ rest ∙ sym (ap length (kept-none g a n (none_too (f a) (g a) here none)))
        | inr some ↦ ap length (kept-some f a n some) ∙ ap suc rest ∙ sym (ap length (kept-some g a n (λ none. some (none_too (g a) (f a) (sym here) none))))
      ]

  kept_beside : (n a i : ℕ) → AreMarkedSame a n → a ≤ i → i < a + n → f i ≢ 0 → IsBeside (kept f a n) (kept g a n) (f i) (g i)
  kept_beside zero a i same from low linked = absurd (omega arith)
  kept_beside (suc n) a i same from low linked =
      let here = same a (omega arith) (omega arith) in
      let later : a + 1 ≤ i → IsBeside (kept f (a + 1) n) (kept g (a + 1) n) (f i) (g i) =
      λ past. kept_beside n (a + 1) i (λ j after before. same j (omega arith) (omega arith)) past (omega arith) linked in
      elim (cases_eq (f a) 0) [
        | inl none ↦
            (let left = kept-none f a n none in
            let right = kept-none g a n (none_too (f a) (g a) here none) in
            elim (cases_eq i a) [
              | inl is ↦ absurd (linked (ap f is ∙ none))
              | inr other ↦ subst (λ (us : List ℕ). IsBeside us (kept g a (suc n)) (f i) (g i)) (sym left)
                  (subst (λ (vs : List ℕ). IsBeside (kept f (a + 1) n) vs (f i) (g i)) (sym right) (later (omega arith)))
            ])
        | inr some ↦
            (let left = kept-some f a n some in
            let right = kept-some g a n (λ none. some (none_too (g a) (f a) (sym here) none)) in
            subst (λ (us : List ℕ). IsBeside us (kept g a (suc n)) (f i) (g i)) (sym left)
            (subst (λ (vs : List ℕ). IsBeside (f a ∷ kept f (a + 1) n) vs (f i) (g i)) (sym right)
            (elim (cases_eq i a) [
              | inl is ↦ (zero, omega arith, ap f (sym is), ap g (sym is))
              | inr other ↦ beside_later (f a) (g a) (kept f (a + 1) n) (kept g (a + 1) n) (f i) (g i) (later (omega arith))
            ])))
      ]

-- the word of a link
abbrev link_word : List ℕ → ℕ → ℕ
link_word bytes i = word_at bytes (link_place bytes i)

-- two bodies that are the same but for the blocks that they link to
module _ (left right : List ℕ) (same : AreSameRelinked mark_of mark_of left right) where
  right_links : links right ≡ kept (link_word right) 0 (link_count left)
  right_links = ap (kept (link_word right) 0) same.count

  links_as_many : length (links left) ≡ length (links right)
  links_as_many = kept_as_many (link_word left) (link_word right) (link_count left) 0 (λ i _ low. same.alike i (omega arith)) ∙ sym (ap length right_links)

  links_beside : (i : ℕ) → i < link_count left → link_word left i ≢ 0 → IsBeside (links left) (links right) (link_word left i) (link_word right i)
  links_beside i low some = subst (λ (vs : List ℕ). IsBeside (links left) vs (link_word left i) (link_word right i)) (sym right_links)
      (kept_beside (link_word left) (link_word right) (link_count left) 0 i (λ j _ few. same.alike j (omega arith)) (omega arith) (omega arith) some)

-- Two walks side by side.

record IsStep (d : Document) (n h : ℕ) (hs xs : List ℕ) : Type 0 where
  rest : List ℕ
  is : xs ≡ h ∷ rest
  found : blocks_from n d (links (raw_bytes_of d h) ++ hs) ≡ Some rest

step_behind : (d : Document) (n h : ℕ) (hs xs : List ℕ) (o : Option (List ℕ)) → blocks_from n d (links (raw_bytes_of d h) ++ hs) ≡ o → option_map (λ rest. h ∷ rest) o ≡ Some xs → IsStep d n h hs xs
step_behind d n h hs xs None none is = absurd (cc is)
step_behind d n h hs xs (Some rest) found is = let some : h ∷ rest ≡ xs = cc is in record { rest = rest; is = sym some; found = found }

step : (d : Document) (n h : ℕ) (hs xs : List ℕ) → blocks_from (suc n) d (h ∷ hs) ≡ Some xs → IsStep d n h hs xs
step d n h hs xs is = elim (cases_Bool (is_member d h)) [
  | inl member ↦ step_behind d n h hs xs (blocks_from n d (links (raw_bytes_of d h) ++ hs)) refl (sym (blocks_from-member n d h hs member) ∙ is)
  | inr other ↦ (let none : None ≡ Some xs = sym (blocks_from-other (suc n) d h hs other) ∙ is in absurd (cc none))
]

none_left : (d : Document) (n : ℕ) (xs : List ℕ) → blocks_from n d [] ≡ Some xs → xs ≡ []
none_left d n xs is =
    let some : Some [] ≡ Some xs = sym (blocks_from-nil n d) ∙ is in
    let none : [] ≡ xs = cc some in
    sym none

module _ (d : Document) where
  -- blocks at one place are the same but for the blocks that they link to
  abbrev AreAlikeBeside : List ℕ → List ℕ → Type 0
  AreAlikeBeside xs ys = (x y : ℕ) → IsBeside xs ys x y → AreSameRelinked mark_of mark_of (raw_bytes_of d x) (raw_bytes_of d y)

  -- What was pending at one place is met at one place, and so is what blocks at one place link to.
  record AreWalked (ps qs xs ys : List ℕ) : Type 0 where
    pending : (a b : ℕ) → IsBeside ps qs a b → IsBeside xs ys a b
    linked : (x y a b : ℕ) → IsBeside xs ys x y → IsBeside (links (raw_bytes_of d x)) (links (raw_bytes_of d y)) a b → IsBeside xs ys a b

  nothing_walked : AreWalked [] [] [] []
  nothing_walked = record {
    pending = λ a b at. absurd (beside_nothing [] a b at);
    linked = λ x y a b at link. absurd (beside_nothing [] x y at);
  }

  module _ (h k : ℕ) (hs ks us vs : List ℕ) (same : AreSameRelinked mark_of mark_of (raw_bytes_of d h) (raw_bytes_of d k)) where
    one_walked : AreWalked (links (raw_bytes_of d h) ++ hs) (links (raw_bytes_of d k) ++ ks) us vs → AreWalked (h ∷ hs) (k ∷ ks) (h ∷ us) (k ∷ vs)
    one_walked behind = record {
      pending = λ a b at. elim (beside_cases h k hs ks a b at) [
        | inl here ↦ (zero, omega arith, here.0, here.1)
        | inr later ↦ beside_later h k us vs a b (behind.pending a b (beside_behind (links (raw_bytes_of d h)) (links (raw_bytes_of d k)) hs ks a b (links_as_many (raw_bytes_of d h) (raw_bytes_of d k) same) later))
      ];
      linked = λ x y a b at link. beside_later h k us vs a b (elim (beside_cases h k us vs x y at) [
        | inl here ↦ behind.pending a b (beside_in_front (links (raw_bytes_of d h)) (links (raw_bytes_of d k)) hs ks a b (links_as_many (raw_bytes_of d h) (raw_bytes_of d k) same)
            (subst (λ (x : ℕ). IsBeside (links (raw_bytes_of d x)) (links (raw_bytes_of d k)) a b) (sym here.0)
            (subst (λ (y : ℕ). IsBeside (links (raw_bytes_of d x)) (links (raw_bytes_of d y)) a b) (sym here.1) link)))
        | inr later ↦ behind.linked x y a b later link
      ]);
    }

  walked : (n : ℕ) (ps qs xs ys : List ℕ) → blocks_from n d ps ≡ Some xs → blocks_from n d qs ≡ Some ys → length ps ≡ length qs → AreAlikeBeside xs ys → AreWalked ps qs xs ys
  walked n [] [] xs ys first second long alike =
      subst (λ (us : List ℕ). AreWalked [] [] us ys) (sym (none_left d n xs first)) (subst (λ (vs : List ℕ). AreWalked [] [] [] vs) (sym (none_left d n ys second)) nothing_walked)
  walked n [] (k ∷ ks) xs ys first second long alike = absurd (let none : 0 ≡ suc (length ks) = long in omega arith)
  walked n (h ∷ hs) [] xs ys first second long alike = absurd (let none : suc (length hs) ≡ 0 = long in omega arith)
  walked zero (h ∷ hs) (k ∷ ks) xs ys first second long alike = let none : None ≡ Some xs = sym (blocks_from-full d h hs) ∙ first in absurd (cc none)
  walked (suc n) (h ∷ hs) (k ∷ ks) xs ys first second long alike =
      let left = step d n h hs xs first in
      let right = step d n k ks ys second in
      let are : AreAlikeBeside (h ∷ left.rest) (k ∷ right.rest) = subst (λ (us : List ℕ). AreAlikeBeside us (k ∷ right.rest)) left.is (subst (λ (vs : List ℕ). AreAlikeBeside xs vs) right.is alike) in
      let same = are h k (beside_first h k left.rest right.rest) in
      let many = links_as_many (raw_bytes_of d h) (raw_bytes_of d k) same in
      let as_many : suc (length hs) ≡ suc (length ks) = long in
      let both : length (links (raw_bytes_of d h) ++ hs) ≡ length (links (raw_bytes_of d k) ++ ks) = appended (links (raw_bytes_of d h)) (links (raw_bytes_of d k)) hs ks many (omega arith) in
      subst (λ (us : List ℕ). AreWalked (h ∷ hs) (k ∷ ks) us ys) (sym left.is) (subst (λ (vs : List ℕ). AreWalked (h ∷ hs) (k ∷ ks) (h ∷ left.rest) vs) (sym right.is)
      (one_walked h k hs ks left.rest right.rest same
      (walked n (links (raw_bytes_of d h) ++ hs) (links (raw_bytes_of d k) ++ ks) left.rest right.rest left.found right.found both
      (λ x y at. are x y (beside_later h k left.rest right.rest x y at)))))
    where
      appended : (xs ys us vs : List ℕ) → length xs ≡ length ys → length us ≡ length vs → length (xs ++ us) ≡ length (ys ++ vs)
      appended xs ys us vs front back = length-append xs us ∙ ap₂ (λ (m n : ℕ). m + n) front back ∙ sym (length-append ys vs)

chain_found : (d : Document) (h : ℕ) (hs : List ℕ) → chain d h ≡ Some hs → blocks_from most_blocks d (h ∷ []) ≡ Some hs
unfolding chain
chain_found d h hs is = (distinct_some (blocks_from most_blocks d (h ∷ [])) hs is).0

-- Places of a chain's blocks.
module _ (d : Document) (h : ℕ) (hs : List ℕ) (valid : IsValid d) (is : chain d h ≡ Some hs) where
  linked_body : (x : ℕ) → Contains hs x → is_linked (raw_bytes_of d x) ≡ true
  linked_body x there = (and_parts (is_raw d x) (is_linked (raw_bytes_of d x)) ((chain-members d h hs is).member x there)).1

  no_null : Contains hs 0 → ⊥
  no_null there = absurd (let low = member-handle d valid 0 ((chain-members d h hs is).member 0 there) in omega arith)

  place_none : place_in hs 0 ≡ 0
  place_none = name-unknown hs (range_with_len 1 (length hs)) 0 no_null

  place_at : (i : ℕ) → i < length hs → place_in hs (get_or hs i 0) ≡ 1 + i
  place_at i low =
      name-known hs (range_with_len 1 (length hs)) i (sym (length-range_with_len 1 (length hs))) (chain-members d h hs is).once low ∙ get_or-range_with_len 1 (length hs) i 0 low

  place_few : (x : ℕ) → place_in hs x < tree_mark
  place_few x =
      let few = walk-few d h hs valid (chain-walk d h hs is) in
      let many = length-range_with_len 1 (length hs) in
      name-low tree_mark hs (range_with_len 1 (length hs)) x (omega arith) (λ i e low. subst (λ (n : ℕ). n < tree_mark) (sym (get_or-range_with_len 1 (length hs) i e (omega arith))) (omega arith))

  -- a link of one of its blocks is marked as its place is
  place_marked : (x i : ℕ) → Contains hs x → i < link_count (raw_bytes_of d x) → mark_of (place_in hs (link_word (raw_bytes_of d x) i)) ≡ mark_of (link_word (raw_bytes_of d x) i)
  place_marked x i there low = elim (cases_eq (link_word (raw_bytes_of d x) i) 0) [
    | inl none ↦ ap mark_of (ap (place_in hs) none ∙ place_none ∙ sym none)
    | inr some ↦
        (let w = link_word (raw_bytes_of d x) i in
        let found = (chain-members d h hs is).linked x w there (link-there (raw_bytes_of d x) i low some) in
        let at : get_or hs found.0 0 ≡ w = get_or_default hs found.0 0 w found.1 ∙ found.2 in
        let place : place_in hs w ≡ 1 + found.0 = ap (place_in hs) (sym at) ∙ place_at found.0 found.1 in
        mark_some (place_in hs w) (λ none. absurd (omega (arith, place, none))) ∙ sym (mark_some w some))
  ]

  marked_by_place : (x : ℕ) → Contains hs x → relinked mark_of (relinked (place_in hs) (raw_bytes_of d x)) ≡ relinked mark_of (raw_bytes_of d x)
  marked_by_place x there = relinked_twice (place_in hs) mark_of mark_of (raw_bytes_of d x) (linked_body x there) place_few (λ i low. place_marked x i there low)

-- Two chains.

module _ (d : Document) (x y : ℕ) (xs ys : List ℕ) (valid : IsValid d) (first : chain d x ≡ Some xs) (second : chain d y ≡ Some ys) where
  abbrev same_places : ℕ → ℕ → Bool
  same_places a b = same_bytes (relinked (place_in xs) (raw_bytes_of d a)) (relinked (place_in ys) (raw_bytes_of d b))

  left_there : (a b : ℕ) → IsBeside xs ys a b → Contains xs a
  left_there a b at = subst (Contains xs) at.2 (Contains-get_or xs at.0 0 at.1)

  right_there : (a b : ℕ) → length xs ≡ length ys → IsBeside xs ys a b → Contains ys b
  right_there a b long at = subst (Contains ys) at.3 (Contains-get_or ys at.0 0 (let low = at.1 in omega arith))

  same_place : (a b : ℕ) → length xs ≡ length ys → IsBeside xs ys a b → place_in xs a ≡ place_in ys b
  same_place a b long at =
      let low = at.1 in
      ap (place_in xs) (sym at.2) ∙ place_at d x xs valid first at.0 low ∙ sym (place_at d y ys valid second at.0 (omega arith)) ∙ ap (place_in ys) at.3

  places_alike : pointwise same_places xs ys ≡ true → pointwise (are_alike d) xs ys ≡ true
  places_alike all =
      let long = pointwise_long same_places xs ys all in
      pointwise_from (are_alike d) xs ys long (λ a b at.
      let same = (bytes_decides (relinked (place_in xs) (raw_bytes_of d a)) (relinked (place_in ys) (raw_bytes_of d b))).0 (pointwise_beside same_places xs ys all a b at) in
      (bytes_decides (relinked mark_of (raw_bytes_of d a)) (relinked mark_of (raw_bytes_of d b))).1
      (sym (marked_by_place d x xs valid first a (left_there a b at)) ∙ ap (relinked mark_of) same ∙ marked_by_place d y ys valid second b (right_there a b long at)))

  alike_places : pointwise (are_alike d) xs ys ≡ true → pointwise same_places xs ys ≡ true
  alike_places all =
      let long = pointwise_long (are_alike d) xs ys all in
      let left_linked : (a b : ℕ) → IsBeside xs ys a b → is_linked (raw_bytes_of d a) ≡ true = λ a b at. linked_body d x xs valid first a (left_there a b at) in
      let right_linked : (a b : ℕ) → IsBeside xs ys a b → is_linked (raw_bytes_of d b) ≡ true = λ a b at. linked_body d y ys valid second b (right_there a b long at) in
      let alike : AreAlikeBeside d xs ys = λ a b at. relinked-same mark_of mark_of (raw_bytes_of d a) (raw_bytes_of d b) (left_linked a b at) (right_linked a b at) mark_few mark_few
      ((bytes_decides (relinked mark_of (raw_bytes_of d a)) (relinked mark_of (raw_bytes_of d b))).0 (pointwise_beside (are_alike d) xs ys all a b at)) in
      let both = walked d most_blocks (x ∷ []) (y ∷ []) xs ys (chain_found d x xs first) (chain_found d y ys second) refl alike in
      pointwise_from same_places xs ys long (λ a b at.
      let left : List ℕ = raw_bytes_of d a in
      let right : List ℕ = raw_bytes_of d b in
      let same = alike a b at in
      (bytes_decides (relinked (place_in xs) left) (relinked (place_in ys) right)).1
      (same-relinked (place_in xs) (place_in ys) left right (left_linked a b at) (right_linked a b at) (record {
        long = same.long;
        count = same.count;
        first = same.first;
        alike = λ i low. elim (cases_eq (link_word left i) 0) [
          | inl none ↦ ap (place_in xs) none ∙ place_none d x xs valid first ∙ sym (place_none d y ys valid second) ∙ ap (place_in ys) (sym (none_too (link_word left i) (link_word right i) (same.alike i low) none))
          | inr some ↦ same_place (link_word left i) (link_word right i) long (both.linked a b (link_word left i) (link_word right i) at (links_beside left right same i low some))
        ];
        others = same.others;
      })))

-- Two chains are equal just where they have as many blocks, and those at the same place are alike: what a block links
-- to is met at the place where that is met to which its fellow links.
pub same_by_pairs : (d : Document) (x y : ℕ) (xs ys : List ℕ) → IsValid d → chain d x ≡ Some xs → chain d y ≡ Some ys
    → same_shape d xs ys ≡ pointwise (are_alike d) xs ys
same_by_pairs d x y xs ys valid first second =
    pointwise_map same_bytes (λ a. relinked (place_in xs) (raw_bytes_of d a)) (λ b. relinked (place_in ys) (raw_bytes_of d b)) xs ys
    ∙ both_or_neither (pointwise (same_places d x y xs ys valid first second) xs ys) (pointwise (are_alike d) xs ys)
    (places_alike d x y xs ys valid first second) (alike_places d x y xs ys valid first second)
