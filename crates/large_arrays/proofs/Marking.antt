-- Handles that are gone through one by one, and marked.
use Rattle.std.proofs.Common.{◌≡◌, ℕ, ◌+◌, ◌-◌, ◌<◌, ◌≤◌, Bool, true, false, not, ◌==◌, ◌&&◌, ◌||◌, List, [], ◌∷◌, ◌++◌, length, take, drop, get_or, refl, sym, ap, subst, ◌∙◌, inl, inr, arith, eqb-true, eq-eqb}
use Rattle.std.proofs.lemmas.Bool.{cases_Bool}
use Rattle.std.proofs.lemmas.List.{drop_more, drop_all, drop-map, take_rest, take_more, take_all, take-append-drop, length-map, get_or-map}
use Rattle.std.proofs.lemmas.List.Folds.{list_any-append}
use Rattle.std.proofs.lemmas.Map.Views.{Contains-from_any}
use Rattle.std.specs.List.{Contains, list_any}
use Rattle.geos_model.specs.ElementArray.{all_distinct}
use Rattle.geos_model.proofs.Chains.{contains_first, contains_cases}
use Rattle.geos_model.proofs.BlockLists.{none_passes}
use Rattle.large_arrays.specs.Spots.{link_handles}
use Rattle.large_arrays.specs.declared.spot.BranchLink.{BranchLink}
use Rattle.geos_model.proofs.DistinctHandles.{distinct-append, distinct-parts}

-- the handle is among these
abbrev pub is_met : ℕ → List ℕ → Bool
is_met h hs = list_any (λ x. h == x) hs

-- One that was met is there twice, and one that wasn't isn't.

pub met_twice : (xs : List ℕ) (h : ℕ) (ys : List ℕ) → is_met h xs ≡ true → all_distinct (xs ++ h ∷ ys) ≡ false
met_twice xs h ys met = elim (cases_Bool (all_distinct (xs ++ h ∷ ys))) [
  | inl once ↦
      absurd ((distinct-parts xs (h ∷ ys) once).2 h (Contains-from_any {eq = λ x y. x == y} (λ x y same. eqb-true x y same) h xs met) (contains_first h ys))
  | inr other ↦ other
]

pub met_once : (xs : List ℕ) (h : ℕ) → all_distinct xs ≡ true → is_met h xs ≡ false → all_distinct (xs ++ h ∷ []) ≡ true
met_once xs h once none =
    distinct-append xs (h ∷ []) once refl (λ x there here. elim (contains_cases h [] x here) [
      | inl is ↦ none_passes (λ y. h == y) xs h none (eq-eqb h h refl) (subst (Contains xs) (sym is) there)
      | inr later ↦ (let low = later.1 in absurd (omega arith))
    ])

or_false : (b : Bool) → (b || false) ≡ b
or_false true = refl
or_false false = refl

or_turned : (a b : Bool) → (a || b) ≡ (b || a)
or_turned true true = refl
or_turned true false = refl
or_turned false true = refl
or_turned false false = refl

-- one more isn't, or is
pub met_no_more : (h x : ℕ) (hs : List ℕ) → is_met h hs ≡ false → (h == x) ≡ false → is_met h (hs ++ x ∷ []) ≡ false
met_no_more h x hs none other = list_any-append (λ y. h == y) hs (x ∷ []) ∙ (λ i. none i || (other i || false))

pub met_too : (k h : ℕ) (hs : List ℕ) → ((k == h) || is_met k hs) ≡ is_met k (hs ++ h ∷ [])
met_too k h hs =
    or_turned (k == h) (is_met k hs) ∙ ap (λ (b : Bool). is_met k hs || b) (sym (or_false (k == h)))
    ∙ sym (list_any-append (λ x. k == x) hs (h ∷ []))

-- The handles of branches, one by one.

abbrev pub no_link : BranchLink
no_link = record { handle = record { 0 = 0 }; count = 0 }

pub handle_at : (links : List BranchLink) (i : ℕ) (d : BranchLink) → i < length links → get_or (link_handles links) i 0 ≡ (get_or links i d).handle.0
handle_at links i d within = get_or-map (λ (l : BranchLink). l.handle.0) links i d 0 within

pub handles-rest : (links : List BranchLink) (i : ℕ) (d : BranchLink) → i < length links → drop i (link_handles links) ≡ (get_or links i d).handle.0 ∷ drop (i + 1) (link_handles links)
handles-rest links i d within =
    let long = length-map links (λ l. l.handle.0) in
    drop_more (link_handles links) i 0 (omega arith) ∙ ap (λ (h : ℕ). h ∷ drop (i + 1) (link_handles links)) (handle_at links i d within)

pub handles-next : (links : List BranchLink) (i : ℕ) (d : BranchLink) → i < length links → take (i + 1) (link_handles links) ≡ take i (link_handles links) ++ (get_or links i d).handle.0 ∷ []
handles-next links i d within =
    let long = length-map links (λ l. l.handle.0) in
    take_more (link_handles links) i 0 (omega arith) ∙ ap (λ (h : ℕ). take i (link_handles links) ++ h ∷ []) (handle_at links i d within)

pub handles-done : (links : List BranchLink) (i : ℕ) → length links ≤ i → take i (link_handles links) ≡ link_handles links
handles-done links i all = let long = length-map links (λ l. l.handle.0) in take_all i (link_handles links) (omega arith)

-- one of the branches that are left is compared with those behind it
pub few-step : (links : List BranchLink) (i : ℕ) (d : BranchLink) (found : Bool) → i < length links
    → found ≡ is_met (get_or links i d).handle.0 (link_handles (take (length links - (i + 1)) (drop (i + 1) links)))
    → all_distinct (drop i (link_handles links)) ≡ (not found && all_distinct (drop (i + 1) (link_handles links)))
few-step links i d found within is =
    let rest : List ℕ = drop (i + 1) (link_handles links) in
    let behind : rest ≡ link_handles (take (length links - (i + 1)) (drop (i + 1) links)) =
    drop-map (λ (l : BranchLink). l.handle.0) (i + 1) links ∙ ap link_handles (sym (take_rest links (i + 1))) in
    ap all_distinct (handles-rest links i d within)
    ∙ ap (λ (hs : List ℕ). not (is_met (get_or links i d).handle.0 hs) && all_distinct rest) behind
    ∙ ap (λ (b : Bool). not b && all_distinct rest) (sym is)

pub few-done : (links : List BranchLink) (i : ℕ) → length links ≤ i → all_distinct (drop i (link_handles links)) ≡ true
few-done links i all = let long = length-map links (λ l. l.handle.0) in ap all_distinct (drop_all i (link_handles links) (omega arith))

-- Many, of which the root and the first ones were met.
module _ (root : ℕ) (links : List BranchLink) (i : ℕ) (d : BranchLink) (within : i < length links) where
  abbrev h : ℕ
  h = (get_or links i d).handle.0

  abbrev seen : List ℕ
  seen = root ∷ take i (link_handles links)

  next : root ∷ take (i + 1) (link_handles links) ≡ seen ++ h ∷ []
  next = ap (λ (hs : List ℕ). root ∷ hs) (handles-next links i d within)

  all : seen ++ h ∷ drop (i + 1) (link_handles links) ≡ root ∷ link_handles links
  all =
      ap (λ (hs : List ℕ). seen ++ hs) (sym (handles-rest links i d within))
      ∙ ap (λ (hs : List ℕ). root ∷ hs) (take-append-drop i (link_handles links))

  -- the next one was met
  pub many-twice : is_met h seen ≡ true → all_distinct (root ∷ link_handles links) ≡ false
  many-twice met = ap all_distinct (sym all) ∙ met_twice seen h (drop (i + 1) (link_handles links)) met

  -- it wasn't
  pub many-once : all_distinct seen ≡ true → is_met h seen ≡ false → all_distinct (root ∷ take (i + 1) (link_handles links)) ≡ true
  many-once once none = ap all_distinct next ∙ met_once seen h once none

  pub many-met : (k : ℕ) → ((k == h) || is_met k seen) ≡ is_met k (root ∷ take (i + 1) (link_handles links))
  many-met k = met_too k h seen ∙ ap (is_met k) (sym next)
