-- Blocks that are put in or taken out one after another.
use Rattle.std.proofs.Common.{◌≡◌, ℕ, Bool, true, false, not, ◌==◌, List, [], ◌∷◌, Some, None, refl, sym, ap, subst, ◌∙◌, inl, inr, arith}
use Rattle.std.proofs.lemmas.Bool.{cases_eq, and_parts, not-true, eq-eqb, true≢false}
use Rattle.std.proofs.lemmas.List.Folds.{list_any_at}
use Rattle.std.proofs.lemmas.List.Elements.{All-nil, All-cons, All-head, All-tail}
use Rattle.std.specs.List.{All, Contains, list_any}
use Rattle.std.specs.FinMap.{get}
use Rattle.geos_model.specs.ElementArray.{all_distinct}
use Rattle.geos_model.specs.Document.{Block, Document, IsValid, IsValidBlock, with_block, without_block, handles_of, with_blocks, without_blocks}
use Rattle.geos_model.proofs.HeapEdits.{get-put_same, get-put_other, get-taken_same, get-taken_other}
use Rattle.geos_model.proofs.Validity.{with_block-valid, without_block-valid}
use Rattle.geos_model.proofs.Chains.{contains_cases, contains_first, contains_later}

-- Lists without what is there twice.

-- what passes where none does isn't there
pub none_passes : (p : ℕ → Bool) (xs : List ℕ) (x : ℕ) → list_any p xs ≡ false → p x ≡ true → Contains xs x → ⊥
none_passes p xs x none good there = true≢false (sym (list_any_at p xs there.0 x there.1 (ap p there.2 ∙ good)) ∙ none)

pub distinct-first : (x : ℕ) (xs : List ℕ) → all_distinct (x ∷ xs) ≡ true → Contains xs x → ⊥
distinct-first x xs once =
    let test : ℕ → Bool = λ y. x == y in
    none_passes test xs x (not-true (list_any test xs) (and_parts (not (list_any test xs)) (all_distinct xs) once).0) (eq-eqb x x refl)

pub distinct-rest : (x : ℕ) (xs : List ℕ) → all_distinct (x ∷ xs) ≡ true → all_distinct xs ≡ true
distinct-rest x xs once = (and_parts (not (list_any (λ y. x == y) xs)) (all_distinct xs) once).1

-- Blocks that are put in.

pub put_elsewhere : (d : Document) (ps : List (ℕ × Block)) (x : ℕ) → (Contains (handles_of ps) x → ⊥) → get (with_blocks d ps).blocks x ≡ get d.blocks x
put_elsewhere d [] x absent = refl
put_elsewhere d (p ∷ ps) x absent =
    put_elsewhere (with_block d p.0 p.1) ps x (λ there. absent (contains_later p.0 (handles_of ps) x there))
    ∙ get-put_other d.blocks p.0 p.1 x (λ is. absent (subst (Contains (p.0 ∷ handles_of ps)) (sym is) (contains_first p.0 (handles_of ps))))

pub put_stands : (d : Document) (ps : List (ℕ × Block)) → all_distinct (handles_of ps) ≡ true → All (λ p. get (with_blocks d ps).blocks p.0 ≡ Some p.1) ps
put_stands d [] once = All-nil (λ p. get d.blocks p.0 ≡ Some p.1)
put_stands d (p ∷ ps) once =
    let more : Document = with_block d p.0 p.1 in
    All-cons (λ q. get (with_blocks more ps).blocks q.0 ≡ Some q.1) p ps
    (put_elsewhere more ps p.0 (distinct-first p.0 (handles_of ps) once) ∙ get-put_same d.blocks p.0 p.1 p.0 refl)
    (put_stands more ps (distinct-rest p.0 (handles_of ps) once))

pub put_map_block : (d : Document) (ps : List (ℕ × Block)) → (with_blocks d ps).map_block ≡ d.map_block
put_map_block d [] = refl
put_map_block d (p ∷ ps) = put_map_block (with_block d p.0 p.1) ps

pub put_valid : (d : Document) (ps : List (ℕ × Block)) → IsValid d → All (λ p. IsValidBlock p.0 p.1) ps → IsValid (with_blocks d ps)
put_valid d [] valid good = valid
put_valid d (p ∷ ps) valid good =
    put_valid (with_block d p.0 p.1) ps (with_block-valid d p.0 p.1 valid (All-head (λ p. IsValidBlock p.0 p.1) p ps good)) (All-tail (λ p. IsValidBlock p.0 p.1) p ps good)

-- Blocks that are taken out.

pub taken_elsewhere : (d : Document) (hs : List ℕ) (x : ℕ) → (Contains hs x → ⊥) → get (without_blocks d hs).blocks x ≡ get d.blocks x
taken_elsewhere d [] x absent = refl
taken_elsewhere d (h ∷ hs) x absent =
    taken_elsewhere (without_block d h) hs x (λ there. absent (contains_later h hs x there))
    ∙ get-taken_other d.blocks h x (λ is. absent (subst (Contains (h ∷ hs)) (sym is) (contains_first h hs)))

-- where nothing was there is nothing
taken_none : (d : Document) (hs : List ℕ) (x : ℕ) → get d.blocks x ≡ None → get (without_blocks d hs).blocks x ≡ None
taken_none d [] x none = none
taken_none d (h ∷ hs) x none = taken_none (without_block d h) hs x (elim (cases_eq x h) [
  | inl is ↦ get-taken_same d.blocks h x is
  | inr other ↦ get-taken_other d.blocks h x other ∙ none
])

pub taken_gone : (d : Document) (hs : List ℕ) (x : ℕ) → Contains hs x → get (without_blocks d hs).blocks x ≡ None
taken_gone d [] x there = absurd (let low = there.1 in omega arith)
taken_gone d (h ∷ hs) x there = elim (contains_cases h hs x there) [
  | inl is ↦ taken_none (without_block d h) hs x (get-taken_same d.blocks h x (sym is))
  | inr later ↦ taken_gone (without_block d h) hs x later
]

pub taken_map_block : (d : Document) (hs : List ℕ) → (without_blocks d hs).map_block ≡ d.map_block
taken_map_block d [] = refl
taken_map_block d (h ∷ hs) = taken_map_block (without_block d h) hs

pub taken_valid : (d : Document) (hs : List ℕ) → IsValid d → (Contains hs d.map_block → ⊥) → IsValid (without_blocks d hs)
taken_valid d [] valid other = valid
taken_valid d (h ∷ hs) valid other =
    taken_valid (without_block d h) hs
    (without_block-valid d h valid (λ is. other (subst (Contains (h ∷ hs)) (sym is) (contains_first h hs))))
    (λ there. other (contains_later h hs d.map_block there))
