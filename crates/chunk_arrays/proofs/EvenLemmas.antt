-- An element of an array whose elements have one size, in whose place as many bytes come.
use Rattle.std.proofs.Common.{◌≡◌, ℕ, ◌+◌, ◌<◌, ◌==◌, List, [], ◌∷◌, ◌++◌, None, length, take, drop, get_or, true, false, inl, inr, refl, sym, ap, ap₂, subst, ◌∙◌, arith, append_assoc, append-nil, length-append, length-drop, length-take-le, take_at, eq-eqb, eqb-true}
use Rattle.std.proofs.lemmas.Bool.{cases_Bool, and_from, or_right, true≢false}
use Rattle.std.proofs.lemmas.List.{take-append-drop, drop-drop}
use Rattle.std.proofs.lemmas.List.Folds.{list_all_at}
use Rattle.geos_model.specs.Words.{word}
use Rattle.geos_model.specs.Array.{Array, array_bytes, array_start, is_even}
use Rattle.geos_model.specs.ArrayEdits.{with_elements}
use Rattle.geos_model.proofs.Arrays.{joined, all_even, same_bytes-refl, table-even}
use Rattle.geos_model.proofs.ArrayEdits.{even_with}
use Rattle.chunk_edits.specs.Patching.{PatchPiece, Keep, Put, PatchLeads}
use Rattle.chunk_edits.specs.Runs.{AreRuns}
use Rattle.chunk_arrays.specs.Reading.{element_place, elements_start}
use Rattle.chunk_arrays.proofs.LedPieces.{middle-leads}
use Rattle.chunk_arrays.proofs.PlaceLemmas.{bytes-front, length-front, front_of, joined_parts, drop-place, place-step, place-within, one-is}
use Rattle.chunk_arrays.proofs.RewritingLemmas.{joined-splice, length-spliced}
use Rattle.chunk_arrays.proofs.RunsLemmas.{length_between, runs_are}

-- each element has the size
element-even : (a : Array) (i : ℕ) → is_even a ≡ true → (a.size == 0) ≡ false → i < length a.elements → length (get_or a.elements i []) ≡ a.size
element-even a i even one l = elim (cases_Bool (length (get_or a.elements i []) == a.size)) [
  | inl same ↦ eqb-true (length (get_or a.elements i [])) a.size same
  | inr other ↦ absurd (true≢false (sym (all_even a even one) ∙ list_all_at (λ x. length x == a.size) a.elements i [] l other))
]

module _ (a : Array) (i : ℕ) (e : List ℕ) (even : is_even a ≡ true) (one : (a.size == 0) ≡ false) (less : i < length a.elements) (sized : length e ≡ a.size) where
  abbrev after : Array
  after = with_elements a i (i + 1) (e ∷ [])

  -- the element that goes has as many bytes
  between : length_between a.elements i (i + 1) ≡ length e
  between = ap length (one-is a.elements i less) ∙ element-even a i even one less ∙ sym sized

  pub next-place : element_place a (i + 1) ≡ element_place a i + length e
  next-place = let step = place-step a i (i + 1) (omega arith) in let is = between in omega (arith, step, is)

  level : length after.elements ≡ length a.elements
  level = let many = length-spliced a.elements (e ∷ []) i (i + 1) (omega arith) (omega (arith, less)) in omega (arith, many, less)

  front-stays : front_of after ≡ front_of a
  front-stays =
      ap₂ (λ (n : ℕ) (t : List ℕ). (word n ++ word a.size ++ word 0 ++ word (array_start a)) ++ a.extra ++ t) level
      (table-even after one ∙ sym (table-even a one))

  -- the bytes before the element
  before : take (element_place a i) (array_bytes a) ≡ front_of a ++ joined (take i a.elements)
  before =
      let begin : List ℕ = front_of a ++ joined (take i a.elements) in
      let whole : array_bytes a ≡ begin ++ joined (drop i a.elements) =
      bytes-front a ∙ ap (λ (l : List ℕ). front_of a ++ l) (sym (joined_parts a.elements i))
      ∙ sym (append_assoc (front_of a) (joined (take i a.elements)) (joined (drop i a.elements))) in
      let long : length begin ≡ element_place a i = length-append (front_of a) (joined (take i a.elements)) ∙ ap (λ (n : ℕ). n + length (joined (take i a.elements))) (length-front a) in
      ap (take (element_place a i)) whole ∙ take_at begin (joined (drop i a.elements)) (element_place a i) long

  behind-is : drop (length e) (drop (element_place a i) (array_bytes a)) ≡ joined (drop (i + 1) a.elements)
  behind-is =
      drop-drop (length e) (element_place a i) (array_bytes a)
      ∙ ap (λ (n : ℕ). drop n (array_bytes a)) (sym next-place)
      ∙ drop-place a (i + 1)

  after-is : array_bytes after ≡ take (element_place a i) (array_bytes a) ++ (e ++ drop (length e) (drop (element_place a i) (array_bytes a)))
  after-is =
      bytes-front after
      ∙ ap₂ (λ (l m : List ℕ). l ++ m) front-stays (joined-splice a.elements (e ∷ []) i (i + 1))
      ∙ sym (append_assoc (front_of a) (joined (take i a.elements)) (joined (e ∷ []) ++ joined (drop (i + 1) a.elements)))
      ∙ ap₂ (λ (l m : List ℕ). l ++ m) (sym before) (ap₂ (λ (l m : List ℕ). l ++ m) (append-nil e) (sym behind-is))

  pub set-level : length (array_bytes after) ≡ length (array_bytes a)
  set-level =
      let at : ℕ = element_place a i in
      let bytes : List ℕ = array_bytes a in
      let within = place-within a (i + 1) (omega (arith, less)) in
      let next = next-place in
      let all = ap length after-is in
      let outer = length-append (take at bytes) (e ++ drop (length e) (drop at bytes)) in
      let inner = length-append e (drop (length e) (drop at bytes)) in
      let first = length-take-le at bytes (omega (arith, within, next)) in
      let rest = length-drop at bytes in
      let last = length-drop (length e) (drop at bytes) in
      omega (arith, within, next, all, outer, inner, first, rest, last)

  pub set-leads : (start : ℕ) (front old behind : List ℕ) (patch : List PatchPiece) → start ≡ element_place a i
      → front ≡ take start (array_bytes a) → old ≡ take (length e) (drop start (array_bytes a)) → behind ≡ drop (length e) (drop start (array_bytes a))
      → patch ≡ Keep (length front) ∷ Put old e ∷ Keep (length behind) ∷ [] → PatchLeads patch (array_bytes a) (array_bytes after)
  set-leads start front old behind patch start_is front_is old_is behind_is is =
      let bytes : List ℕ = array_bytes a in
      let was : front ++ (old ++ behind) ≡ bytes =
      ap₂ (λ (l m : List ℕ). l ++ m) front_is (ap₂ (λ (l m : List ℕ). l ++ m) old_is behind_is ∙ take-append-drop (length e) (drop start bytes))
      ∙ take-append-drop start bytes in
      let then : front ++ (e ++ behind) ≡ array_bytes after =
      ap₂ (λ (l m : List ℕ). l ++ (e ++ m)) front_is behind_is
      ∙ ap (λ (n : ℕ). take n bytes ++ (e ++ drop (length e) (drop n bytes))) start_is
      ∙ sym after-is in
      subst (λ (ps : List PatchPiece). PatchLeads ps bytes (array_bytes after)) (sym is)
      (subst (λ (l : List ℕ). PatchLeads (Keep (length front) ∷ Put old e ∷ Keep (length behind) ∷ []) l (array_bytes after)) was
      (subst (λ (l : List ℕ). PatchLeads (Keep (length front) ∷ Put old e ∷ Keep (length behind) ∷ []) (front ++ (old ++ behind)) l) then
      (middle-leads front old behind e)))

  even_after : is_even after ≡ true
  even_after = even_with a a.extra i (i + 1) (e ∷ []) even (or_right (a.size == 0) _ (and_from _ _ (eq-eqb (length e) a.size sized) refl))

  pub set-runs : (start size : ℕ) → start ≡ element_place a i → size ≡ length e → length (array_bytes a) < 65536
      → AreRuns (array_bytes a) (array_bytes after) i (i + 1) 1 (record { head = None; at = start; before = size; after = size })
  set-runs start size start_is size_is low =
      let long = set-level in
      let starts : elements_start after ≡ elements_start a = sym (length-front after) ∙ ap length front-stays ∙ length-front a in
      runs_are a [] i (i + 1) (e ∷ []) (omega arith) (omega arith) (omega (arith, less)) (inr (omega arith, refl)) even even_after low (omega (arith, long, low))
      true (elements_start a) (elements_start a) start size size None
      (sym (and_from _ _ (eq-eqb _ _ level) (and_from _ _ (same_bytes-refl []) (or_right _ _ (eq-eqb _ _ (between ∙ ap length (sym (append-nil e))))))))
      refl (sym starts) start_is (size_is ∙ sym between) (size_is ∙ ap length (sym (append-nil e))) refl
