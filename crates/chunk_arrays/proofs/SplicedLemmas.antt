-- Elements of one size, of which others come in the place of some.
use Rattle.std.proofs.Common.{◌≡◌, ◌⊎◌, ℕ, ◌+◌, ◌-◌, ◌*◌, ◌<◌, ◌≤◌, ◌==◌, ◌&&◌, ◌||◌, Bool, List, [], ◌∷◌, ◌++◌, Option, Some, None, if◌then◌else◌, length, take, drop, true, false, inl, inr, sym, ap, ap₂, subst, ◌∙◌, arith, append_assoc, length-append, length-drop, length-take-le, take_at}
use Rattle.std.proofs.lemmas.Bool.{cases_Bool, and_from, or_right, cond-false, eq-eqb, eqb-true}
use Rattle.std.proofs.lemmas.List.{take-append-drop, drop-drop}
use Rattle.geos_model.specs.Bytes.{same_bytes}
use Rattle.geos_model.specs.Words.{word}
use Rattle.geos_model.specs.Array.{Array, array_bytes, array_start, is_even}
use Rattle.geos_model.specs.ArrayEdits.{with_elements}
use Rattle.geos_model.proofs.Arrays.{joined, length-array_bytes, same_bytes-refl, table_of, table-even}
use Rattle.chunk_edits.specs.Patching.{PatchPiece, Keep, Put, PatchLeads}
use Rattle.chunk_edits.specs.Runs.{AreRuns}
use Rattle.chunk_arrays.specs.Reading.{element_place, elements_start}
use Rattle.chunk_arrays.proofs.LedPieces.{put-first, middle-leads}
use Rattle.chunk_arrays.proofs.PlaceLemmas.{bytes-front, length-front, front_of, joined_parts, drop-place, place-order, place-step, place-within}
use Rattle.chunk_arrays.proofs.RewritingLemmas.{joined-splice, length_joined-splice}
use Rattle.chunk_arrays.proofs.RunsLemmas.{length_between, length-parts, level_even, runs_are}

module _ (a : Array) (from to : ℕ) (ys : List (List ℕ)) (one : (a.size == 0) ≡ false) (order : from ≤ to) (within : to ≤ length a.elements) where
  abbrev left : Array
  left = with_elements a from to ys

  -- what stands between the count and the elements
  abbrev header : List ℕ
  header = (word a.size ++ word 0 ++ word (array_start a)) ++ a.extra ++ table_of a

  abbrev before : List ℕ
  before = joined (take from a.elements)

  left-is : array_bytes left ≡ word (length left.elements) ++ ((header ++ before) ++ (joined ys ++ joined (drop to a.elements)))
  left-is =
      bytes-front left
      ∙ ap (λ (t : List ℕ). (word (length left.elements) ++ ((word a.size ++ word 0 ++ word (array_start a)) ++ a.extra ++ t)) ++ joined left.elements) (table-even left one ∙ sym (table-even a one))
      ∙ ap (λ (l : List ℕ). (word (length left.elements) ++ header) ++ l) (joined-splice a.elements ys from to)
      ∙ ap (λ (l : List ℕ). word (length left.elements) ++ l) (sym (append_assoc header before (joined ys ++ joined (drop to a.elements))))

  middle : take (element_place a from - 2) (drop 2 (array_bytes a)) ≡ header ++ before
  middle =
      let whole : array_bytes a ≡ word (length a.elements) ++ ((header ++ before) ++ joined (drop from a.elements)) =
      bytes-front a ∙ ap (λ (l : List ℕ). front_of a ++ l) (sym (joined_parts a.elements from))
      ∙ ap (λ (l : List ℕ). word (length a.elements) ++ l) (sym (append_assoc header before (joined (drop from a.elements)))) in
      let front = length-front a in
      let count : length (front_of a) ≡ 2 + length header = length-append (word (length a.elements)) header in
      let long : length (header ++ before) ≡ element_place a from - 2 = (let both = length-append header before in omega (arith, front, count, both)) in
      ap (λ (l : List ℕ). take (element_place a from - 2) (drop 2 l)) whole ∙ take_at (header ++ before) (joined (drop from a.elements)) (element_place a from - 2) long

  pub splice-long : length (array_bytes left) + (element_place a to - element_place a from) ≡ length (array_bytes a) + length (joined ys)
  splice-long =
      let old = length-array_bytes a in
      let new = length-array_bytes left in
      let none = ap length (table-even a one) in
      let no = ap length (table-even left one) in
      let is = length_joined-splice a.elements ys from to in
      let parts = length-parts a.elements ys from to order in
      let step = place-step a from to order in
      omega (arith, old, new, none, no, is, parts, step)

  -- the elements begin behind the header
  pub behind_header : 8 ≤ element_place a from
  behind_header = omega arith

  pub splice-leads : (count start end : ℕ) (new : List ℕ) (patch : List PatchPiece) → count ≡ length left.elements → start ≡ element_place a from → end ≡ element_place a to → new ≡ joined ys
      → patch ≡ Put (take 2 (array_bytes a)) (word count) ∷ Keep (start - 2) ∷ Put (take (end - start) (drop start (array_bytes a))) new ∷ Keep (length (array_bytes a) - end) ∷ []
      → PatchLeads patch (array_bytes a) (array_bytes left)
  splice-leads count start end new patch count_is start_is end_is new_is is =
      let bytes : List ℕ = array_bytes a in
      let first : List ℕ = take 2 bytes in
      let mid : List ℕ = take (start - 2) (drop 2 bytes) in
      let gone : List ℕ = take (end - start) (drop start bytes) in
      let behind : List ℕ = drop end bytes in
      let low = behind_header in
      let up = place-order a from to order in
      let high = place-within a to within in
      let ends : start + (end - start) ≡ end = omega (arith, up, start_is, end_is) in
      let starts : 2 + (start - 2) ≡ start = omega (arith, low, start_is) in
      let rest : gone ++ behind ≡ drop start bytes =
      ap (λ (l : List ℕ). gone ++ l) (sym (drop-drop (end - start) start bytes ∙ ap (λ (n : ℕ). drop n bytes) ends)) ∙ take-append-drop (end - start) (drop start bytes) in
      let most : mid ++ (gone ++ behind) ≡ drop 2 bytes =
      ap (λ (l : List ℕ). mid ++ l) (rest ∙ sym (drop-drop (start - 2) 2 bytes ∙ ap (λ (n : ℕ). drop n bytes) starts)) ∙ take-append-drop (start - 2) (drop 2 bytes) in
      let was : first ++ (mid ++ (gone ++ behind)) ≡ bytes = ap (λ (l : List ℕ). first ++ l) most ∙ take-append-drop 2 bytes in
      let mid_is : mid ≡ header ++ before = ap (λ (n : ℕ). take (n - 2) (drop 2 bytes)) start_is ∙ middle in
      let after : word count ++ (mid ++ (new ++ behind)) ≡ array_bytes left =
      ap₂ (λ (n : ℕ) (l : List ℕ). word n ++ (l ++ (new ++ behind))) count_is mid_is
      ∙ ap₂ (λ (l m : List ℕ). word (length left.elements) ++ ((header ++ before) ++ (l ++ m))) new_is (ap (λ (n : ℕ). drop n bytes) end_is ∙ drop-place a to)
      ∙ sym left-is in
      let two : length first ≡ 2 = length-take-le 2 bytes (omega (arith, low, up, high)) in
      let mid_long : length mid ≡ start - 2 = (let all = length-drop 2 bytes in length-take-le (start - 2) (drop 2 bytes) (omega (arith, all, up, high, start_is))) in
      let leads = put-first first (word count) (Keep (length mid) ∷ Put gone new ∷ Keep (length behind) ∷ []) (mid ++ (gone ++ behind)) (mid ++ (new ++ behind)) two (middle-leads mid gone behind new) in
      subst (λ (ps : List PatchPiece). PatchLeads ps bytes (array_bytes left)) (sym is)
      (subst (λ (p : List ℕ × List ℕ). PatchLeads (Put first (word count) ∷ Keep (start - 2) ∷ Put gone new ∷ Keep (length bytes - end) ∷ []) p.0 p.1) (λ i. (was i, after i))
      (subst (λ (p : ℕ × ℕ). PatchLeads (Put first (word count) ∷ Keep p.0 ∷ Put gone new ∷ Keep p.1 ∷ []) (first ++ (mid ++ (gone ++ behind))) (word count ++ (mid ++ (new ++ behind))))
      (λ i. (mid_long i, length-drop end bytes i)) leads))

-- Where the bytes change, where one element comes at most, and in the place of one.
module _ (a : Array) (from to : ℕ) (ys : List (List ℕ)) (one : (a.size == 0) ≡ false) (order : from ≤ to) (within : to ≤ length a.elements) (even : is_even a ≡ true)
    (even_left : is_even (with_elements a from to ys) ≡ true) (few : (ys ≡ []) ⊎ ((to ≤ from + 1) × (length ys ≡ 1))) where
  abbrev then_left : Array
  then_left = with_elements a from to ys

  start-stays : elements_start then_left ≡ elements_start a
  start-stays =
      ap (λ (n : ℕ). array_start a + n) (cond-false (a.size == 0) (2 * length then_left.elements) 0 one ∙ sym (cond-false (a.size == 0) (2 * length a.elements) 0 one))

  pub splice-runs : (others count head start end size : ℕ) (h : Option (ℕ × ℕ)) → others ≡ length ys → count ≡ length then_left.elements → head ≡ element_place a 0 → start ≡ element_place a from → end ≡ element_place a to → size ≡ length (joined ys)
      → length (array_bytes a) < 65536 → length (array_bytes then_left) < 65536 → h ≡ (if count == length a.elements then None else Some (head, head))
      → AreRuns (array_bytes a) (array_bytes then_left) from to others (record { head = h; at = start; before = end - start; after = size })
  splice-runs others count head start end size h others_is count_is head_is start_is end_is size_is low short h_is =
      let same : Bool = length then_left.elements == length a.elements in
      let kept : same ≡ (same && (same_bytes [] [] && (to == length a.elements || length_between a.elements from to == length (joined ys)))) = elim (cases_Bool same) [
        | inl so ↦ so ∙ sym (and_from _ _ so (and_from _ _ (same_bytes-refl []) (or_right _ _ (eq-eqb _ _ (level_even a [] from to ys (omega arith) order within few even even_left low short one (eqb-true _ _ so))))))
        | inr other ↦ other ∙ sym (ap (λ (b : Bool). b && (same_bytes [] [] && (to == length a.elements || length_between a.elements from to == length (joined ys)))) other)
      ] in
      let step = place-step a from to order in
      let gone : end - start ≡ length_between a.elements from to = omega (arith, step, start_is, end_is) in
      let first : head ≡ elements_start a = omega (arith, head_is) in
      subst (λ (n : ℕ). AreRuns (array_bytes a) (array_bytes then_left) from to n (record { head = h; at = start; before = end - start; after = size })) (sym others_is)
      (runs_are a [] from to ys (omega arith) order within few even even_left low short
      same head head start (end - start) size h kept first (first ∙ sym start-stays) (start_is ∙ ap (λ (n : ℕ). n + length (joined (take from a.elements))) (sym first)) gone size_is
      (h_is ∙ ap (λ (n : ℕ). if n == length a.elements then None else Some (head, head)) count_is))
