-- An element in whose place another of as many bytes comes, and what both have at their ends.
use Rattle.std.proofs.Common.{◌≡◌, ℕ, ◌+◌, ◌-◌, ◌<◌, ◌≤◌, ◌==◌, List, [], ◌∷◌, ◌++◌, Some, Option, length, take, drop, get_or, inl, inr, sym, ap, ap₂, subst, ◌∙◌, arith, append_assoc, append-nil, length-append, length-drop, length-take-le, take_at, drop_at, replicate}
use Rattle.std.proofs.lemmas.Bool.{cases_Bool, eqb-true}
use Rattle.std.proofs.lemmas.List.{take-append-drop, drop-drop}
use Rattle.geos_model.specs.Words.{word}
use Rattle.geos_model.specs.Array.{Array, array_bytes, array_start}
use Rattle.geos_model.specs.ArrayEdits.{with_elements}
use Rattle.geos_model.proofs.Arrays.{joined, table_of, table-even}
use Rattle.chunk_edits.specs.Patching.{PatchPiece, Keep, Put, PatchLeads}
use Rattle.chunk_edits.proofs.SplicingLemmas.{row_of_both}
use Rattle.chunk_arrays.specs.Differing.{IsDifference}
use Rattle.chunk_arrays.specs.Reading.{element_place}
use Rattle.chunk_arrays.specs.Rewriting.{HasFew, bytes_of, elements_of}
use Rattle.chunk_arrays.specs.declared.difference.Difference.{Difference}
use Rattle.chunk_arrays.specs.declared.rewriting.NewElement.{NewElement}
use Rattle.chunk_arrays.proofs.LedPieces.{middle-leads}
use Rattle.chunk_arrays.proofs.PlaceLemmas.{bytes-front, length-front, front_of, joined_parts, drop-place, place-step, place-within, one-is}
use Rattle.chunk_arrays.proofs.RewritingLemmas.{cut, joined-splice, length-spliced}
use Rattle.chunk_arrays.proofs.RunsLemmas.{length_between, table-stays}

module _ (a : Array) (i : ℕ) (e : List ℕ) (less : i < length a.elements) (alike : length e ≡ length (get_or a.elements i [])) where
  abbrev after : Array
  after = with_elements a i (i + 1) (e ∷ [])

  between : length_between a.elements i (i + 1) ≡ length e
  between = ap length (one-is a.elements i less) ∙ sym alike

  next-place : element_place a (i + 1) ≡ element_place a i + length e
  next-place = let step = place-step a i (i + 1) (omega arith) in let is = between in omega (arith, step, is)

  level : length after.elements ≡ length a.elements
  level = let many = length-spliced a.elements (e ∷ []) i (i + 1) (omega arith) (omega (arith, less)) in omega (arith, many, less)

  table-same : table_of a ≡ table_of after
  table-same = elim (cases_Bool (a.size == 0)) [
    | inl any ↦ table-stays a i (i + 1) (e ∷ []) (omega arith) (omega (arith, less)) (eqb-true a.size 0 any) level (omega arith) (inr (between ∙ ap length (sym (append-nil e))))
    | inr one ↦ table-even a one ∙ sym (table-even after one)
  ]

  front-stays : front_of after ≡ front_of a
  front-stays =
      ap₂ (λ (n : ℕ) (t : List ℕ). (word n ++ word a.size ++ word 0 ++ word (array_start a)) ++ a.extra ++ t) level (sym table-same)

  -- the bytes before the element
  before : take (element_place a i) (array_bytes a) ≡ front_of a ++ joined (take i a.elements)
  before =
      let begin : List ℕ = front_of a ++ joined (take i a.elements) in
      let whole : array_bytes a ≡ begin ++ joined (drop i a.elements) =
      bytes-front a ∙ ap (λ (l : List ℕ). front_of a ++ l) (sym (joined_parts a.elements i))
      ∙ sym (append_assoc (front_of a) (joined (take i a.elements)) (joined (drop i a.elements))) in
      let long : length begin ≡ element_place a i = length-append (front_of a) (joined (take i a.elements)) ∙ ap (λ (n : ℕ). n + length (joined (take i a.elements))) (length-front a) in
      ap (take (element_place a i)) whole ∙ take_at begin (joined (drop i a.elements)) (element_place a i) long

  behind-is : drop (length e) (drop (element_place a i) (array_bytes a)) ≡ joined (drop (i + 1) a.elements)
  behind-is =
      drop-drop (length e) (element_place a i) (array_bytes a)
      ∙ ap (λ (n : ℕ). drop n (array_bytes a)) (sym next-place)
      ∙ drop-place a (i + 1)

  after-is : array_bytes after ≡ take (element_place a i) (array_bytes a) ++ (e ++ drop (length e) (drop (element_place a i) (array_bytes a)))
  after-is =
      bytes-front after
      ∙ ap₂ (λ (l m : List ℕ). l ++ m) front-stays (joined-splice a.elements (e ∷ []) i (i + 1))
      ∙ sym (append_assoc (front_of a) (joined (take i a.elements)) (joined (e ∷ []) ++ joined (drop (i + 1) a.elements)))
      ∙ ap₂ (λ (l m : List ℕ). l ++ m) (sym before) (ap₂ (λ (l m : List ℕ). l ++ m) (append-nil e) (sym behind-is))

  -- the element lies within the bytes
  pub alike-within : element_place a i + length e ≤ length (array_bytes a)
  alike-within = let within = place-within a (i + 1) (omega (arith, less)) in let next = next-place in omega (arith, within, next)

  pub alike-level : length (array_bytes after) ≡ length (array_bytes a)
  alike-level =
      let at : ℕ = element_place a i in
      let bytes : List ℕ = array_bytes a in
      let within = alike-within in
      let all = ap length after-is in
      let outer = length-append (take at bytes) (e ++ drop (length e) (drop at bytes)) in
      let inner = length-append e (drop (length e) (drop at bytes)) in
      let first = length-take-le at bytes (omega (arith, within)) in
      let rest = length-drop at bytes in
      let last = length-drop (length e) (drop at bytes) in
      omega (arith, within, all, outer, inner, first, rest, last)

  -- the patch of the part in which the new element differs
  pub alike-leads : (start : ℕ) (front old behind : List ℕ) (d : Difference) (m n : ℕ) (patch : List PatchPiece) → start ≡ element_place a i
      → front ≡ take start (array_bytes a) → old ≡ take (length e) (drop start (array_bytes a)) → behind ≡ drop (length e) (drop start (array_bytes a))
      → IsDifference old e d → m ≡ length front + d.front → n ≡ d.back + length behind
      → patch ≡ Keep m ∷ Put d.old.now d.new.now ∷ Keep n ∷ [] → PatchLeads patch (array_bytes a) (array_bytes after)
  alike-leads start front old behind d m n patch start_is front_is old_is behind_is differs m_is n_is is =
      let bytes : List ℕ = array_bytes a in
      let first : List ℕ = differs.first in
      let last : List ℕ = differs.last in
      let spread : (x : List ℕ) → (front ++ first) ++ (x ++ (last ++ behind)) ≡ front ++ ((first ++ (x ++ last)) ++ behind) = λ x.
      append_assoc front first (x ++ (last ++ behind))
      ∙ ap (λ (l : List ℕ). front ++ (first ++ l)) (sym (append_assoc x last behind))
      ∙ ap (λ (l : List ℕ). front ++ l) (sym (append_assoc first (x ++ last) behind)) in
      let was : (front ++ first) ++ (d.old.now ++ (last ++ behind)) ≡ bytes =
      spread d.old.now
      ∙ ap (λ (l : List ℕ). front ++ (l ++ behind)) (sym differs.old_is)
      ∙ ap₂ (λ (l m : List ℕ). l ++ m) front_is (ap₂ (λ (l m : List ℕ). l ++ m) old_is behind_is ∙ take-append-drop (length e) (drop start bytes))
      ∙ take-append-drop start bytes in
      let then : (front ++ first) ++ (d.new.now ++ (last ++ behind)) ≡ array_bytes after =
      spread d.new.now
      ∙ ap (λ (l : List ℕ). front ++ (l ++ behind)) (sym differs.new_is)
      ∙ ap₂ (λ (l m : List ℕ). l ++ (e ++ m)) front_is behind_is
      ∙ ap (λ (n : ℕ). take n bytes ++ (e ++ drop (length e) (drop n bytes))) start_is
      ∙ sym after-is in
      let begin : length (front ++ first) ≡ m = (let both = length-append front first in let f = differs.front in omega (arith, both, f, m_is)) in
      let end : length (last ++ behind) ≡ n = (let both = length-append last behind in let b = differs.back in omega (arith, both, b, n_is)) in
      subst (λ (ps : List PatchPiece). PatchLeads ps bytes (array_bytes after)) (sym is)
      (subst (λ (p : ℕ × ℕ). PatchLeads (Keep p.0 ∷ Put d.old.now d.new.now ∷ Keep p.1 ∷ []) bytes (array_bytes after)) (λ j. (begin j, end j))
      (subst (λ (p : List ℕ × List ℕ). PatchLeads (Keep (length (front ++ first)) ∷ Put d.old.now d.new.now ∷ Keep (length (last ++ behind)) ∷ []) p.0 p.1) (λ j. (was j, then j))
      (middle-leads (front ++ first) d.old.now (last ++ behind) d.new.now)))

-- what both begin with, and what both end with
module _ (old new : List ℕ) (d : Difference) (differs : IsDifference old new d) where
  pub first-is : take d.front old ≡ differs.first
  first-is = ap (take d.front) differs.old_is ∙ take_at differs.first (d.old.now ++ differs.last) d.front differs.front

  pub last-is : drop (length old - d.back) old ≡ differs.last
  last-is =
      let whole : old ≡ (differs.first ++ d.old.now) ++ differs.last = differs.old_is ∙ sym (append_assoc differs.first d.old.now differs.last) in
      let all = ap length whole ∙ length-append (differs.first ++ d.old.now) differs.last in
      let back = differs.back in
      let at : length (differs.first ++ d.old.now) ≡ length old - d.back = omega (arith, all, back) in
      ap (drop (length old - d.back)) whole ∙ drop_at (differs.first ++ d.old.now) differs.last (length old - d.back) at

  pub back-le : d.back ≤ length new
  back-le =
      let all = ap length differs.new_is ∙ length-append differs.first (d.new.now ++ differs.last) in
      let both = length-append d.new.now differs.last in
      let back = differs.back in
      omega (arith, all, both, back)

-- the bytes of an element that is put together of three parts
pub row_of_three : (e : NewElement) (first second third rest behind last : List ℕ) → e.zeros ≡ 0 → first ≡ e.head.now → second ≡ e.middle.now → third ≡ e.tail.now
    → take (length (bytes_of e)) (take (length e.head.now + length e.middle.now) (take (length e.head.now) (first ++ rest) ++ (second ++ behind)) ++ (third ++ last)) ≡ bytes_of e
row_of_three e first second third rest behind last none one two three =
    let front : List ℕ = e.head.now ++ e.middle.now in
    let is : bytes_of e ≡ front ++ e.tail.now =
    ap (λ (n : ℕ). (front ++ e.tail.now) ++ replicate n 0) none ∙ append-nil (front ++ e.tail.now) in
    ap₂ (λ (l m : List ℕ). take (length (bytes_of e)) (l ++ (m ++ last))) (row_of_both e.head.now e.middle.now first second rest behind one two) three
    ∙ ap (take (length (bytes_of e))) (sym (append_assoc front e.tail.now last))
    ∙ take_at (front ++ e.tail.now) last (length (bytes_of e)) (sym (ap length is))
    ∙ sym is

-- how many bytes the new element has
pub length_new : (new : Option NewElement) (e : NewElement) (len : ℕ) → new ≡ Some e → HasFew e → len ≡ cut (length (joined (elements_of new))) → len ≡ length (bytes_of e)
length_new new e len comes has is =
    let same : length (joined (elements_of new)) ≡ length (bytes_of e) = ap (λ (o : Option NewElement). length (joined (elements_of o))) comes ∙ ap length (append-nil (bytes_of e)) in
    let few = has.few in
    omega (arith, is, same, few)
