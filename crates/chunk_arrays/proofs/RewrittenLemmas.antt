-- The elements, the header and all bytes of an array, as a patch rewrites them a part at a time.
use Rattle.std.proofs.Common.{◌≡◌, ◌⊎◌, ℕ, ◌+◌, ◌-◌, ◌≤◌, ◌==◌, List, [], ◌++◌, Option, Some, None, IsSome, length, take, drop, max, inl, inr, subst, sym, ap, ap₂, refl, ◌∙◌, arith, length-append, length-drop, length-take-le, append_assoc, take-append-drop, take_at}
use Rattle.std.proofs.lemmas.Bool.{cases_Bool, cases_eq, cases_lt, cond-true, cond-false}
use Rattle.std.specs.List.{splice}
use Rattle.geos_model.specs.Words.{word}
use Rattle.geos_model.specs.Array.{Array, place_table, array_start, array_bytes}
use Rattle.geos_model.proofs.Arrays.{joined, head_of, table_of, array_bytes-spelled, length-array_bytes, behind_extra}
use Rattle.chunk_edits.specs.Patching.{PatchLeads}
use Rattle.chunk_arrays.specs.Drafting.{Adds, settled}
use Rattle.chunk_arrays.specs.Rewriting.{elements_of, extra_after, rewritten}
use Rattle.chunk_arrays.specs.declared.rewriting.NewElement.{NewElement}
use Rattle.chunk_arrays.specs.declared.draft.Draft.{Draft}
use Rattle.chunk_arrays.proofs.RewritingLemmas.{joined-splice, length_joined-splice, length-spliced, length-extra_after, length-other_extra, length-place_table, run_back}
use Rattle.chunk_arrays.proofs.DraftingLemmas.{adds-as, adds-around, adds-then, drawn_leads}
use Rattle.chunk_arrays.proofs.TableLemmas.{three_parts}

-- all elements, a part at a time
pub elements-added : (a : Array) (from to all : ℕ) (ys : List (List ℕ)) → from ≤ to → all ≡ length a.elements
    → (d e f g : Draft) (front old new back : List ℕ)
    → front ≡ joined (take (from - 0) (drop 0 a.elements)) → old ≡ joined (take (to - from) (drop from a.elements)) → new ≡ joined ys → back ≡ joined (take (all - to) (drop to a.elements))
    → Adds d e front front → Adds e f old new → Adds f g back back
    → Adds d g (joined a.elements) (joined (splice a.elements from to ys))
elements-added a from to all ys order all_is d e f g front old new back front_is old_is new_is back_is one two three =
    let xs : List (List ℕ) = a.elements in
    let run : List (List ℕ) = take (to - from) (drop from xs) in
    let begin : front ≡ joined (take from xs) = front_is ∙ (let same : from - 0 ≡ from = omega arith in ap (λ (n : ℕ). joined (take n xs)) same) in
    let end : back ≡ joined (drop to xs) = back_is ∙ ap joined (run_back xs to all all_is) in
    let was : front ++ (old ++ back) ≡ joined xs =
    ap₂ (λ (l m : List ℕ). l ++ (old ++ m)) begin end
    ∙ ap (λ (l : List ℕ). joined (take from xs) ++ (l ++ joined (drop to xs))) old_is
    ∙ sym (joined-splice xs run from to)
    ∙ ap joined (three_parts xs from to order) in
    let is : front ++ (new ++ back) ≡ joined (splice xs from to ys) =
    ap₂ (λ (l m : List ℕ). l ++ (new ++ m)) begin end
    ∙ ap (λ (l : List ℕ). joined (take from xs) ++ (l ++ joined (drop to xs))) new_is
    ∙ sym (joined-splice xs ys from to) in
    adds-as d g _ _ _ _ was is (adds-around d e f g front front old new back back refl refl one two three)

-- the header and the extra bytes
abbrev pub head_after : Array → ℕ → List ℕ → List ℕ
head_after a count first = word count ++ take 6 (drop 2 (array_bytes a)) ++ extra_after a first

pub front-parts : (a : Array) → take 2 (array_bytes a) ++ (take 6 (drop 2 (array_bytes a)) ++ a.extra) ≡ take (array_start a) (array_bytes a)
front-parts a = subst (λ (bytes : List ℕ). take 2 bytes ++ (take 6 (drop 2 bytes) ++ a.extra) ≡ take (array_start a) bytes) (sym (array_bytes-spelled a))
    (sym (take_at (head_of a ++ a.extra) (table_of a ++ joined a.elements) (array_start a) (omega arith)))

pub head-added : (a : Array) (count : ℕ) (first header extra : List ℕ) → header ≡ array_bytes a → extra ≡ a.extra → length first ≤ length a.extra
    → (d e f g h : Draft)
    → Adds d e (take 2 header) (word count) → Adds e f (take 6 (drop 2 header)) (take 6 (drop 2 header))
    → Adds f g (take (length first) extra) first → Adds g h (drop (length first) extra) (drop (length first) extra)
    → Adds d h (take (array_start a) (array_bytes a)) (head_after a count first)
head-added a count first header extra header_is extra_is short d e f g h one two three four =
    let long = length-array_bytes a in
    let n : ℕ = length first in
    let number : length (take 2 header) ≡ length (word count) = length-take-le 2 header (let same = ap length header_is in omega (arith, long, same)) in
    let kept : length (take n extra) ≡ n = length-take-le n extra (let same = ap length extra_is in omega (arith, same, short)) in
    let old : take 2 header ++ (take 6 (drop 2 header) ++ (take n extra ++ drop n extra)) ≡ take (array_start a) (array_bytes a) =
    ap₂ (λ (l m : List ℕ). take 2 l ++ (take 6 (drop 2 l) ++ m)) header_is (take-append-drop n extra ∙ extra_is) ∙ front-parts a in
    let new : word count ++ (take 6 (drop 2 header) ++ (first ++ drop n extra)) ≡ head_after a count first =
    ap₂ (λ (l m : List ℕ). word count ++ (take 6 (drop 2 l) ++ (first ++ drop n m))) header_is extra_is in
    let from_behind = length-append (take n extra) (drop n extra) in
    let to_behind = length-append first (drop n extra) in
    adds-as d h _ _ _ _ old new
    (adds-around d e f h (take 2 header) (word count) (take 6 (drop 2 header)) (take 6 (drop 2 header)) (take n extra ++ drop n extra) (first ++ drop n extra)
    number (omega (arith, kept, from_behind, to_behind)) one two
    (adds-then f g h (take n extra) first (drop n extra) (drop n extra) three four (omega (arith, kept))))

pub length-head_after : (a : Array) (count : ℕ) (first : List ℕ) → length first ≤ length a.extra → length (head_after a count first) ≡ array_start a
length-head_after a count first short =
    let long = length-array_bytes a in
    let words : length (take 6 (drop 2 (array_bytes a))) ≡ 6 = length-take-le 6 (drop 2 (array_bytes a)) (omega (arith, long, length-drop 2 (array_bytes a))) in
    let parts = length-append (take 6 (drop 2 (array_bytes a))) (extra_after a first) in
    omega (arith, words, parts, length-extra_after a first short)

-- The parts of all bytes, as they are and as they become.

pub bytes-parts : (a : Array) → (take (array_start a) (array_bytes a) ++ place_table (array_start a) a) ++ joined a.elements ≡ array_bytes a
bytes-parts a =
    let behind : drop (array_start a) (array_bytes a) ≡ table_of a ++ joined a.elements = ap (drop (array_start a)) (array_bytes-spelled a) ∙ behind_extra a in
    append_assoc (take (array_start a) (array_bytes a)) (table_of a) (joined a.elements)
    ∙ ap (λ (l : List ℕ). take (array_start a) (array_bytes a) ++ l) (sym behind)
    ∙ take-append-drop (array_start a) (array_bytes a)

pub bytes_after-parts : (a : Array) (count : ℕ) (first : List ℕ) (xs : List (List ℕ)) → length first ≤ length a.extra → count ≡ length xs
    → (head_after a count first ++ place_table (array_start a) (record a { elements = xs })) ++ joined xs ≡ array_bytes (record a { extra = extra_after a first; elements = xs })
bytes_after-parts a count first xs short count_is =
    let b : Array = record a { extra = extra_after a first; elements = xs } in
    let start : array_start a ≡ array_start b = ap (λ (n : ℕ). 8 + n) (sym (length-extra_after a first short)) in
    let rest : List ℕ = extra_after a first ++ (place_table (array_start b) b ++ joined xs) in
    let words : take 6 (drop 2 (array_bytes a)) ≡ word a.size ++ word 0 ++ word (array_start a) = ap (λ (l : List ℕ). take 6 (drop 2 l)) (array_bytes-spelled a) in
    append_assoc (head_after a count first) (place_table (array_start a) (record a { elements = xs })) (joined xs)
    ∙ ap (λ (l : List ℕ). word count ++ (l ++ extra_after a first) ++ (place_table (array_start a) b ++ joined xs)) words
    ∙ ap₂ (λ (m n : ℕ). (word m ++ word a.size ++ word 0 ++ word n ++ extra_after a first) ++ (place_table n b ++ joined xs)) count_is start
    ∙ sym (array_bytes-spelled b)

-- Where no element comes, or one in the place of one at most, the table and the elements both grow or both shrink.
abbrev Together : ℕ → ℕ → ℕ → ℕ → Type 0
Together t t′ e e′ = ((t ≤ t′) × (e ≤ e′)) ⊎ ((t′ ≤ t) × (e′ ≤ e))

together-level : (h t t′ e e′ : ℕ) → Together t t′ e e′ → max (h + t) (h + t′) + max e e′ ≡ max (h + t + e) (h + t′ + e′)
together-level h t t′ e e′ grows = elim grows [
  | inl up ↦ omega (arith, up.0, up.1)
  | inr down ↦ omega (arith, down.0, down.1)
]

together : (a : Array) (from to : ℕ) (ys : List (List ℕ)) → from ≤ to → to ≤ length a.elements → (ys ≡ []) ⊎ ((to ≤ from + 1) × (length ys ≡ 1))
    → Together (length (place_table (array_start a) a)) (length (place_table (array_start a) (record a { elements = splice a.elements from to ys }))) (length (joined a.elements)) (length (joined (splice a.elements from to ys)))
together a from to ys order within few =
    let xs : List (List ℕ) = a.elements in
    let b : Array = record a { elements = splice xs from to ys } in
    let run : List (List ℕ) = take (to - from) (drop from xs) in
    let many = length-spliced xs ys from to order within in
    let old = length-place_table (array_start a) a in
    let new = length-place_table (array_start a) b in
    let was = ap (λ (l : List (List ℕ)). length (joined l)) (sym (three_parts xs from to order)) ∙ length_joined-splice xs run from to in
    let is = length_joined-splice xs ys from to in
    let tables : (length xs ≤ length b.elements → length (place_table (array_start a) a) ≤ length (place_table (array_start a) b)) × (length b.elements ≤ length xs → length (place_table (array_start a) b) ≤ length (place_table (array_start a) a)) =
    elim (cases_Bool (a.size == 0)) [
      | inl any ↦ (let o = old ∙ cond-true (a.size == 0) _ _ any in let n = new ∙ cond-true (a.size == 0) _ _ any in (λ l. omega (arith, o, n, l), λ l. omega (arith, o, n, l)))
      | inr one ↦ (let o = old ∙ cond-false (a.size == 0) _ _ one in let n = new ∙ cond-false (a.size == 0) _ _ one in (λ l. omega (arith, o, n), λ l. omega (arith, o, n)))
    ] in
    elim few [
      | inl none ↦ (
          let no = ap length none in
          let bytes = ap (λ (l : List (List ℕ)). length (joined l)) none in
          inr (tables.1 (omega (arith, many, no)), omega (arith, was, is, bytes)))
      | inr one ↦ elim (cases_eq to from) [
        | inl same ↦ (
            let nothing : to - from ≡ 0 = omega arith in
            let gone = ap (λ (n : ℕ). length (joined (take n (drop from xs)))) nothing in
            inl (tables.0 (omega (arith, many, one.1)), omega (arith, was, is, gone)))
        | inr other ↦ (
            let level : length b.elements ≡ length xs = omega (arith, many, one.0, one.1, within, order) in
            let up = tables.0 (omega (arith, level)) in
            let down = tables.1 (omega (arith, level)) in
            elim (cases_lt (length (joined xs)) (length (joined b.elements))) [
              | inl more ↦ inl (up, omega (arith, more))
              | inr less ↦ inr (down, less)
            ])
      ]
    ]

-- The patch that was drawn up leads from the array's bytes to those of the array that it becomes.
pub rewritten_leads : (a : Array) (first : List ℕ) (from to count : ℕ) (ys : List (List ℕ)) → length first ≤ length a.extra → from ≤ to → to ≤ length a.elements
    → (ys ≡ []) ⊎ ((to ≤ from + 1) × (length ys ≡ 1)) → count ≡ length (splice a.elements from to ys)
    → (d e f g : Draft) → d.patch ≡ [] → d.kept ≡ 0
    → Adds d e (take (array_start a) (array_bytes a)) (head_after a count first)
    → Adds e f (place_table (array_start a) a) (place_table (array_start a) (record a { elements = splice a.elements from to ys }))
    → Adds f g (joined a.elements) (joined (splice a.elements from to ys))
    → PatchLeads (settled g) (array_bytes a) (array_bytes (record a { extra = extra_after a first; elements = splice a.elements from to ys }))
rewritten_leads a first from to count ys short order within few count_is d e f g empty none one two three =
    let xs : List (List ℕ) = splice a.elements from to ys in
    let head : List ℕ = take (array_start a) (array_bytes a) in
    let table : List ℕ = place_table (array_start a) a in
    let head′ : List ℕ = head_after a count first in
    let table′ : List ℕ = place_table (array_start a) (record a { elements = xs }) in
    let long = length-array_bytes a in
    let front : length head ≡ array_start a = length-take-le (array_start a) (array_bytes a) (omega (arith, long)) in
    let front′ : length head′ ≡ array_start a = length-head_after a count first short in
    let both = length-append head table in
    let both′ = length-append head′ table′ in
    let level = together-level (array_start a) (length table) (length table′) (length (joined a.elements)) (length (joined xs)) (together a from to ys order within few) in
    drawn_leads d g (array_bytes a) (array_bytes (record a { extra = extra_after a first; elements = xs })) empty none
    (adds-as d g _ _ _ _ (bytes-parts a) (bytes_after-parts a count first xs short count_is)
    (adds-then d f g (head ++ table) (head′ ++ table′) (joined a.elements) (joined xs)
    (adds-then d e f head head′ table table′ one two (omega (arith, front, front′)))
    three
    (omega (arith, both, both′, front, front′, level))))

-- The new bytes are as many as with the old extra bytes.
pub as_long : (a : Array) (first : List ℕ) (from to : ℕ) (new : Option NewElement) → length first ≤ length a.extra
    → length (array_bytes (rewritten a (extra_after a first) from to new)) ≡ length (array_bytes (rewritten a a.extra from to new))
as_long a first from to new short = length-other_extra (rewritten a a.extra from to new) (extra_after a first) (length-extra_after a first short)

-- one element at most comes, and in the place of one at most
pub few_elements : (new : Option NewElement) (from to : ℕ) → (IsSome new → to ≤ from + 1) → (elements_of new ≡ []) ⊎ ((to ≤ from + 1) × (length (elements_of new) ≡ 1))
few_elements None from to one = inl refl
few_elements (Some element) from to one = inr (one refl, refl)
