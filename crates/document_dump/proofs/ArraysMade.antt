-- The edits that make a chunk by the elements of an array.
use Rattle.std.proofs.Common.{◌≡◌, ℕ, suc, ◌+◌, ◌-◌, ◌<◌, List, [], ◌∷◌, ◌++◌, Option, Some, None, length, drop, get_or, sym, ap, ◌∙◌, arith, append_assoc, append-nil, inl, inr}
use Rattle.std.proofs.lemmas.Bool.{cases_Bool, cond-true, cond-false}
use Rattle.std.proofs.lemmas.List.{drop_all, drop_more}
use Rattle.std.specs.Option.{option_and_then}
use Rattle.geos_model.specs.Array.{Array, array_of}
use Rattle.geos_model.specs.declared.handle.VmHandle.{VmHandle}
use Rattle.geos_model.specs.declared.handle.ChunkHandle.{ChunkHandle}
use Rattle.geos_model.specs.declared.command.Edit.{Edit}
use Rattle.geos_model.specs.declared.command.Edit.TheVariants as edits
use Rattle.document_dump.specs.Lines.{line, text}
use Rattle.document_dump.specs.Arrays.{array_made, array_to_make, elements_inserted, extra_written, if_creatable, is_creatable}
use Rattle.document_dump.proofs.Texts.{text_append}

-- which array is made

pub to_make-is : (bytes : List ℕ) (a : Array) → array_of bytes ≡ Some a → array_to_make bytes ≡ if_creatable a
unfolding array_to_make
to_make-is bytes a is = ap (option_and_then if_creatable) is

pub to_make-none : (bytes : List ℕ) → array_of bytes ≡ None → array_to_make bytes ≡ None
unfolding array_to_make
to_make-none bytes none = ap (option_and_then if_creatable) none

of_creatable : (o : Option Array) (a : Array) → option_and_then if_creatable o ≡ Some a → o ≡ Some a
of_creatable None a e = let none : None ≡ Some a = e in absurd (cc)
of_creatable (Some x) a e = elim (cases_Bool (is_creatable x)) [
  | inl so ↦ sym (cond-true _ _ _ so) ∙ e
  | inr other ↦ (let none : None ≡ Some a = sym (cond-false _ _ _ other) ∙ e in absurd (cc))
]

pub to_make-array : (bytes : List ℕ) (a : Array) → array_to_make bytes ≡ Some a → array_of bytes ≡ Some a
unfolding array_to_make
to_make-array bytes a e = of_creatable (array_of bytes) a e

-- its elements, from the last one on

text_one : (es : List Edit) (e : Edit) → text (es ++ e ∷ []) ≡ text es ++ line e
text_one es e = text_append es (e ∷ []) ∙ ap (λ (l : List ℕ). text es ++ l) (append-nil (line e))

one_more : (b : VmHandle) (c : ChunkHandle) (xs : List (List ℕ)) (k : ℕ) → k < length xs
    → elements_inserted b c (drop k xs) ≡ elements_inserted b c (drop (k + 1) xs) ++ edits.InsertElement b c 0 (get_or xs k []) ∷ []
unfolding elements_inserted
one_more b c xs k below = ap (elements_inserted b c) (drop_more xs k [] below)

pub inserted_more : (b : VmHandle) (c : ChunkHandle) (xs : List (List ℕ)) (n i : ℕ) (x start now new : List ℕ) → i < n → n ≡ length xs → x ≡ get_or xs (n - 1 - i) []
    → now ≡ start ++ text (elements_inserted b c (drop (length xs - i) xs)) → new ≡ now ++ line (edits.InsertElement b c 0 x)
    → new ≡ start ++ text (elements_inserted b c (drop (length xs - (i + 1)) xs))
inserted_more b c xs n i x start now new below count is so_far more =
    let k = length xs - (i + 1) in
    let at : n - 1 - i ≡ k = omega (arith, count) in
    let next : length xs - i ≡ k + 1 = omega (arith, count) in
    let inside : k < length xs = omega (arith, count) in
    let rest : List Edit = elements_inserted b c (drop (k + 1) xs) in
    let e : List ℕ → Edit = edits.InsertElement b c 0 in
    let elements : text (elements_inserted b c (drop k xs)) ≡ text rest ++ line (e (get_or xs k [])) = ap text (one_more b c xs k inside) ∙ text_one rest (e (get_or xs k [])) in
    more
    ∙ ap (λ (y : List ℕ). now ++ line (e y)) (is ∙ ap (λ (j : ℕ). get_or xs j []) at)
    ∙ ap (λ (l : List ℕ). l ++ line (e (get_or xs k []))) (so_far ∙ ap (λ (j : ℕ). start ++ text (elements_inserted b c (drop j xs))) next)
    ∙ append_assoc start (text rest) (line (e (get_or xs k [])))
    ∙ ap (λ (l : List ℕ). start ++ l) (sym elements)

pub inserted_none : (b : VmHandle) (c : ChunkHandle) (xs : List (List ℕ)) (start : List ℕ) → start ≡ start ++ text (elements_inserted b c (drop (length xs - 0) xs))
unfolding elements_inserted
inserted_none b c xs start =
    let all : drop (length xs - 0) xs ≡ [] = drop_all (length xs - 0) xs (omega arith) in
    sym (append-nil start) ∙ ap (λ (ys : List (List ℕ)). start ++ text (elements_inserted b c ys)) (sym all)

regroup : (a b c d : List ℕ) → ((a ++ b) ++ c) ++ d ≡ a ++ (b ++ (c ++ d))
regroup a b c d = simp append_assoc

pub array_pushed : (b : VmHandle) (c : ChunkHandle) (a : Array) (size : ℕ) (x y o0 o1 o2 o3 : List ℕ) → size ≡ a.size → x ≡ a.extra → y ≡ a.extra
    → o1 ≡ o0 ++ line (edits.CreateArray b size (length x)) → o2 ≡ o1 ++ text (extra_written b c y) → o3 ≡ o2 ++ text (elements_inserted b c a.elements)
    → o3 ≡ o0 ++ text (array_made b c a)
unfolding array_made
array_pushed b c a size x y o0 o1 o2 o3 size_is x_is y_is p1 p2 p3 =
    let made = line (edits.CreateArray b a.size (length a.extra)) in
    let extra = extra_written b c a.extra in
    let elements = elements_inserted b c a.elements in
    let first : o1 ≡ o0 ++ made = p1 ∙ ap (λ (n : ℕ). o0 ++ line (edits.CreateArray b n (length x))) size_is ∙ ap (λ (l : List ℕ). o0 ++ line (edits.CreateArray b a.size (length l))) x_is in
    let second : o2 ≡ (o0 ++ made) ++ text extra = p2 ∙ ap (λ (l : List ℕ). o1 ++ text (extra_written b c l)) y_is ∙ ap (λ (l : List ℕ). l ++ text extra) first in
    p3 ∙ ap (λ (l : List ℕ). l ++ text elements) second ∙ regroup o0 made (text extra) (text elements)
    ∙ ap (λ (l : List ℕ). o0 ++ (made ++ l)) (sym (text_append extra elements))
