-- Texts of differences, one after another.
use Rattle.std.proofs.Common.{◌≡◌, ℕ, suc, zero, ◌+◌, List, [], ◌∷◌, ◌++◌, refl, sym, ap, ◌∙◌, arith, append_assoc, append-nil, flat_map, map}
use Rattle.std.proofs.lemmas.List.Concat.{flat_map-append}
use Rattle.std.specs.List.{range_with_len}
use Rattle.geos_model.specs.Heap.{chunk_handles, handle_of, most_chunks}
use Rattle.document_diff.specs.Lines.{diff_line, diff_lines}
use Rattle.document_diff.specs.declared.difference.Difference.{Difference}

pub text_append : (xs ys : List Difference) → diff_lines (xs ++ ys) ≡ diff_lines xs ++ diff_lines ys
text_append xs ys = flat_map-append diff_line xs ys

-- one more number at the end of a range
pub flat_more : (f : ℕ → List Difference) (a n : ℕ) → flat_map f (range_with_len a (suc n)) ≡ flat_map f (range_with_len a n) ++ f (a + n)
flat_more f a zero = let at : a ≡ a + 0 = omega arith in append-nil (f a) ∙ ap f at
flat_more f a (suc n) =
    let at : a + 1 + n ≡ a + suc n = omega arith in
    ap (λ (r : List Difference). f a ++ r) (flat_more f (a + 1) n ∙ ap (λ (k : ℕ). flat_map f (range_with_len (a + 1) n) ++ f k) at)
    ∙ sym (append_assoc (f a) (flat_map f (range_with_len (a + 1) n)) (f (a + suc n)))

-- by their places in a table
flat_mapped : (f : ℕ → List Difference) (g : ℕ → ℕ) (xs : List ℕ) → flat_map f (map g xs) ≡ flat_map (λ x. f (g x)) xs
flat_mapped f g [] = refl
flat_mapped f g (x ∷ xs) = ap (λ (r : List Difference). f (g x) ++ r) (flat_mapped f g xs)

pub by_chunks : (f : ℕ → List Difference) → flat_map f chunk_handles ≡ flat_map (λ i. f (handle_of i)) (range_with_len 0 most_chunks)
unfolding chunk_handles
by_chunks f = flat_mapped f handle_of (range_with_len 0 most_chunks)

pub ruleset texts = (text_append)
