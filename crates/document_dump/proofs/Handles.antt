-- The handles of blocks, from one on.
use Rattle.std.proofs.Common.{◌≡◌, ℕ, suc, ◌+◌, ◌-◌, ◌<◌, List, [], ◌∷◌, ◌++◌, refl, sym, ap, ◌∙◌, arith, append_assoc, append-nil, flat_map}
use Rattle.std.specs.List.{range_with_len}
use Rattle.geos_model.specs.Document.{most_blocks, vm_handles}
use Rattle.geos_model.specs.declared.command.Edit.{Edit}
use Rattle.document_dump.specs.Lines.{text}
use Rattle.document_dump.proofs.Texts.{text_append}

unfoldable pub handles_above : ℕ → List ℕ
handles_above i = range_with_len (i + 1) (most_blocks - i)

pub handles_above-none : handles_above 0 ≡ vm_handles
unfolding handles_above vm_handles
handles_above-none = refl

next : (n i : ℕ) → i < n → range_with_len (i + 1) (n - i) ≡ (i + 1) ∷ range_with_len (i + 1 + 1) (n - (i + 1))
next n i below = let left : n - i ≡ suc (n - (i + 1)) = omega arith in ap (range_with_len (i + 1)) left

pub handles_above-next : (i : ℕ) → i < 8192 → handles_above i ≡ (i + 1) ∷ handles_above (i + 1)
unfolding handles_above
handles_above-next i below = next most_blocks i below

pub handles_above-all : handles_above 8192 ≡ []
unfolding handles_above
handles_above-all = refl

-- edits of each handle: those up to one are there, and those above are left
pub left_more : (f : ℕ → List Edit) (i : ℕ) (start old new : List ℕ) → i < 8192 → old ++ text (flat_map f (handles_above i)) ≡ start → new ≡ old ++ text (f (i + 1))
    → new ++ text (flat_map f (handles_above (i + 1))) ≡ start
left_more f i start old new below so_far more =
    let rest = flat_map f (handles_above (i + 1)) in
    let whole : text (flat_map f (handles_above i)) ≡ text (f (i + 1)) ++ text rest = ap (λ (hs : List ℕ). text (flat_map f hs)) (handles_above-next i below) ∙ text_append (f (i + 1)) rest in
    ap (λ (l : List ℕ). l ++ text rest) more ∙ append_assoc old (text (f (i + 1))) (text rest) ∙ ap (λ (l : List ℕ). old ++ l) (sym whole) ∙ so_far

pub left_none : (f : ℕ → List Edit) (start now : List ℕ) → now ++ text (flat_map f (handles_above 8192)) ≡ start → now ≡ start
left_none f start now so_far = sym (append-nil now) ∙ ap (λ (hs : List ℕ). now ++ text (flat_map f hs)) (sym handles_above-all) ∙ so_far
