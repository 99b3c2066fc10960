use Rattle.std.proofs.Common.{◌≡◌, ◌+◌, [], ◌∷◌, List, ℕ, get_or, ap, sym, ◌∙◌, arith}
use Rattle.geos_model.specs.Array.{Array}
use Rattle.geos_model.specs.ArrayEdits.{array_in, element_resized, resize_conditions}
use Rattle.geos_model.specs.Bytes.{resized}
use Rattle.chunk_arrays.proofs.ReplacingLemmas.{array_in-is, resize_decides, elements_handed_on}
use Rattle.chunk_arrays.proofs.edits.resize.Goals as goal

pub returns : goal.returns
returns c =
    let a : Array = c.in_ok-view.view.array in
    let bytes : List ℕ = c.args.bytes.now in
    let i : ℕ = c.args.i in
    let element : List ℕ = resized (get_or (array_in bytes).elements i []) c.args.n in
    let element_is : _ ≡ element =
    c.resized_to-new.ensures ∙ ap (λ (old : List ℕ). resized old c.args.n) (c.element.ensures ∙ ap (λ (b : Array). get_or b.elements i []) (sym (array_in-is bytes a c.in_ok-view.ensures))) in
    elements_handed_on bytes a i (i + 1) _ (element ∷ []) (resize_conditions bytes i) c.in_ok-view.ensures (ap (λ (x : List ℕ). x ∷ []) element_is)
    c.rewrite.result 1 (resize_decides bytes a i (element_resized bytes i c.args.n) c.in_ok-view.ensures (omega arith) (sym c.element_size.ensures ∙ c.if-element_size-ne0.false)) c.rewrite.ensures
