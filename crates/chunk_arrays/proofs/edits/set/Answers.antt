use Rattle.std.proofs.Common.{◌≡◌, ◌+◌, [], ◌∷◌, List, ℕ, false, refl, ap, sym, ◌∙◌, arith}
use Rattle.geos_model.specs.Array.{Array}
use Rattle.geos_model.specs.ArrayEdits.{element_set, set_conditions, is_missized}
use Rattle.geos_model.proofs.Arrays.{array_bytes-of}
use Rattle.geos_model.proofs.ArrayEdits.{even_with_one}
use Rattle.chunk_arrays.proofs.ReplacingLemmas.{set_decides, elements_handed_on}
use Rattle.chunk_arrays.proofs.edits.set.Goals as goal

pub rewrite-requires-clause-even : goal.rewrite-requires-clause-even
rewrite-requires-clause-even c =
    let sized : is_missized c.in_ok-view.view.array.size c.args.element.now ≡ false = ap (λ (n : ℕ). is_missized n c.args.element.now) (sym c.element_size.ensures) ∙ sym c.if-is_missized.ensures in
    even_with_one c.in_ok-view.view.array c.in_ok-view.view.array.extra c.args.i (c.args.i + 1) _ c.args.element.now (array_bytes-of c.args.bytes.now c.in_ok-view.view.array c.in_ok-view.ensures).0 c.whole.ensures sized

pub returns : goal.returns
returns c =
    let a : Array = c.in_ok-view.view.array in
    let bytes : List ℕ = c.args.bytes.now in
    let i : ℕ = c.args.i in
    let element : List ℕ = c.args.element.now in
    let sized : is_missized a.size element ≡ false = ap (λ (n : ℕ). is_missized n c.args.element.now) (sym c.element_size.ensures) ∙ sym c.if-is_missized.ensures in
    elements_handed_on bytes a i (i + 1) _ (element ∷ []) (set_conditions bytes i element) c.in_ok-view.ensures (ap (λ (x : List ℕ). x ∷ []) c.whole.ensures)
    c.rewrite.result 1 (set_decides bytes a i element (element_set bytes i element) c.in_ok-view.ensures (omega arith) sized) c.rewrite.ensures

pub returns-then-element_size-ne0 : goal.returns-then-element_size-ne0
returns-then-element_size-ne0 c =
    let a : Array = c.in_ok-view.view.array in
    let bytes : List ℕ = c.args.bytes.now in
    let i : ℕ = c.args.i in
    let element : List ℕ = c.args.element.now in
    let sized : is_missized a.size element ≡ false = ap (λ (n : ℕ). is_missized n c.args.element.now) (sym c.element_size.ensures) ∙ sym c.if-is_missized.ensures in
    elements_handed_on bytes a i (i + 1) (element ∷ []) (element ∷ []) (set_conditions bytes i element) c.in_ok-view.ensures refl
    c.set_even.result 1 (set_decides bytes a i element (element_set bytes i element) c.in_ok-view.ensures (omega arith) sized) c.set_even.ensures
