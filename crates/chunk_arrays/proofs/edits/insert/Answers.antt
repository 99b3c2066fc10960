use Rattle.std.proofs.Common.{◌≡◌, [], ◌∷◌, List, ℕ, false, append-nil, inr, refl, ap, sym, ◌∙◌, arith}
use Rattle.geos_model.specs.Array.{Array}
use Rattle.geos_model.specs.ArrayEdits.{element_inserted, insert_conditions, is_missized}
use Rattle.geos_model.proofs.Arrays.{array_bytes-of}
use Rattle.geos_model.proofs.ArrayEdits.{even_with_one}
use Rattle.chunk_arrays.specs.Even.{AreElements}
use Rattle.chunk_arrays.proofs.ReplacingLemmas.{insert_decides, elements_handed_on}
use Rattle.chunk_arrays.proofs.edits.insert.Goals as goal

pub rewrite-requires-clause-even : goal.rewrite-requires-clause-even
rewrite-requires-clause-even c =
    let sized : is_missized c.in_ok-view.view.array.size c.args.element.now ≡ false = ap (λ (n : ℕ). is_missized n c.args.element.now) (sym c.element_size.ensures) ∙ sym c.if-is_missized.ensures in
    even_with_one c.in_ok-view.view.array c.in_ok-view.view.array.extra c.args.i c.args.i _ c.args.element.now (array_bytes-of c.args.bytes.now c.in_ok-view.view.array c.in_ok-view.ensures).0 c.whole.ensures sized

pub returns : goal.returns
returns c =
    let a : Array = c.in_ok-view.view.array in
    let bytes : List ℕ = c.args.bytes.now in
    let i : ℕ = c.args.i in
    let element : List ℕ = c.args.element.now in
    let sized : is_missized a.size element ≡ false = ap (λ (n : ℕ). is_missized n c.args.element.now) (sym c.element_size.ensures) ∙ sym c.if-is_missized.ensures in
    elements_handed_on bytes a i i _ (element ∷ []) (insert_conditions bytes i element) c.in_ok-view.ensures (ap (λ (x : List ℕ). x ∷ []) c.whole.ensures)
    c.rewrite.result 1 (insert_decides bytes a i element (element_inserted bytes i element) c.in_ok-view.ensures (omega arith) sized) c.rewrite.ensures

pub returns-then-is_even : goal.returns-then-is_even
returns-then-is_even c =
    let a : Array = c.in_ok-view.view.array in
    let bytes : List ℕ = c.args.bytes.now in
    let i : ℕ = c.args.i in
    let element : List ℕ = c.args.element.now in
    let sized : is_missized a.size element ≡ false = ap (λ (n : ℕ). is_missized n c.args.element.now) (sym c.element_size.ensures) ∙ sym c.if-is_missized.ensures in
    let are : AreElements a i i element 1 (element ∷ []) = record {
      joined = sym (append-nil element);
      many = refl;
      even = even_with_one a a.extra i i element element (array_bytes-of bytes a c.in_ok-view.ensures).0 refl sized;
      few = inr (omega arith, refl);
    } in
    elements_handed_on bytes a i i (element ∷ []) (element ∷ []) (insert_conditions bytes i element) c.in_ok-view.ensures refl
    c.splice_even.result 1 (insert_decides bytes a i element (element_inserted bytes i element) c.in_ok-view.ensures (omega arith) sized) (c.splice_even.ensures (element ∷ []) are)
