use Rattle.std.proofs.Common.{◌≡◌, ◌≤◌, ◌++◌, ◌∷◌, [], ℕ, true, List, length, sym, ap, ◌∙◌, arith}
use Rattle.geos_model.proofs.Arrays.{joined}
use Rattle.geos_model.specs.Pieces.{branch_room, each_fits}
use Rattle.large_bodies.specs.SizedElements.{SizedElements}
use Rattle.large_bodies.specs.ElementLengths.{kept_lengths}
use Rattle.large_bodies.proofs.NewElementsLemmas.{single-length}
use Rattle.large_bodies.proofs.piece.push_new_length.Goals as goal

-- the element there is
single : (w : SizedElements) (size count : ℕ) (bytes : List ℕ) → size ≡ w.size → size ≡ 0 → count ≡ length w.elements → (count ≡ 0 → ⊥) → each_fits w.size w.elements ≡ true
    → (w.size ≡ 0 → length w.elements ≤ 1) → bytes ≡ joined w.elements → (kept_lengths w.size w.elements ≡ length bytes ∷ []) × (length bytes ≤ branch_room)
single w size count bytes same any counted some fit one row =
    let none : w.size ≡ 0 = sym same ∙ any in
    let is = single-length w.size w.elements none (one none) (λ empty. some (counted ∙ empty)) fit in
    let long = ap length row in
    let most = is.1 in
    (is.0 ∙ ap (λ (n : ℕ). n ∷ []) (sym long), omega arith)

pub overflow_cast-length : goal.overflow_cast-length
overflow_cast-length c =
    let most = (single c.args.new.now c.element_size.result c.count.result c.bytes-length.result.now c.element_size.ensures c.if-element_size-ne0.false
    c.count.ensures.value c.if-count-eq0.false c.count.ensures.fits c.bytes-length.ensures.one c.bytes-length.ensures.value).1 in
    omega arith

pub returns : goal.returns
returns c =
    c.in_ok-push.ensures.items
    ∙ ap (λ (ns : List ℕ). c.args.lengths.now.items ++ ns)
    (sym (single c.args.new.now c.element_size.result c.count.result c.bytes-length.result.now c.element_size.ensures c.if-element_size-ne0.false
    c.count.ensures.value c.if-count-eq0.false c.count.ensures.fits c.bytes-length.ensures.one c.bytes-length.ensures.value).0)
