use Rattle.std.proofs.Common.{◌≡◌, ◌≤◌, ℕ, ◌*◌, ◌==◌, false, length, take, sym, ap, ◌∙◌, arith}
use Rattle.std.proofs.lemmas.Bool.{ne_eqb}
use Rattle.geos_model.proofs.Arrays.{joined}
use Rattle.large_bodies.specs.SizedElements.{SizedElements}
use Rattle.large_bodies.specs.NewElementsViewing.{seen_elements, HasNewElements}
use Rattle.large_bodies.specs.declared.new_elements.NewElements.TheInside.{Inside}
use Rattle.large_bodies.proofs.NewElementsLemmas.{seen-are, length-first, first-within}
use Rattle.large_bodies.proofs.new_elements.NewElements.end.Goals as goal

ends : (v : Inside) (w : SizedElements) (k : ℕ) → seen_elements v ≡ w → HasNewElements v → (v.size ≡ 0 → ⊥) → k ≤ length w.elements
    → (k * v.size ≡ length (joined (take k w.elements))) × (length (joined (take k w.elements)) ≤ length v.bytes.now)
ends v w k is has some few =
    let are = seen-are v w is has in
    let size : v.size ≡ w.size = ap (λ (u : SizedElements). u.size) is in
    let one : (w.size == 0) ≡ false = ap (λ (n : ℕ). n == 0) (sym size) ∙ ne_eqb v.size 0 some in
    let bytes = ap length are.joined in
    let within = first-within k w.elements in (
      ap (λ (n : ℕ). k * n) size ∙ sym (length-first w.size k w.elements one are.sized few),
      omega arith,
    )

pub overflow_mul-result : goal.overflow_mul-result
overflow_mul-result c =
    let end = ends c.self.inside c.args.self.now c.args.k c.self.view_is c.self.invariant c.if-self-ne0.true c.requires in
    let is = end.0 in
    let within = end.1 in
    let few = c.self.told.0 in
    omega arith

pub returns-then-self-ne0 : goal.returns-then-self-ne0
returns-then-self-ne0 c = (ends c.self.inside c.args.self.now c.args.k c.self.view_is c.self.invariant c.if-self-ne0.true c.requires).0
