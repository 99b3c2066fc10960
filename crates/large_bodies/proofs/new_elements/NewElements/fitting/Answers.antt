use Rattle.std.proofs.Common.{◌≡◌, ◌≤◌, ◌<◌, ◌+◌, ◌/◌, ℕ, ◌==◌, false, min, length, take, sym, ap, ap₂, subst, ◌∙◌}
use Rattle.std.proofs.lemmas.Bool.{ne_eqb}
use Rattle.geos_model.specs.Pieces.{piece_weight}
use Rattle.large_bodies.specs.SizedElements.{SizedElements}
use Rattle.large_bodies.specs.NewElementsViewing.{seen_elements, HasNewElements}
use Rattle.large_bodies.specs.declared.new_elements.NewElements.TheInside.{Inside}
use Rattle.large_bodies.proofs.NewElementsLemmas.{seen-are, even-fitting}
use Rattle.large_bodies.proofs.new_elements.NewElements.fitting.Goals as goal

-- so many fit
abbrev Fitting : SizedElements → ℕ → ℕ → Type 0
Fitting w room n =
    (piece_weight w.size (take n w.elements) ≤ room) × (n < length w.elements → room < piece_weight w.size (take (n + 1) w.elements))

fits : (v : Inside) (w : SizedElements) (room n : ℕ) → seen_elements v ≡ w → HasNewElements v → (v.size ≡ 0 → ⊥) → n ≡ min v.count (room / v.size) → Fitting w room n
fits v w room n is has some least =
    let are = seen-are v w is has in
    let size : v.size ≡ w.size = ap (λ (u : SizedElements). u.size) is in
    let one : (w.size == 0) ≡ false = ap (λ (m : ℕ). m == 0) (sym size) ∙ ne_eqb v.size 0 some in
    let same : n ≡ min (length w.elements) (room / w.size) = least ∙ ap₂ (λ (m k : ℕ). min m (room / k)) are.counted size in
    subst (Fitting w room) (sym same) (even-fitting w.size room w.elements one are.sized)

pub returns-then-self-ne0-clause-fits : goal.returns-then-self-ne0-clause-fits
returns-then-self-ne0-clause-fits c = (fits c.self.inside c.args.self.now c.args.room c.min.result c.self.view_is c.self.invariant c.if-self-ne0.true c.min.ensures).0

pub returns-then-self-ne0-clause-most : goal.returns-then-self-ne0-clause-most
returns-then-self-ne0-clause-most c = (fits c.self.inside c.args.self.now c.args.room c.min.result c.self.view_is c.self.invariant c.if-self-ne0.true c.min.ensures).1
