use Rattle.std.proofs.Common.{ℕ, List, ◌∷◌, ap, ◌∙◌}
use Rattle.geos_model.specs.Image.{image}
use Rattle.raw_region.proofs.body.RawBody.image.Goals as goal

pub returns-clause-value : goal.returns-clause-value
unfolding image
returns-clause-value c = c.with_kind.ensures.value ∙ ap (λ (l : List ℕ). 0 ∷ l) c.self.view_is
