use Rattle.std.proofs.Common.{◌-◌, ◌∙◌, ap, ℕ, take, drop}
use Rattle.chunk_arrays.proofs.PartsLemmas.{extra-is}
use Rattle.chunk_arrays.specs.Viewed.{Viewed}
use Rattle.chunk_arrays.proofs.view.View.extra.Goals as goal

pub returns : goal.returns
returns c =
    ap (λ (s : ℕ). take (s - 8) (drop 8 c.self.inside.bytes.now)) c.self.invariant.start
    ∙ extra-is c.self.inside.bytes.now c.self.invariant.parts
    ∙ ap (λ (v : Viewed). v.array.extra) c.self.view_is
