use Rattle.std.proofs.Common.{ℕ, ◌+◌, List, slice_range, ap, ◌∙◌}
use Rattle.raw_region.proofs.Puts.{slice_behind}
use Rattle.raw_region.proofs.region.Region.slice.Goals as goal

pub returns-clause-value : goal.returns-clause-value
returns-clause-value c =
    let at = c.args.at in let n = c.args.n in
    ap (λ (l : List ℕ). slice_range l (16 + at) (16 + at + n)) c.view.ensures
    ∙ (slice_behind c.self.inside.raw.bytes 16 at n ∙ ap (λ (l : List ℕ). slice_range l at (at + n)) c.self.view_is)
