use Rattle.std.proofs.Common.{◌+◌, ◌≤◌, length, take, arith, refl, sym, ◌∙◌}
use Rattle.std.proofs.lemmas.List.{length-take}
use Rattle.raw_region.proofs.Puts.{length-put, put_in, slice-take}
use Rattle.raw_region.proofs.body.RawBody.slice_mut.Goals as goal

pub invariant_of-self-lent : goal.invariant_of-self-lent
invariant_of-self-lent c = let s = c.self.inside in λ w. (c.self.invariant.0, length-put s.region (take c.args.n w) c.args.at ∙ c.self.invariant.1, λ wrong. absurd (cc wrong))

pub returns : goal.returns
returns c =
    let s = c.self.inside in let b = c.args.self.now in let at = c.args.at in let n = c.args.n in
    let short : s.len ≤ length s.region = omega (arith, c.self.invariant.0, c.self.invariant.1) in (
      (refl, λ w. put_in s.region _ (take n w) b at s.len short (sym c.self.view_is) (omega (arith, c.requires, length-take n w)) refl),
      record { writes_back = tt; value = c.slice_mut.ensures.value ∙ slice-take s.region b at (at + n) s.len short (sym c.self.view_is) c.requires },
    )
