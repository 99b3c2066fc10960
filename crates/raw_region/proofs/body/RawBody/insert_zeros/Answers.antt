use Rattle.std.proofs.Common.{◌≡◌, length, arith, sym, ap, ◌∙◌}
use Rattle.std.proofs.lemmas.List.{length-take-le}
use Rattle.raw_region.proofs.Puts.{length-put_twice, opened}
use Rattle.raw_region.proofs.body.RawBody.insert_zeros.Goals as goal

pub invariant_of-self : goal.invariant_of-self
invariant_of-self c =
    let s = c.self.inside in
    let used : length c.args.self.now ≡ s.len = ap length (sym c.self.view_is) ∙ length-take-le s.len s.region (omega (arith, c.self.invariant.0, c.self.invariant.1)) in
    (omega (arith, used, c.requires.within, c.requires.room), length-put_twice s.region c.slide.new.self c.zero.new.self _ _ _ _ c.slide.ensures c.zero.ensures ∙ c.self.invariant.1, λ wrong. absurd (cc wrong))

pub returns : goal.returns
returns c =
    let s = c.self.inside in
    opened s.region c.slide.new.self c.zero.new.self c.args.self.now s.len c.args.at c.args.n (omega (arith, c.self.invariant.0, c.self.invariant.1)) (sym c.self.view_is)
    c.requires.within (omega (arith, c.requires.room, c.self.invariant.1)) c.slide.ensures c.zero.ensures
