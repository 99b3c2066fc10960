use Rattle.std.proofs.Common.{arith, sym}
use Rattle.raw_region.proofs.Puts.{put_in}
use Rattle.raw_region.proofs.body.RawBody.set_word.Goals as goal

pub returns : goal.returns
returns c =
    let s = c.self.inside in
    put_in s.region c.set_word.new.self _ c.args.self.now c.args.at s.len (omega (arith, c.self.invariant.0, c.self.invariant.1)) (sym c.self.view_is) c.requires c.set_word.ensures
