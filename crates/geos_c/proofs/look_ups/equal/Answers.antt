use Rattle.std.proofs.Common.{refl, rules}
use Rattle.geos_model.specs.Reply.{reply_by, reply_of}
use Rattle.geos_model.specs.declared.look_up.ChainLookUp.TheVariants as chain_look_ups
use Rattle.geos_model.specs.declared.look_up.LookUp.TheVariants as look_ups
use Rattle.geos_c.proofs.look_ups.equal.Goals as goal

pub tell_equal-requires : goal.tell_equal-requires
tell_equal-requires g c = c.look_up.ensures.form

pub returns : goal.returns
returns g c =
    (look_ups.AlongChain (chain_look_ups.Equal c.args.first c.args.second), refl, reply_by reply_of c.look_up.result, c.look_up.follows.holds-at-none, search rules)
