use Rattle.std.proofs.Common.{refl, rules}
use Rattle.geos_model.specs.Reply.{reply_by, reply_of}
use Rattle.geos_model.specs.declared.look_up.BlockLookUp.TheVariants as block_look_ups
use Rattle.geos_model.specs.declared.look_up.LookUp.TheVariants as look_ups
use Rattle.geos_c.proofs.look_ups.info.Goals as goal

pub tell_info-requires : goal.tell_info-requires
tell_info-requires g c = c.look_up.ensures.form

pub returns : goal.returns
returns g c =
    (look_ups.InBlock c.args.block block_look_ups.Info, refl, reply_by reply_of c.look_up.result, c.look_up.follows.holds-at-none, search rules)
