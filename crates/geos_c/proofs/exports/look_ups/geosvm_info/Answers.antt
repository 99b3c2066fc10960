use Rattle.std.proofs.Common.{◌≡◌, rules, to_z, of_z, w32}
use Rattle.geos_model.specs.declared.command.Command.TheVariants as commands
use Rattle.geos_c.specs.Calls.{vm}
use Rattle.geos_c.specs.LookUps.{ReportsReply}
use Rattle.geos_c.specs.Stores.{facts}
use Rattle.geos_c.specs.Telling.{HandsOutInfo}
use Rattle.geos_c.proofs.HandleCalls.{tells}
use Rattle.geos_c.proofs.exports.look_ups.geosvm_info.Goals as goal

pub returns-in-Some : goal.returns-in-Some
returns-in-Some c =
    let code : to_z w32 (of_z w32 c.info-code.result) ≡ c.info-code.result = search rules in
    let told = c.info-code.new in
    tells _ _ _ _ _ _ _ c.in-Some.ensures.was_open c.deref_mut.ensures.value c.put.ensures code
    (ReportsReply facts (commands.Info (vm c.args.block)) (HandsOutInfo told.is_heap told.user_id told.size))
    ((told.is_heap ≡ 0) × (told.user_id ≡ 0) × (told.size ≡ 0)) c.info-code.ensures
