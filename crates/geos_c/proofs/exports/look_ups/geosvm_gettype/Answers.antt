use Rattle.std.proofs.Common.{◌≡◌, rules, to_z, of_z, w32}
use Rattle.geos_model.specs.declared.command.Command.TheVariants as commands
use Rattle.geos_c.specs.Calls.{vm}
use Rattle.geos_c.specs.LookUps.{ReportsReply}
use Rattle.geos_c.specs.Stores.{facts}
use Rattle.geos_c.specs.Telling.{HandsOutNumber}
use Rattle.geos_c.proofs.HandleCalls.{tells}
use Rattle.geos_c.proofs.exports.look_ups.geosvm_gettype.Goals as goal

pub returns-in-Some : goal.returns-in-Some
returns-in-Some c =
    let code : to_z w32 (of_z w32 c.heap_type-code.result) ≡ c.heap_type-code.result = search rules in
    tells _ _ _ _ _ _ _ c.in-Some.ensures.was_open c.deref_mut.ensures.value c.put.ensures code
    (ReportsReply facts (commands.HeapType (vm c.args.block)) (HandsOutNumber c.heap_type-code.new.heap_type))
    (c.heap_type-code.new.heap_type ≡ 0) c.heap_type-code.ensures
