use Rattle.std.proofs.Common.{◌≡◌, rules, to_z, of_z, w32}
use Rattle.geos_c.specs.Calls.{NamesStep}
use Rattle.geos_c.specs.Stores.{facts}
use Rattle.geos_c.proofs.HandleCalls.{served}
use Rattle.geos_c.proofs.exports.geosvm_name.Goals as goal

pub returns-in-Some : goal.returns-in-Some
returns-in-Some c =
    let code : to_z w32 (of_z w32 c.name_step-code.result) ≡ c.name_step-code.result = search rules in
    served _ _ _ _ _ _ _ c.in-Some.ensures.was_open c.deref_mut.ensures.value c.put.ensures code
    (NamesStep facts c.args.name.now) c.name_step-code.ensures
