use Rattle.std.proofs.Common.{◌≡◌, rules, to_z, of_z, w32}
use Rattle.geos_c.specs.Calls.{Forgets}
use Rattle.geos_c.specs.Stores.{facts}
use Rattle.geos_c.proofs.HandleCalls.{served}
use Rattle.geos_c.proofs.exports.geosvm_forget.Goals as goal

pub returns-in-Some : goal.returns-in-Some
returns-in-Some c =
    let code : to_z w32 (of_z w32 c.forget-code.result) ≡ c.forget-code.result = search rules in
    served _ _ _ _ _ _ _ c.in-Some.ensures.was_open c.deref_mut.ensures.value c.put.ensures code
    (Forgets facts c.args.most) c.forget-code.ensures
