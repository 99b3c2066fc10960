use Rattle.std.proofs.Common.{◌≡◌, rules, to_z, of_z, w32}
use Rattle.geos_c.specs.Calls.{CountsLocks}
use Rattle.geos_c.proofs.HandleCalls.{served}
use Rattle.geos_c.proofs.exports.geosvm_locks.Goals as goal

pub returns-in-Some-clause-told : goal.returns-in-Some-clause-told
returns-in-Some-clause-told c =
    let code : to_z w32 (of_z w32 c.locks-code.result) ≡ c.locks-code.result = search rules in
    served _ _ _ _ _ _ _ c.in-Some.ensures.was_open c.deref_mut.ensures.value c.put.ensures code
    (CountsLocks c.args.block c.locks-code.new.count) c.locks-code.ensures
