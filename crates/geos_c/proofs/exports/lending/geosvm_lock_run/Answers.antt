use Rattle.std.proofs.Common.{◌≡◌, rules, to_z, of_z, w32}
use Rattle.geos_c.specs.Lending.{LendsRun}
use Rattle.geos_c.specs.Stores.{facts}
use Rattle.geos_c.proofs.HandleCalls.{served}
use Rattle.geos_c.proofs.exports.lending.geosvm_lock_run.Goals as goal

pub returns-in-Some-clause-told : goal.returns-in-Some-clause-told
returns-in-Some-clause-told c =
    let code : to_z w32 (of_z w32 c.lend_run-code.result) ≡ c.lend_run-code.result = search rules in
    served _ _ _ _ _ _ _ c.in-Some.ensures.was_open c.deref_mut.ensures.value c.put.ensures code
    (LendsRun facts c.args.root c.args.i c.lend_run-code.new.block c.lend_run-code.new.bytes c.lend_run-code.new.length) c.lend_run-code.ensures
