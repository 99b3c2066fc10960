use Rattle.std.proofs.Common.{◌≡◌, ap, rules, to_z, of_z, to_z-of_z, w32}
use Rattle.geos_c.specs.Stores.{file_number}
use Rattle.geos_c.proofs.HandleCalls.{saved}
use Rattle.geos_c.proofs.exports.geosvm_save_as.Goals as goal

pub returns-in-Some : goal.returns-in-Some
returns-in-Some c =
    let code : to_z w32 (of_z w32 c.save_as-code.result) ≡ c.save_as-code.result = search rules in
    saved c.args.number _ _ _ _ _ _ _ _ _ _ c.in-Some.ensures.was_open c.deref_mut.ensures.value c.put.ensures code
    (ap file_number (to_z-of_z c.ranges.number)) c.save_as-code.ensures
