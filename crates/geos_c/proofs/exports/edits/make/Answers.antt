use Rattle.std.proofs.Common.{◌≡◌, rules, to_z, of_z, w32}
use Rattle.c_sessions.specs.Codes.{ReportsAnswer}
use Rattle.geos_c.specs.Edits.{Makes}
use Rattle.geos_c.specs.Stores.{facts}
use Rattle.geos_c.proofs.HandleCalls.{tells}
use Rattle.geos_c.proofs.exports.edits.make.Goals as goal

pub returns-in-Some : goal.returns-in-Some
returns-in-Some c =
    let code : to_z w32 (of_z w32 c.edit-code.result) ≡ c.edit-code.result = search rules in
    tells _ _ _ _ _ _ _ c.in-Some.ensures.was_open c.deref_mut.ensures.value c.put.ensures code
    (λ old new. ReportsAnswer (Makes facts c.args.asked.now c.edit-code.new.made old new)) (c.edit-code.new.made ≡ 0) c.edit-code.ensures
