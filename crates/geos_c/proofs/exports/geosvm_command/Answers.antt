use Rattle.std.proofs.Common.{◌≡◌, rules, to_z, of_z, w32}
use Rattle.geos_c.specs.Lines.{AnswersLine}
use Rattle.geos_c.specs.Stores.{facts}
use Rattle.geos_c.proofs.HandleCalls.{handed_out}
use Rattle.geos_c.proofs.exports.geosvm_command.Goals as goal

pub returns-in-Some : goal.returns-in-Some
returns-in-Some c =
    let code : to_z w32 (of_z w32 c.command-code.result) ≡ c.command-code.result = search rules in
    handed_out _ _ _ _ _ _ _ c.in-Some.ensures.was_open c.deref_mut.ensures.value c.put.ensures code
    (AnswersLine facts c.args.line.now) _ _ _ c.command-code.ensures
