use Rattle.std.proofs.Common.{◌≡◌, rules, to_z, of_z, w32}
use Rattle.geos_c.specs.LookUps.{ReportsReply}
use Rattle.geos_c.specs.Stores.{facts}
use Rattle.geos_c.specs.Telling.{HandsOutNumber}
use Rattle.geos_c.proofs.HandleCalls.{tells}
use Rattle.geos_c.proofs.exports.look_ups.word.Goals as goal

pub returns-in-Some : goal.returns-in-Some
returns-in-Some c =
    let code : to_z w32 (of_z w32 c.word-code.result) ≡ c.word-code.result = search rules in
    tells _ _ _ _ _ _ _ c.in-Some.ensures.was_open c.deref_mut.ensures.value c.put.ensures code
    (ReportsReply facts c.args.asked.now (HandsOutNumber c.word-code.new.word)) (c.word-code.new.word ≡ 0) c.word-code.ensures
