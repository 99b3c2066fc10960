use Rattle.std.proofs.Common.{◌≡◌, rules, to_z, of_z, w32}
use Rattle.geos_c.proofs.HandleCalls.{edits}
use Rattle.geos_c.proofs.exports.edits.edit.Goals as goal

pub returns : goal.returns
returns c =
    let code : to_z w32 (of_z w32 c.make.result) ≡ c.make.result = search rules in
    rw code (edits _ _ _ _ _ c.make.ensures)
