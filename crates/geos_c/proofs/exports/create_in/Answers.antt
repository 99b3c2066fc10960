use Rattle.std.proofs.Common.{◌≡◌, sym, ap, ◌∙◌, arith, rules, to_z, of_z, to_z-of_z, w32}
use Rattle.c_sessions.specs.Keeping.{IsCreation}
use Rattle.geos_c.specs.Stores.{facts, file_number}
use Rattle.geos_c.proofs.HandleCalls.{begins}
use Rattle.geos_c.proofs.exports.create_in.Goals as goal

pub returns : goal.returns
returns c =
    let closed = sym c.is_open.ensures.0 ∙ c.if-is_open.false in
    let code : to_z w32 (of_z w32 c.begin.result) ≡ c.begin.result = search rules in
    begins (λ b. b.value) (IsCreation facts c.args.frames c.args.checksums) c.args.number c.args.frames _ _ _ _ _ _ _ _ c.create.result
    closed c.is_open.ensures.1 (ap file_number (to_z-of_z c.ranges.number)) (omega arith) (omega arith) code c.create.ensures c.begin.ensures
