use Rattle.std.proofs.Common.{◌≡◌, ◌∙◌, Ok, rules, to_z, of_z, w32}
use Rattle.geos_c.proofs.calls.forget.Goals as goal

pub returns : goal.returns
returns g c =
    let told : to_z w32 (of_z w32 c.code_of.result) ≡ c.code_of.result = search rules in
    (Ok tt, told ∙ c.code_of.ensures, (c.forget.ensures.step, c.forget.ensures.done, tt))
