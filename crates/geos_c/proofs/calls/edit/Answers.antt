use Rattle.std.proofs.Common.{Ok, Err, refl, rules}
use Rattle.geos_c.proofs.calls.edit.Goals as goal

pub returns-in-Ok : goal.returns-in-Ok
returns-in-Ok g c = (Ok c.in-Ok.done, refl, (c.in-Ok.ensures, search rules))

pub returns-in-Err : goal.returns-in-Err
returns-in-Err g c = (Err c.in-Err.fault, search rules, (c.in-Err.ensures, refl))
