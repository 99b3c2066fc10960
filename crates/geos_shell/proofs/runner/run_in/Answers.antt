use Rattle.std.proofs.Common.{◌≡◌, rules}
use Rattle.geos_shell.specs.Manners.{plain}
use Rattle.geos_shell.proofs.Manners.{manner_is}
use Rattle.geos_shell.proofs.runner.run_in.Goals as goal

-- The manner is the plain one.
pub returns-clause-runs : goal.returns-clause-runs
returns-clause-runs g c =
    let same : c.default-plain.result ≡ plain = manner_is c.default-plain.result (first_of (search rules, cc)) (first_of (search rules, cc)) in
    rw same at c.run_in_manner.ensures.runs
