use Rattle.test_stores.proofs.Pending.{crash_law}
use Rattle.test_stores.proofs.law.crash_law.Goals as goal

pub returns : goal.returns
returns c = crash_law
