use Rattle.std.proofs.Common.{refl}
use Rattle.document_tools.proofs.running.carry_out.Goals as goal

pub returns-in-Diff : goal.returns-in-Diff
returns-in-Diff g c = rw c.in-Diff.is (c.diff_asked.ensures, (refl, refl, refl))

pub returns-in-Restore : goal.returns-in-Restore
returns-in-Restore g c = rw (c.in-Restore.is, ← c.gives_checksums-checksums.ensures) (c.restore-ending.ensures, refl, refl)
