use Rattle.std.proofs.Common.{inl, inr, refl}
use Rattle.document_tools.proofs.restoring.restore.Goals as goal

-- The file was made and the script run on it, or there is none.

pub returns-in-Ok : goal.returns-in-Ok
returns-in-Ok g c = inr (c.in-Ok.store, c.make.new.files, c.in-Ok.ensures.ok, c.restore_in.ensures)

pub returns-in-Err : goal.returns-in-Err
returns-in-Err g c = inl (c.in-Err.fault, c.in-Err.ensures.err, c.refused.ensures, refl)
