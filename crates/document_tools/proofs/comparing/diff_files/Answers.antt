use Rattle.std.proofs.Common.{inl, inr, refl}
use Rattle.document_tools.proofs.comparing.diff_files.Goals as goal

-- The first file was opened, and the second asked for, or it couldn't be opened.

pub returns-in-Ok : goal.returns-in-Ok
returns-in-Ok g c = inr (c.in-Ok.store, c.view.new.self, c.in-Ok.ensures, c.compare_with.ensures)

pub returns-in-Err : goal.returns-in-Err
returns-in-Err g c = inl (c.in-Err.cause, c.in-Err.ensures, c.uncompared.ensures, refl)
