use Rattle.std.proofs.Common.{inl, inr, refl}
use Rattle.document_tools.proofs.comparing.compare_with.Goals as goal

-- The second file was opened and compared, or it couldn't be opened.

pub returns-in-Ok : goal.returns-in-Ok
returns-in-Ok g c = inr (c.in-Ok.second, c.in-Ok.ensures, c.compare_stores.ensures)

pub returns-in-Err : goal.returns-in-Err
returns-in-Err g c = inl (c.in-Err.cause, c.in-Err.ensures, (c.uncompared.ensures, refl))
