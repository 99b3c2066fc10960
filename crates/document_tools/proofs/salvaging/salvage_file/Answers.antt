use Rattle.std.proofs.Common.{inl, inr, refl}
use Rattle.document_tools.proofs.salvaging.salvage_file.Goals as goal

-- The file was opened and salvaged, or it couldn't be opened.

pub returns-in-Ok : goal.returns-in-Ok
returns-in-Ok g c = inr (c.in-Ok.store, c.in-Ok.ensures, c.salvage_store.ensures)

pub returns-in-Err : goal.returns-in-Err
returns-in-Err g c = inl (c.in-Err.cause, c.in-Err.ensures, (c.refused.ensures, refl))
