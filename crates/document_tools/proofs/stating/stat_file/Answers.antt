use Rattle.std.proofs.Common.{inl, inr, refl}
use Rattle.document_tools.proofs.stating.stat_file.Goals as goal

-- The file was opened and counted, or it couldn't be opened.

pub returns-in-Ok : goal.returns-in-Ok
returns-in-Ok g c = inr (c.in-Ok.store, c.in-Ok.ensures, (c.stat_store.new.store, c.stat_store.ensures.looks, c.stat_store.ensures.told))

pub returns-in-Err : goal.returns-in-Err
returns-in-Err g c = inl (c.in-Err.cause, c.in-Err.ensures, (c.refused.ensures, refl))
