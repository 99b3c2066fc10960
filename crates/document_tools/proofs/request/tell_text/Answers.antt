use Rattle.std.proofs.Common.{inl, inr, refl}
use Rattle.document_tools.proofs.request.tell_text.Goals as goal

-- It was written, or the write failed and is told.

pub returns-in-Ok : goal.returns-in-Ok
returns-in-Ok g c = inl (rw c.as_slice.ensures at c.in-Ok.ensures.call, refl, refl)

pub returns-in-Err : goal.returns-in-Err
returns-in-Err g c = inr (c.in-Err.field-0, rw c.as_slice.ensures at c.in-Err.ensures.call, c.tell.ensures.told, c.tell.ensures.status)
