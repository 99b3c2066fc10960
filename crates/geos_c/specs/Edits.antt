-- What an edit of a session hands out.
use Rattle.std.specs.Prelude.{◌≡◌, ℕ, Result, Ok, Err}
use Rattle.geos_model.specs.declared.command.Done.{Done}
use Rattle.geos_model.specs.declared.command.Done.TheVariants as done
use Rattle.geos_model.specs.declared.command.Edit.{Edit}
use Rattle.geos_model.specs.declared.fault.Fault.{Fault}
use Rattle.vm_store.specs.Facts.{StoreFacts}
use Rattle.undo_log.specs.Editing.{EditsSession}
use Rattle.undo_log.specs.Sessions.{SessionState}

-- the handle or the token of what an edit made, 0 where it makes nothing
abbrev pub handle_made : Done → ℕ
handle_made done.Nothing = 0
handle_made (done.Block b) = b.0
handle_made (done.Chunk c) = c.0
handle_made (done.Token t) = t.0

-- 0 also where it is refused
abbrev pub number_made : Result Done Fault → ℕ
number_made (Ok done) = handle_made done
number_made (Err fault) = 0

-- the edit is done, and what it made is handed out
abbrev pub Makes : {S : Type 0} → (S → StoreFacts) → Edit → ℕ → SessionState S → SessionState S → Result Done Fault
    → Type 0
Makes facts edit made old new answer = EditsSession facts edit old new answer × (made ≡ number_made answer)
