-- A look-up of a session, over any store, and what it hands out.
use Rattle.std.specs.Prelude.{◌≡◌, ℕ, ℤ, List}
use Rattle.geos_model.specs.LookUps.{command_of}
use Rattle.geos_model.specs.Reply.{Reply}
use Rattle.geos_model.specs.declared.command.Command.{Command}
use Rattle.geos_model.specs.declared.look_up.LookUp.{LookUp}
use Rattle.vm_store.specs.Facts.{StoreFacts}
use Rattle.undo_log.specs.Sessions.{SessionState, AnswersAsked}
use Rattle.c_sessions.specs.Codes.{HandsOutReply}

-- The command is seen as a look-up, and what that answers is handed out so.
abbrev pub ReportsReply : {S : Type 0} → (S → StoreFacts) → Command → (Reply → ℤ → Type 0)
    → SessionState S → SessionState S → ℤ → Type 0
ReportsReply facts command hands_out old new code =
    (look_up : LookUp) × (command_of look_up ≡ command)
    × (reply : Reply) × AnswersAsked facts old new look_up reply × hands_out reply code

-- The bytes or the handles that a look-up answers are handed out, or it is refused.
abbrev pub ReadsBytes : {S : Type 0} → (S → StoreFacts) → Command → SessionState S → SessionState S
    → List ℕ → List ℕ → ℕ → ℤ → Type 0
ReadsBytes facts command old new before after count code =
    ReportsReply facts command (λ reply told. HandsOutReply reply before after count told) old new code
