-- What a call that appends leaves, and which commands are looked up by which call.
use Rattle.std.specs.Prelude.{ℕ, List, ◌++◌, ◌≡◌, Bool, true, false, Some, Result, Err, IsOkAnd, MatchResult, OnOk}
use Rattle.geos_model.specs.Reply.{Reply, Refused, reply_by, reply_of}
use Rattle.geos_model.specs.Machine.{Request}
use Rattle.geos_model.specs.Script.{reply_line, reply_text}
use Rattle.geos_model.specs.declared.command.Command.{Command}
use Rattle.geos_model.specs.declared.command.Command.TheVariants as commands
use Rattle.geos_model.specs.declared.fault.Fault.{Fault}
use Rattle.geos_model.specs.declared.fault.Fault.TheVariants.{File}
use Rattle.geos_model.specs.declared.reply.Reply.{Reply as GivenReply}
use Rattle.vm_store.specs.Facts.{StoreFacts, FailedSince}
use Rattle.undo_log.specs.Sessions.{SessionState, IsStep, KeepsSession}
pub use Rattle.geos_script.specs.Texts.{Extends}
use Rattle.geos_replies.specs.Holdings.{AnswersRequest, Holding}

-- a command that asks of no block's body
abbrev pub asks_no_body : Command → Bool
asks_no_body (commands.HeapType b) = true
asks_no_body commands.List = true
asks_no_body (commands.Find uid start) = true
asks_no_body commands.MapBlock = true
asks_no_body (commands.Locks b) = true
asks_no_body commands.Undos = true
asks_no_body commands.Redos = true
asks_no_body commands.Modified = true
asks_no_body commands.UndoName = true
asks_no_body commands.RedoName = true
asks_no_body commands.Touched = true
asks_no_body commands.UndoPlaces = true
asks_no_body commands.RedoPlaces = true
asks_no_body commands.AbandonPlaces = true
asks_no_body _ = false

-- The machine answers a command so, and over any store the session is kept, and a file fault answered only where the
-- store failed in this very call. Where there was memory for the reply's text, that was put behind what was there.
pub record RepliesToLookUp {S T E : Type 0} (result : Result T E) (facts : S → StoreFacts) (old : SessionState S)
    (command : Command) (new : SessionState S) (before after : List ℕ) : Type 0 where
  pub reply : Reply
  pub step : IsStep facts old new command reply
  pub keeps : KeepsSession facts old new
  pub file : reply ≡ Refused File → FailedSince (facts old.disk.store) (facts new.disk.store)
  pub text : OnOk result (after ≡ before ++ reply_text reply)

-- A command is answered, and where there was memory for its reply's text, that was put behind what was there.
pub record Replied {S T E : Type 0} (result : Result T E) (facts : S → StoreFacts) (old : Holding S)
    (command : Command) (new : Holding S) (before after : List ℕ) : Type 0 where
  pub reply : Reply
  pub answers : AnswersRequest facts old (Some command) reply new
  pub text : OnOk result (after ≡ before ++ reply_text reply)

-- The request is answered, and its reply line was put behind what was there; a blank line does nothing, and gets none.
abbrev pub Responds : {S : Type 0} → (S → StoreFacts) → Holding S → Request → Holding S → List ℕ → List ℕ → Type 0
Responds facts old (Some commands.Blank) new before after = (new ≡ old) × (after ≡ before)
Responds facts old request new before after =
    (reply : Reply) × AnswersRequest facts old request reply new × (after ≡ before ++ reply_line reply)
