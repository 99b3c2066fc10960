-- How a session is begun that is kept, and how it moves into another file of the program's.
use Rattle.std.specs.Prelude.{◌≡◌, ◌≢◌, ◌⊎◌, ◌||◌, ℕ, ℤ, Bool, true, false, IsTrue, Some, Result, Ok, IfOk, MatchResult}
use Rattle.geos_model.specs.Machine.{Step}
use Rattle.geos_model.specs.Reply.{Accepted, Refused}
use Rattle.geos_model.specs.declared.command.Command.TheVariants as commands
use Rattle.geos_model.specs.declared.fault.Fault.{Fault}
use Rattle.vm_store.specs.Facts.{StoreFacts}
use Rattle.document_file.specs.Documents.{has_one_directory}
use Rattle.vm_blocks.specs.SavingAs.{IsSavedAs}
use Rattle.vm_blocks.specs.Opening.{IsOpenedFrom, IsNotOpened, IsMadeIn, IsNotMade}
use Rattle.undo_log.specs.Committing.{IsBusy, IsSaveAsRefused}
use Rattle.undo_log.specs.Logging.{Log, fresh_log, saved_log}
use Rattle.undo_log.specs.Sessions.{SessionState, IsExact, failed_since, file_of, machine_of}
use Rattle.c_sessions.specs.Codes.{ReportsAnswer, bad_argument}
use Rattle.c_sessions.specs.Files.{BeginsOn, Begun, FileCalls, IsNotBegun, IsShut}
use Rattle.c_sessions.specs.declared.files.FileNumber.{FileNumber}
use Rattle.c_sessions.specs.declared.kept.Kept.{Kept}

-- The log of a session that begins on a store, whose file has one directory for both documents or not: over an honest
-- one as the bytes say.
pub record IsFreshLog (facts : StoreFacts) (log : Log) : Type 0 where
  pub one : Bool
  pub log_is : log ≡ fresh_log one
  pub one_is : IsTrue facts.honest → one ≡ has_one_directory facts.content

-- a session on what a store has, with so many frames and nothing to undo, or why there is none; with checksums, where
-- they are asked for or are there
abbrev pub IsOpening : {S : Type 0} → (S → StoreFacts) → ℕ → Bool → S → Begun S → Type 0
IsOpening facts frames checksums store begun =
    MatchResult begun (λ session. IsOpenedFrom facts store checksums (file_of session))
    (λ refused. IsNotOpened facts store refused.store refused.fault)
    × IfOk begun (λ session. IsFreshLog (facts store) session.log × (session.frames ≡ frames))

-- likewise one on an empty document that a store was made, with checksums or without
abbrev pub IsCreation : {S : Type 0} → (S → StoreFacts) → ℕ → Bool → S → Begun S → Type 0
IsCreation facts frames checksums store begun =
    MatchResult begun (λ session. IsMadeIn facts store checksums (file_of session))
    (λ refused. IsNotMade facts store refused.store refused.fault)
    × IfOk begun (λ session. (session.log ≡ fresh_log true) × (session.frames ≡ frames))

-- What is kept, or why nothing is, and what was called for that: the file with this number is opened, and its store is
-- the session's or is closed as it was left.
abbrev pub IsBegun : {F S : Type 0} → FileCalls F S → (S → Begun S → Type 0) → FileNumber → F
    → Result (Kept S) Fault → F → Type 0
IsBegun calls is number old answer new = MatchResult answer
    (λ kept. (kept.number ≡ number) × BeginsOn calls is number old kept.session new)
    (λ fault. IsNotBegun calls is number old fault new)

-- what a save-as that was accepted leaves: the session is in the target, and the store of the old file is left
pub record IsMovedTo {S : Type 0} (facts : S → StoreFacts) (target former : S) (old new : SessionState S)
    : Type 0 where
  pub saved : IsSavedAs facts target former (file_of old) (file_of new)
  pub step : IsExact facts old → IsTrue (facts target).honest
      → IsExact facts new × Step false (machine_of true old) (Some commands.SaveAs) Accepted (machine_of false new)
  pub lists : new.log ≡ saved_log old.log
  pub resident : new.resident ≡ old.resident

-- one that was refused: the session stays where it is, and the target is left so
pub record IsNotMovedTo {S : Type 0} (facts : S → StoreFacts) (target left : S) (old new : SessionState S)
    (fault : Fault) : Type 0 where
  pub refused : IsSaveAsRefused facts target left old new fault
  pub step : IsExact facts old → IsExact facts new
      × Step (failed_since (facts old.disk.store) (facts new.disk.store) || failed_since (facts target) (facts left))
      (machine_of true old) (Some commands.SaveAs) (Refused fault) (machine_of true new)
  -- what is busy is refused before all else
  pub held : (busy : Fault) → IsBusy old busy → (fault ≡ busy) × (left ≡ target) × (new ≡ old)
  pub lists : new.log ≡ old.log
  pub resident : new.resident ≡ old.resident

-- The file with this number was opened and saved into, and the session is in it; the store of the file that it left was
-- closed as the save-as left it, and no other call was made.
pub record IsMoved {F S : Type 0} (calls : FileCalls F S) (facts : S → StoreFacts) (number : FileNumber)
    (old new : Kept S) (from to : F) : Type 0 where
  pub target : S
  pub opened : F
  pub opens : calls.opens from number (Some old.number) (Ok target) opened
  pub former : S
  pub moved : IsMovedTo facts target former old.session new.session
  pub closes : calls.closes opened former to
  pub number_is : new.number ≡ number

-- The file was opened and couldn't be saved into, and its store was closed as the save-as left it.
pub record StaysBehind {F S : Type 0} (calls : FileCalls F S) (facts : S → StoreFacts) (number : FileNumber)
    (old new : Kept S) (from : F) (fault : Fault) (to : F) : Type 0 where
  pub target : S
  pub opened : F
  pub opens : calls.opens from number (Some old.number) (Ok target) opened
  pub back : S
  pub stays : IsNotMovedTo facts target back old.session new.session fault
  pub closes : calls.closes opened back to
  pub number_is : new.number ≡ old.number

-- it couldn't be opened, or couldn't be saved into
abbrev pub IsNotMoved : {F S : Type 0} → FileCalls F S → (S → StoreFacts) → FileNumber → Kept S → Kept S → F → Fault
    → F → Type 0
IsNotMoved calls facts number old new from fault to =
    (IsShut calls number (Some old.number) from fault to × (new ≡ old))
    ⊎ StaysBehind calls facts number old new from fault to

-- A save-as into the session's own file is refused before anything is called.
pub record SavesInto {F S : Type 0} (calls : FileCalls F S) (facts : S → StoreFacts) (number : FileNumber)
    (old new : Kept S) (from to : F) (code : ℤ) : Type 0 where
  pub own : number ≡ old.number → (code ≡ bad_argument) × (new ≡ old) × (to ≡ from)
  pub other : number ≢ old.number → ReportsAnswer (λ (answer : Result (Unit {0}) Fault). MatchResult answer
      (λ _. IsMoved calls facts number old new from to)
      (λ fault. IsNotMoved calls facts number old new from fault to)) code
