-- What the calls of one who has a program's files do, and what becomes of the files by calls of a session.
use Rattle.std.specs.Prelude.{◌≡◌, ◌⊎◌, ◌≢◌, Option, Some, None, Result, Ok, Err, MatchResult}
use Rattle.geos_model.specs.declared.fault.Fault.{Fault}
use Rattle.geos_model.specs.declared.fault.Fault.TheVariants.{File, Memory}
use Rattle.vm_store.specs.Facts.{StoreFacts}
use Rattle.vm_store.specs.declared.fault.StoreFault.{StoreFault}
use Rattle.document_file.specs.declared.file.Refused.{Refused}
use Rattle.undo_log.specs.Sessions.{SessionState}
use Rattle.c_sessions.specs.declared.files.FileNumber.{FileNumber}

-- what the calls do, from one state to another
pub record FileCalls (F S : Type 0) : Type 1 where
  -- the file with a number is opened as a store, for a session that is on none yet or on its own
  pub opens : F → FileNumber → Option FileNumber → Result S StoreFault → F → Type 0
  -- a store is closed, and nothing else is done with it
  pub closes : F → S → F → Type 0

-- What was begun on a store: a session, or why there is none and the store.
abbrev pub Begun : Type 0 → Type 0
Begun S = Result (SessionState S) (Refused S)

-- A session was begun on the file with this number, and no other call was made.
pub record BeginsOn {F S : Type 0} (calls : FileCalls F S) (is : S → Begun S → Type 0) (number : FileNumber) (old : F)
    (session : SessionState S) (new : F) : Type 0 where
  pub store : S
  pub opens : calls.opens old number None (Ok store) new
  pub begun : is store (Ok session)

-- what is left of the store, and why
abbrev pub left_by : {S : Type 0} → Begun S → S
left_by (Ok session) = session.disk.store
left_by (Err refused) = refused.store

-- one that was begun is given up where there is no memory to keep it
abbrev pub fault_of : {S : Type 0} → Begun S → Fault
fault_of (Ok session) = Memory
fault_of (Err refused) = refused.fault

-- The file was opened, and what was to begin a session closed its store as it was left.
pub record FailsOnceOpened {F S : Type 0} (calls : FileCalls F S) (is : S → Begun S → Type 0) (number : FileNumber)
    (old : F)
    (fault : Fault) (new : F) : Type 0 where
  pub store : S
  pub opened : F
  pub opens : calls.opens old number None (Ok store) opened
  pub begun : Begun S
  pub begun_is : is store begun
  pub closes : calls.closes opened (left_by begun) new
  pub fault_is : fault ≡ fault_of begun

-- a file couldn't be opened, and no other call was made
pub record IsShut {F S : Type 0} (calls : FileCalls F S) (number : FileNumber) (own : Option FileNumber) (old : F)
    (fault : Fault) (new : F) : Type 0 where
  pub cause : StoreFault
  pub opens : calls.opens old number own (Err cause) new
  pub fault_is : fault ≡ File

abbrev pub IsNotBegun : {F S : Type 0} → FileCalls F S → (S → Begun S → Type 0) → FileNumber → F → Fault → F → Type 0
IsNotBegun calls is number old fault new =
    IsShut calls number None old fault new ⊎ FailsOnceOpened calls is number old fault new
