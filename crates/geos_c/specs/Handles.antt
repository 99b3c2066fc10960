-- What calls make of a handle.
use Rattle.std.specs.Prelude.{◌≡◌, ◌⊎◌, ◌<◌, ◌≤◌, ℕ, ℤ, pos, true, false, if◌then◌else◌, List, Result, MatchResult}
use Rattle.geos_model.specs.Refusal.{number_of_fault}
use Rattle.geos_model.specs.declared.command.Command.{Command}
use Rattle.geos_model.specs.declared.command.Edit.{Edit}
use Rattle.geos_model.specs.declared.fault.Fault.{Fault}
use Rattle.geos_model.specs.declared.fault.Fault.TheVariants.{Memory}
use Rattle.undo_log.specs.Editing.{EditsSession}
use Rattle.undo_log.specs.Sessions.{SessionState}
use Rattle.c_sessions.specs.Codes.{ReportsAnswer, bad_argument, not_open, open_already}
use Rattle.geos_c.specs.Edits.{Makes}
use Rattle.c_sessions.specs.Files.{Begun}
use Rattle.c_sessions.specs.Keeping.{IsBegun, SavesInto}
use Rattle.geos_c.specs.LookUps.{ReportsReply}
use Rattle.geos_c.specs.Stores.{FileStore, channel_calls, facts, file_number}
use Rattle.geos_c.specs.Telling.{HandsOutEqual, HandsOutInfo, HandsOutNumber}
use Rattle.geos_c.specs.declared.channel.Channel.{Channel}
use Rattle.geos_c.specs.declared.handle.Handle.{Handle}
use Rattle.c_sessions.specs.declared.kept.Kept.{Kept}

-- A call on a handle. One that has a session still has it, in the file with the same number, and it has done what the
-- code tells; one that has none still has none, and that is what the code says.
pub record OnHandle {T : Type 0} (does : SessionState FileStore → SessionState FileStore → Result T Fault → Type 0)
    (old new : Handle) (code : ℤ) : Type 0 where
  pub same : new.is_open ≡ old.is_open
  pub number : old.is_open ≡ true → new.kept.number ≡ old.kept.number
  pub told : old.is_open ≡ true → ReportsAnswer (does old.kept.session new.kept.session) code
  pub closed : old.is_open ≡ false → code ≡ not_open

-- A call on a handle that hands out bytes or a list, likewise. Where there is no session it hands out none.
pub record HandsOutOnHandle {T : Type 0}
    (does : SessionState FileStore → SessionState FileStore → List T → List T → ℕ → ℤ → Type 0)
    (old new : Handle) (before after : List T) (count : ℕ) (code : ℤ) : Type 0 where
  pub same : new.is_open ≡ old.is_open
  pub number : old.is_open ≡ true → new.kept.number ≡ old.kept.number
  pub told : old.is_open ≡ true → does old.kept.session new.kept.session before after count code
  pub closed : old.is_open ≡ false → (code ≡ not_open) × (count ≡ 0) × (after ≡ before)

-- A call on a handle that hands out something else, likewise. Where there is no session it hands out nothing.
pub record ReportsOnHandle (does : SessionState FileStore → SessionState FileStore → ℤ → Type 0) (nothing : Type 0)
    (old new : Handle) (code : ℤ) : Type 0 where
  pub same : new.is_open ≡ old.is_open
  pub number : old.is_open ≡ true → new.kept.number ≡ old.kept.number
  pub told : old.is_open ≡ true → does old.kept.session new.kept.session code
  pub closed : old.is_open ≡ false → (code ≡ not_open) × nothing

-- Edits and look-ups by name.

abbrev pub EditsOnHandle : Edit → Handle → Handle → ℤ → Type 0
EditsOnHandle edit = OnHandle (EditsSession facts edit)

-- what the edit made is handed out
abbrev pub MakesOnHandle : Edit → ℕ → Handle → Handle → ℤ → Type 0
MakesOnHandle edit made = ReportsOnHandle (λ old new. ReportsAnswer (Makes facts edit made old new)) (made ≡ 0)

abbrev pub NumberOnHandle : Command → ℕ → Handle → Handle → ℤ → Type 0
NumberOnHandle look_up number = ReportsOnHandle (ReportsReply facts look_up (HandsOutNumber number)) (number ≡ 0)

abbrev pub EqualOnHandle : Command → ℕ → Handle → Handle → ℤ → Type 0
EqualOnHandle look_up equal = ReportsOnHandle (ReportsReply facts look_up (HandsOutEqual equal)) (equal ≡ 0)

abbrev pub InfoOnHandle : Command → ℕ → ℕ → ℕ → Handle → Handle → ℤ → Type 0
InfoOnHandle look_up is_heap user_id size =
    ReportsOnHandle (ReportsReply facts look_up (HandsOutInfo is_heap user_id size))
    ((is_heap ≡ 0) × (user_id ≡ 0) × (size ≡ 0))

-- There was no memory for a copy of the bytes that the call is passed, and it did nothing.
pub record IsUncopied (old new : Handle) (code : ℤ) : Type 0 where
  pub same : new ≡ old
  pub code_is : code ≡ (if old.is_open then pos (number_of_fault Memory) else not_open)

-- the bytes were copied, and this was done, or they weren't
abbrev pub Copies : (Handle → Handle → ℤ → Type 0) → Handle → Handle → ℤ → Type 0
Copies does old new code = does old new code ⊎ IsUncopied old new code

-- likewise where a number is handed out
abbrev pub CopiesAndReports : ℕ → (Handle → Handle → ℤ → Type 0) → Handle → Handle → ℤ → Type 0
CopiesAndReports number does old new code = does old new code ⊎ (IsUncopied old new code × (number ≡ 0))

-- Sessions and the files that they are in.

-- what calls of the program's files a call makes, from one state of them to another
abbrev pub OnFiles : (Channel → Channel → Type 0) → Type 0
OnFiles makes = (from : Channel) × (to : Channel) × makes from to

-- what was begun is behind the handle, or the handle is as it was, and the code is the fault's number
abbrev pub IsPutInHandle : Result (Kept FileStore) Fault → Handle → Handle → ℤ → Type 0
IsPutInHandle answer old new code =
    MatchResult answer (λ kept. (code ≡ pos 0) × (new.is_open ≡ true) × (new.kept ≡ kept))
    (λ fault. (new ≡ old) × (code ≡ pos (number_of_fault fault)))

-- A session is begun on the file with a number behind a handle that has none, where so many frames are allowed.
pub record Begins (is : FileStore → Begun FileStore → Type 0) (number : ℤ) (frames : ℕ) (old new : Handle) (code : ℤ)
    : Type 0 where
  pub in_use : old.is_open ≡ true → (code ≡ open_already) × (new ≡ old)
  pub out_of_bounds : old.is_open ≡ false → (frames < 1) ⊎ (64 < frames) → (code ≡ bad_argument) × (new ≡ old)
  pub begun : old.is_open ≡ false → 1 ≤ frames → frames ≤ 64 → (answer : Result (Kept FileStore) Fault)
      × OnFiles (λ from to. IsBegun channel_calls is (file_number number) from answer to)
      × IsPutInHandle answer old new code

-- A save-as behind a handle, likewise.
pub record SavesOnHandle (number : ℤ) (old new : Handle) (code : ℤ) : Type 0 where
  pub same : new.is_open ≡ old.is_open
  pub told : old.is_open ≡ true
      → OnFiles (λ from to. SavesInto channel_calls facts (file_number number) old.kept new.kept from to code)
  pub closed : old.is_open ≡ false → code ≡ not_open

-- The session is given up, and its store closed as it was.
pub record ClosesHandle (old new : Handle) (code : ℤ) : Type 0 where
  pub now : new.is_open ≡ false
  pub told : old.is_open ≡ true
      → (code ≡ pos 0) × OnFiles (λ from to. channel_calls.closes from old.kept.session.disk.store to)
  pub closed : old.is_open ≡ false → code ≡ not_open
