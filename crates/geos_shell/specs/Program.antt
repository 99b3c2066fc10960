-- What a run of the program comes to, and what becomes of the files that its words name.
use Rattle.std.specs.Prelude.{◌≡◌, ◌≢◌, ◌⊎◌, ◌||◌, ℕ, ◌≤◌, List, [], Bool, true, false, Option, Some, None, IsTrue, Ok, Err}
use Rattle.file_format.specs.File.{stands}
use Rattle.geos_model.specs.Machine.{empty_machine, opened_machine, with_undo_limit}
use Rattle.geos_model.specs.declared.fault.Fault.{Fault}
use Rattle.geos_model.specs.declared.fault.Fault.TheVariants.{File}
use Rattle.vm_store.specs.Facts.{StoreFacts, FailedSince, IsUnchanged}
use Rattle.document_file.specs.Calls.{IsResourceFault, IsOpenRefusal}
use Rattle.document_file.specs.Disk.{IsCrashConsistent, HasSequence}
use Rattle.document_file.specs.Documents.{has_checksums, has_one_directory, sequence_in, version_in}
use Rattle.document_file.specs.Sums.{version_for}
use Rattle.undo_log.specs.Sessions.{SessionState, IsExact, machine_of}
use Rattle.vm_store.specs.Files.{Opener}
use Rattle.command_lines.specs.Options.{CommandLine, IsUsable, RefusesWords, Text, command_line}
use Rattle.command_lines.specs.declared.asked.NoOptions.{NoOptions}
use Rattle.geos_shell.specs.Files.{OpensFile, FileFails, OpensTarget, TargetFails, ClosesAny}
use Rattle.geos_replies.specs.Holdings.{Holding, holding}
use Rattle.geos_shell.specs.Outcome.{without_options}
use Rattle.geos_shell.specs.Runs.{AnswersAll, EndsBy}
use Rattle.geos_shell.specs.declared.outcome.Outcome.{Outcome}
use Rattle.geos_shell.specs.declared.outcome.Outcome.TheVariants as outcomes
use Rattle.geos_shell.specs.declared.runner.ScriptOptions.{ScriptOptions}

-- ---- sessions

-- A session on a new file that keeps so many steps to be undone, or all: the machine of the empty document, of which
-- the file is one under the number 1; with checksums or without, by which its version is 3 or 2.
pub record IsCreated {S : Type 0} (facts : S → StoreFacts) (frames : ℕ) (limit : Option ℕ) (checksums : Bool)
    (store : S) (session : SessionState S) : Type 0 where
  pub honest : (facts session.disk.store).honest ≡ (facts store).honest
  pub failures : (facts store).failures ≤ (facts session.disk.store).failures
  pub exact : IsTrue (facts store).honest → IsExact facts session
  pub machine : (target : Bool) → machine_of target session ≡ with_undo_limit limit (empty_machine frames target)
  pub frames_are : session.frames ≡ frames
  pub in_doubt : session.disk.in_doubt ≡ []
  pub numbered : IsTrue (facts store).honest → HasSequence (facts session.disk.store) 1
  pub checksums_are : session.disk.checksums ≡ checksums
  pub version : IsTrue (facts store).honest
      → version_in (facts session.disk.store).content ≡ Some (version_for checksums)
  pub crash_consistent : IsCrashConsistent facts session.disk

-- A session on the file that a store has, in which nothing was written: the machine of the documents that the file
-- stands for. It keeps so many steps to be undone, or all. Its commits write checksums where that is asked for or the
-- file has some.
pub record IsOpened {S : Type 0} (facts : S → StoreFacts) (frames : ℕ) (limit : Option ℕ) (checksums : Bool)
    (store : S) (session : SessionState S) : Type 0 where
  pub honest : (facts session.disk.store).honest ≡ (facts store).honest
  pub failures : (facts store).failures ≤ (facts session.disk.store).failures
  pub unchanged : IsTrue (facts store).honest → IsUnchanged (facts store) (facts session.disk.store)
  pub stands : IsTrue (facts store).honest
      → stands (facts store).content ≡ Ok (session.disk.updated, session.disk.saved)
  pub sequence : IsTrue (facts store).honest → sequence_in (facts store).content ≡ Some session.disk.sequence
  pub exact : IsTrue (facts store).honest → IsExact facts session
  pub machine : IsTrue (facts store).honest → (target : Bool)
      → machine_of target session
      ≡ with_undo_limit limit
      (opened_machine session.disk.updated session.disk.saved (has_one_directory (facts store).content)
      session.disk.sequence frames target)
  pub numbered : IsTrue (facts store).honest → HasSequence (facts session.disk.store) session.disk.sequence
  pub frames_are : session.frames ≡ frames
  pub in_doubt : IsTrue (facts store).honest → session.disk.in_doubt ≡ []
  pub checksums_are : IsTrue (facts store).honest
      → session.disk.checksums ≡ (checksums || has_checksums (facts store).content)
  pub crash_consistent : IsCrashConsistent facts session.disk

-- which of the two is asked for
abbrev pub IsMadeOrOpened : {S : Type 0} → (S → StoreFacts) → Bool → ℕ → Option ℕ → Bool → S → SessionState S → Type 0
IsMadeOrOpened facts true frames limit checksums store session =
    IsCreated facts frames limit checksums store session
IsMadeOrOpened facts false frames limit checksums store session =
    IsOpened facts frames limit checksums store session

-- What a store is left as in which no new document was made: as it was, where memory ran out.
pub record IsNotCreated {S : Type 0} (facts : S → StoreFacts) (fault : Fault) (store left : S) : Type 0 where
  pub supply : IsResourceFault fault
  pub early : fault ≢ File → left ≡ store
  pub file : fault ≡ File → FailedSince (facts store) (facts left)

-- What a store is left as of which no document was opened: nothing was written.
pub record IsOpenFailure {S : Type 0} (facts : S → StoreFacts) (fault : Fault) (store left : S) : Type 0 where
  pub refusal : IsOpenRefusal fault
  pub unchanged : IsTrue (facts store).honest → IsUnchanged (facts store) (facts left)
  pub refused : IsTrue (facts store).honest → IsResourceFault fault ⊎ (stands (facts store).content ≡ Err fault)
  pub file : fault ≡ File → FailedSince (facts store) (facts left)

-- ---- what is done with the files

-- FILE is opened as a store, and then there is the rest
pub record FromFile {F S : Type 0} (calls : Opener F S) (line : CommandLine) (old : F) (Rest : S → F → Type 0)
    : Type 0 where
  pub store : S
  pub opened : F
  pub file : OpensFile calls line old store opened
  pub rest : Rest store opened

-- FILE2 is opened, if it is named, but no document is made in FILE's store
pub record CreateFails {F S : Type 0} (calls : Opener F S) (facts : S → StoreFacts) (named : Option Text)
    (fault : Fault) (store : S) (opened new : F) : Type 0 where
  pub target : Option S
  pub both : F
  pub target_is : OpensTarget calls named opened target both
  pub left : S
  pub fails : IsNotCreated facts fault store left
  pub closed : F
  pub closes : calls.closes both left closed
  pub closes_target : ClosesAny calls closed target new

-- FILE's store has no document that could be opened
pub record OpenFails {F S : Type 0} (calls : Opener F S) (facts : S → StoreFacts) (fault : Fault) (store : S)
    (opened new : F) : Type 0 where
  pub left : S
  pub fails : IsOpenFailure facts fault store left
  pub closes : calls.closes opened left new

-- FILE2 can't be opened. Nothing was written to FILE: where it is to be made anew it wasn't called at all, and else its
-- document was opened before.
pub record TargetIsShut {F S : Type 0} (calls : Opener F S) (facts : S → StoreFacts) (line : CommandLine) (store : S)
    (opened new : F) : Type 0 where
  pub failed : F
  pub target : TargetFails calls line.target opened failed
  pub left : S
  pub untouched : line.is_new ≡ true → left ≡ store
  pub was_opened : line.is_new ≡ false
      → (session : SessionState S) × IsOpened facts line.cache line.undo_limit line.checksums store session
      × (left ≡ session.disk.store)
  pub closes : calls.closes failed left new

-- A session is begun on FILE's store, with checksums where they are asked for, and FILE2 is the target if it is named.
-- A new document is made only after both are opened.
pub record BeginsSession {F S : Type 0} (calls : Opener F S) (facts : S → StoreFacts) (line : CommandLine) (store : S)
    (opened : F) (session : SessionState S) (target : Option S) (new : F) : Type 0 where
  pub target_is : OpensTarget calls line.target opened target new
  pub session_is : IsMadeOrOpened facts line.is_new line.cache line.undo_limit line.checksums store session

-- the store of a session is closed, and so are the target and the old store of an accepted save-as, where they are
-- there
pub record Closes {F S : Type 0} (calls : Opener F S) (all : Holding S) (old new : F) : Type 0 where
  pub first : F
  pub second : F
  pub file : calls.closes old all.session.disk.store first
  pub target : ClosesAny calls first all.target second
  pub former : ClosesAny calls second all.former new

-- the script is answered, and whatever that comes to, all is closed
pub record RunsOn {F S : Type 0} (calls : Opener F S) (Ends : Holding S → Type 0) (old new : F) : Type 0 where
  pub left : Holding S
  pub ends : Ends left
  pub closes : Closes calls left old new

-- the manner that a command line asks for
abbrev pub script_options_of : CommandLine → ScriptOptions
script_options_of line = record { bails = line.bails; echoes = line.echoes }

-- ---- outcomes

-- FILE can't be opened, which is told by what was to be done with it
abbrev pub IsFileFault : CommandLine → Outcome → Type 0
IsFileFault line (outcomes.Create fault) = (line.is_new ≡ true) × (fault ≡ File)
IsFileFault line (outcomes.Open fault) = (line.is_new ≡ false) × (fault ≡ File)
IsFileFault line _ = ⊥

-- FILE was opened as a store, and the script isn't answered
abbrev pub IsGivenUp : {F S : Type 0} → Opener F S → (S → StoreFacts) → CommandLine → S → F → F → Outcome → Type 0
IsGivenUp calls facts line store opened new (outcomes.Create fault) =
    (line.is_new ≡ true) × CreateFails calls facts line.target fault store opened new
IsGivenUp calls facts line store opened new (outcomes.Open fault) =
    (line.is_new ≡ false) × OpenFails calls facts fault store opened new
IsGivenUp calls facts line store opened new outcomes.Target = TargetIsShut calls facts line store opened new
IsGivenUp calls facts line store opened new _ = ⊥

-- the script isn't answered
abbrev pub IsScriptNotAnswered : {F S : Type 0} → Opener F S → (S → StoreFacts) → CommandLine → F → F → Outcome → Type 0
IsScriptNotAnswered calls facts line old new outcome =
    (FileFails calls line old new × IsFileFault line outcome)
    ⊎ FromFile calls line old (λ store opened. IsGivenUp calls facts line store opened new outcome)

-- the script is answered: well, or until the run ended by a fault, which is the one that is told
abbrev pub IsScriptAnswered : {F S : Type 0} → Opener F S → (S → StoreFacts) → ScriptOptions → Holding S → F → F
    → Option (List ℕ) → Option (List ℕ) → Option (List ℕ) → Option (List ℕ) → Outcome → Type 0
IsScriptAnswered calls facts manner first old new from to before after outcomes.Done =
    RunsOn calls (λ left. AnswersAll facts manner first from to before after left) old new
IsScriptAnswered calls facts manner first old new from to before after (outcomes.Run fault) =
    RunsOn calls (λ left. EndsBy fault facts manner first from to before after left) old new
IsScriptAnswered calls facts manner first old new from to before after _ = ⊥

-- a session was begun on FILE, and the script is answered
pub record ServesFiles {F S : Type 0} (calls : Opener F S) (facts : S → StoreFacts) (line : CommandLine) (old new : F)
    (from to before after : Option (List ℕ)) (outcome : Outcome) : Type 0 where
  pub begun : F
  pub session : SessionState S
  pub target : Option S
  pub begins : FromFile calls line old
      (λ store opened. BeginsSession calls facts line store opened session target begun)
  pub answers : IsScriptAnswered calls facts (script_options_of line)
      (holding session target None) begun new from to before after outcome

-- Words that are no usable command line end in what says so, or in lack of memory, and no file is opened. Of a usable
-- one the files are opened and the script is answered, or, where that can't begin, nothing of it is read and no reply
-- is written.
abbrev pub ComesTo : {F S : Type 0} → Opener F S → (S → StoreFacts) → List Text → F → F → Option (List ℕ)
    → Option (List ℕ) → Option (List ℕ) → Option (List ℕ) → Outcome → Type 0
ComesTo calls facts words old new from to before after outcome =
    ((none : NoOptions) × RefusesWords words none × (outcome ≡ without_options none)
    × (new ≡ old) × (to ≡ from) × (after ≡ before))
    ⊎ ((line : CommandLine) × (command_line words ≡ Some line) × IsUsable line × (
    (IsScriptNotAnswered calls facts line old new outcome × (to ≡ from) × (after ≡ before)) ⊎
    ServesFiles calls facts line old new from to before after outcome))
