-- What the caller of a session holds, and what a request that is served makes of it.
use Rattle.std.specs.Prelude.{◌≡◌, ◌⊎◌, ◌≤◌, ◌||◌, Bool, true, false, IsTrue, List, [], ◌∷◌, Option, Some, None, is_some, IfSome, Result, Ok, Err, IfErr}
use Rattle.geos_model.specs.Machine.{Machine, Request, Call, Step, kind_of}
use Rattle.geos_model.specs.Reply.{Reply, Accepted, Refused}
use Rattle.geos_model.specs.declared.fault.Fault.{Fault}
use Rattle.geos_model.specs.declared.fault.Fault.TheVariants.{File}
use Rattle.geos_model.specs.declared.command.Command.TheVariants as commands
use Rattle.geos_model.specs.declared.command.Kind.{Kind}
use Rattle.geos_model.specs.declared.command.Kind.TheVariants.{In}
use Rattle.geos_model.specs.declared.handle.VmHandle.{VmHandle}
use Rattle.vm_store.specs.Facts.{StoreFacts, FailedSince}
use Rattle.document_file.specs.Disk.{Disk, MayCommit, IsCrashConsistent, HasSequence, KeepsCommitted, SameUnlessCorrupt}
use Rattle.document_file.specs.Documents.{Documents}
use Rattle.vm_blocks.specs.Keeping.{is_loaded}
use Rattle.undo_log.specs.Sessions.{SessionState, IsExact, cache_of, locks_in, machine_of, failed_since}
use Rattle.undo_log.specs.Logging.{kind_of_entry, open_changes}
use Rattle.undo_log.specs.Entries.{LogEntry}
use Rattle.undo_log.specs.Turning.{IsSure, IsSureGroup, abandon_fault, busy_fault}
use Rattle.chunk_edits.specs.declared.direction.Direction.TheVariants.{Forwards, Backwards}

-- a session, the target of a save-as while one is left, and the store that a save-as went away from, where it was put
-- aside
pub record Holding (S : Type 0) : Type 0 where
  pub session : SessionState S
  pub target : Option S
  pub former : Option S

abbrev pub holding : {S : Type 0} → SessionState S → Option S → Option S → Holding S
holding session target former = record { session = session; target = target; former = former }

-- the machine that it is
abbrev pub machine : {S : Type 0} → Holding S → Machine
machine h = machine_of (is_some h.target) h.session

-- the session is exact, so that its store is honest, and the target is honest where there is one
abbrev pub AreExact : {S : Type 0} → (S → StoreFacts) → Holding S → Type 0
AreExact facts h = IsExact facts h.session × IfSome h.target (λ store. IsTrue (facts store).honest)

-- Whether a call of a store has failed from one holding to the next: of the session's store, or of the target where it
-- is left in both. An accepted save-as, which uses the target up, is no call that failed.

abbrev pub failed_with : {S : Type 0} → Bool → (S → StoreFacts) → Option S → Option S → Bool
failed_with failed facts None target = failed
failed_with failed facts (Some old) (Some new) = failed || failed_since (facts old) (facts new)
failed_with failed facts (Some old) None = false

abbrev pub failed_since_in : {S : Type 0} → (S → StoreFacts) → Holding S → Holding S → Bool
failed_since_in facts old new =
    failed_with (failed_since (facts old.session.disk.store) (facts new.session.disk.store)) facts old.target new.target

-- What becomes of the files.

-- Nothing of them is committed.
pub record CommitsNothing {S : Type 0} (facts : S → StoreFacts) (old new : Holding S) : Type 0 where
  pub passes : KeepsCommitted facts old.session.disk new.session.disk
  pub target : new.target ≡ old.target
  pub former : new.former ≡ old.former

-- nothing of them changes
pub record SameFiles {S : Type 0} (old new : Holding S) : Type 0 where
  pub disk : new.session.disk ≡ old.session.disk
  pub target : new.target ≡ old.target
  pub former : new.former ≡ old.former

-- This pair is committed to the session's file, or refused. Unless the refusal is that the store failed, nothing is
-- committed.
pub record CommitsOrKeeps {S : Type 0} (facts : S → StoreFacts) (pair : Documents) (old new : Disk S)
    (result : Result (Unit {0}) Fault) : Type 0 where
  pub commits : MayCommit facts pair old new result
  pub passes : IfErr result (λ fault.
      (fault ≡ File → FailedSince (facts old.store) (facts new.store) → ⊥) → KeepsCommitted facts old new)

-- the result that a reply to a commit tells
abbrev pub result_of_reply : Reply → Result (Unit {0}) Fault
result_of_reply (Refused fault) = Err fault
result_of_reply _ = Ok tt

-- A commit of this pair to the session's file ends as the reply tells.
pub record CommitsAsReplied {S : Type 0} (facts : S → StoreFacts) (pair : Documents) (old : Holding S) (reply : Reply)
    (new : Holding S) : Type 0 where
  pub tries : CommitsOrKeeps facts pair old.session.disk new.session.disk (result_of_reply reply)
  pub target : new.target ≡ old.target
  pub former : new.former ≡ old.former

-- A save-as is refused: the session's file may have its saved document committed, and the target is back, with any
-- bytes.
pub record SaveAsRefused {S : Type 0} (facts : S → StoreFacts) (old : Holding S) (lent : S) (fault : Fault)
    (new : Holding S) : Type 0 where
  pub tries : CommitsOrKeeps facts (old.session.disk.saved, old.session.disk.saved) old.session.disk new.session.disk
      (Err fault)
  pub back : S
  pub target : new.target ≡ Some back
  pub failures : (facts lent).failures ≤ (facts back).failures
  pub former : new.former ≡ old.former

-- A save-as is accepted: the old file has its saved document committed, and its store is put aside. The target is used
-- up, and the session is in it, which is a new file, with checksums where the old file has.
pub record SaveAsAccepted {S : Type 0} (facts : S → StoreFacts) (old : Holding S) (lent : S) (new : Holding S)
    : Type 0 where
  pub disk : Disk S
  pub commits : MayCommit facts (old.session.disk.saved, old.session.disk.saved) old.session.disk disk (Ok tt)
  pub former : new.former ≡ Some disk.store
  pub target : new.target ≡ None
  pub failures : (facts lent).failures ≤ (facts new.session.disk.store).failures
  pub new_file : (new.session.disk.in_doubt ≡ []) × (new.session.disk.sequence ≡ 1)
  pub numbered : HasSequence (facts new.session.disk.store) 1
  pub checksums : new.session.disk.checksums ≡ old.session.disk.checksums
  pub crash_consistent : IsCrashConsistent facts new.session.disk

-- by the target that was left, and the reply
abbrev pub SavesAs : {S : Type 0} → (S → StoreFacts) → Holding S → Option S → Reply → Holding S → Type 0
SavesAs facts old None reply new = SameFiles old new
SavesAs facts old (Some target) (Refused fault) new = SaveAsRefused facts old target fault new
SavesAs facts old (Some target) reply new = SaveAsAccepted facts old target new

-- by the request and the reply
abbrev pub LeavesFiles : {S : Type 0} → (S → StoreFacts) → Holding S → Request → Reply → Holding S → Type 0
LeavesFiles facts old (Some commands.Update) reply new =
    CommitsAsReplied facts (old.session.document, old.session.disk.saved) old reply new
LeavesFiles facts old (Some commands.Save) reply new =
    CommitsAsReplied facts (old.session.document, old.session.document) old reply new
LeavesFiles facts old (Some commands.Revert) reply new =
    CommitsAsReplied facts (old.session.disk.saved, old.session.disk.saved) old reply new
LeavesFiles facts old (Some commands.SaveAs) reply new = SavesAs facts old old.target reply new
LeavesFiles facts old (Some commands.Begin) reply new = SameFiles old new
LeavesFiles facts old (Some commands.End) reply new = SameFiles old new
LeavesFiles facts old (Some commands.Join) reply new = SameFiles old new
LeavesFiles facts old (Some (commands.Forget most)) reply new = SameFiles old new
LeavesFiles facts old (Some (commands.Name name)) reply new = SameFiles old new
LeavesFiles facts old (Some (commands.HeapType b)) reply new = SameFiles old new
LeavesFiles facts old (Some commands.List) reply new = SameFiles old new
LeavesFiles facts old (Some (commands.Find uid start)) reply new = SameFiles old new
LeavesFiles facts old (Some commands.MapBlock) reply new = SameFiles old new
LeavesFiles facts old (Some (commands.Unlock b)) reply new = SameFiles old new
LeavesFiles facts old (Some (commands.Dirty b)) reply new = SameFiles old new
LeavesFiles facts old (Some (commands.Locks b)) reply new = SameFiles old new
LeavesFiles facts old (Some commands.Undos) reply new = SameFiles old new
LeavesFiles facts old (Some commands.Redos) reply new = SameFiles old new
LeavesFiles facts old (Some commands.Modified) reply new = SameFiles old new
LeavesFiles facts old (Some commands.UndoName) reply new = SameFiles old new
LeavesFiles facts old (Some commands.RedoName) reply new = SameFiles old new
LeavesFiles facts old (Some commands.Touched) reply new = SameFiles old new
LeavesFiles facts old (Some commands.UndoPlaces) reply new = SameFiles old new
LeavesFiles facts old (Some commands.RedoPlaces) reply new = SameFiles old new
LeavesFiles facts old (Some commands.AbandonPlaces) reply new = SameFiles old new
LeavesFiles facts old (Some command) reply new = CommitsNothing facts old new
LeavesFiles facts old None reply new = SameFiles old new

-- Requests.

-- An undo or a redo that is sure, as a session says which are, is accepted and calls no store, where no group is open
-- and no block is locked. So is an abandon of a group whose changes are sure to be taken back, where no block is
-- locked. Forgetting always is.
abbrev pub IsTakenIfSure : {S : Type 0} → (S → StoreFacts) → SessionState S → Request → Reply → SessionState S → Type 0
IsTakenIfSure facts old (Some commands.Undo) reply new =
    busy_fault old ≡ None → IsSure facts old Backwards old.log.undo → (reply ≡ Accepted) × (new.disk ≡ old.disk)
IsTakenIfSure facts old (Some commands.Redo) reply new =
    busy_fault old ≡ None → IsSure facts old Forwards old.log.redo → (reply ≡ Accepted) × (new.disk ≡ old.disk)
IsTakenIfSure facts old (Some commands.Abandon) reply new =
    abandon_fault old ≡ None → IsSureGroup facts old Backwards (open_changes old.log.group)
    → (reply ≡ Accepted) × (new.disk ≡ old.disk)
IsTakenIfSure facts old (Some (commands.Forget most)) reply new = (reply ≡ Accepted) × (new.disk ≡ old.disk)
IsTakenIfSure facts old request reply new = Unit {0}

-- The request is answered so where all is exact: by the machine, with a file fault in place of its answer only where a
-- store failed in this very call. The files are as the reply tells, and all is exact still.
pub record ServesRequest {S : Type 0} (facts : S → StoreFacts) (old : Holding S) (request : Request) (reply : Reply)
    (new : Holding S) : Type 0 where
  pub exact : AreExact facts new
  pub step : Step (failed_since_in facts old new) (machine old) request reply (machine new)
  pub files : LeavesFiles facts old request reply new
  pub sure : IsTakenIfSure facts old.session request reply new.session

abbrev pub is_refusal : Reply → Bool
is_refusal (Refused fault) = true
is_refusal reply = false

-- What a refusal leaves over any store: the document, as far as the store gives back what it has, the log with its
-- group, the locks, the frames and the number of the last commit. A target is left where one was, and what was put
-- aside stays.
pub record KeepsHolding {S : Type 0} (facts : S → StoreFacts) (old new : Holding S) : Type 0 where
  pub document : SameUnlessCorrupt (facts old.session.disk.store).honest old.session.document new.session.document
  pub log : new.session.log ≡ old.session.log
  pub locks : locks_in new.session.resident ≡ locks_in old.session.resident
  pub frames : new.session.frames ≡ old.session.frames
  pub sequence : new.session.disk.sequence ≡ old.session.disk.sequence
  pub target : is_some new.target ≡ is_some old.target
  pub former : new.former ≡ old.former

-- The block of a step within one is in memory.
abbrev pub HasBlockInMemory : {S : Type 0} → Kind → SessionState S → Type 0
HasBlockInMemory kind s = (b : VmHandle) → kind ≡ In b → is_loaded (cache_of s) b.0 ≡ true

-- so is that of the next entry of a list of the log
abbrev pub HasNextInMemory : {S : Type 0} → List LogEntry → SessionState S → Type 0
HasNextInMemory [] s = Unit {0}
HasNextInMemory (e ∷ es) s = HasBlockInMemory (kind_of_entry e) s

-- What is in memory behind an accepted request: the block of an edit within one, and that of the step that an undo or a
-- redo took, so that to take it the other way is sure; and a block that is locked.
abbrev pub LeavesInMemory : {S : Type 0} → Request → SessionState S → Type 0
LeavesInMemory (Some (commands.Edit edit)) s = HasBlockInMemory (kind_of edit) s
LeavesInMemory (Some commands.Undo) s = HasNextInMemory s.log.redo s
LeavesInMemory (Some commands.Redo) s = HasNextInMemory s.log.undo s
LeavesInMemory (Some (commands.Lock b)) s = is_loaded (cache_of s) b.0 ≡ true
LeavesInMemory request s = Unit {0}

-- The request is answered so over any store: a refusal leaves all, a file fault is answered only where a store failed
-- in this very call, there are as many frames as before, and what an accepted request works on is in memory. Where all
-- is exact the request is served.
pub record AnswersRequest {S : Type 0} (facts : S → StoreFacts) (old : Holding S) (request : Request) (reply : Reply)
    (new : Holding S) : Type 0 where
  pub keeps : IsTrue (is_refusal reply) → KeepsHolding facts old new
  pub file : reply ≡ Refused File → IsTrue (failed_since_in facts old new)
  pub frames : new.session.frames ≡ old.session.frames
  pub in_memory : is_refusal reply ≡ false → LeavesInMemory request new.session
  pub serves : AreExact facts old → ServesRequest facts old request reply new

-- Nothing is done, or the request is answered by a reply that isn't told.
abbrev pub MayServe : {S : Type 0} → (S → StoreFacts) → Holding S → Request → Holding S → Type 0
MayServe facts old request new = (new ≡ old) ⊎ ((reply : Reply) × AnswersRequest facts old request reply new)

-- these calls are answered, one after another
abbrev pub AnswersCalls : {S : Type 0} → (S → StoreFacts) → Holding S → List Call → Holding S → Type 0
AnswersCalls {S} facts old [] new = new ≡ old
AnswersCalls {S} facts old (c ∷ cs) new =
    (mid : Holding S) × (c.failed ≡ failed_since_in facts old mid) × AnswersRequest facts old c.request c.reply mid
    × AnswersCalls facts mid cs new

-- so, where all is exact: they are served
abbrev pub Serving : {S : Type 0} → (S → StoreFacts) → Holding S → List Call → Holding S → Type 0
Serving {S} facts old [] new = new ≡ old
Serving {S} facts old (c ∷ cs) new =
    (mid : Holding S) × (c.failed ≡ failed_since_in facts old mid) × ServesRequest facts old c.request c.reply mid
    × Serving facts mid cs new
