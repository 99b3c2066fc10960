-- A session: what it holds, the machine that it is, and that what it keeps of each step can be taken.
use Rattle.std.specs.Prelude.{◌≡◌, ◌⊎◌, ℕ, Bool, false, IsTrue, nat_le, nat_lt, if◌then◌else◌, List, [], ◌∷◌, map, Some}
use Rattle.std.specs.FinMap.{FinMap, empty, insert, remove, len}
use Rattle.std.specs.List.{sum_by}
use Rattle.std.specs.Option.{option_map}
use Rattle.std.specs.Ordering.{nat_cmp}
use Rattle.geos_model.specs.Document.{Document, IsValid}
use Rattle.geos_model.specs.LookUps.{block_look_up, chain_look_up, places_look_up, plain_look_up, step_name_look_up}
use Rattle.geos_model.specs.Machine.{Machine, UndoStep, Step}
use Rattle.geos_model.specs.Reply.{Reply}
use Rattle.geos_model.specs.declared.command.Command.{Command}
use Rattle.geos_model.specs.declared.command.Command.TheVariants as commands
use Rattle.geos_model.specs.declared.command.Done.{Done}
use Rattle.geos_model.specs.declared.command.Done.TheVariants.{Nothing}
use Rattle.geos_model.specs.declared.command.Edit.{Edit}
use Rattle.geos_model.specs.declared.look_up.LookUp.{LookUp}
use Rattle.geos_model.specs.declared.look_up.LookUp.TheVariants as look_ups
use Rattle.vm_store.specs.Facts.{StoreFacts, raised}
use Rattle.document_file.specs.Disk.{Disk, FileState}
use Rattle.vm_blocks.specs.State.{CacheState, ResidentBlock, is_block_locked, as_file}
use Rattle.vm_blocks.specs.Changes.{after_directed, directed, CanApply}
use Rattle.vm_blocks.specs.Keeping.{KeepsBlocks}
use Rattle.vm_blocks.specs.Preparing.{CanApplyAllByHandle}
use Rattle.vm_blocks.specs.declared.change.Change.{Change}
pub use Rattle.chunk_edits.specs.Directions.{opposite}
use Rattle.chunk_edits.specs.declared.direction.Direction.{Direction}
use Rattle.chunk_edits.specs.declared.direction.Direction.TheVariants.{Forwards, Backwards}
use Rattle.doc_edits.specs.LookUps.{AnswersFromBlocks, AnswersChainFromBlocks}
use Rattle.undo_log.specs.Logging.{Log, before, entry_steps, group_of, to_redo, to_undo, with_change, with_changes}
use Rattle.undo_log.specs.Making.{IsEditApplied, IsLargeApplied}

-- A session: the disk, its document as it is now, the blocks in memory and how many may be, and what it keeps of steps.
pub record SessionState (S : Type 0) : Type 0 where
  pub disk : Disk S
  pub document : Document
  pub resident : List (ℕ × ℕ)
  pub frames : ℕ
  pub log : Log

-- its blocks
abbrev pub cache_of : {S : Type 0} → SessionState S → CacheState S
cache_of s = record { disk = s.disk; document = s.document; resident = s.resident; frames = s.frames }

-- the file that it shows: its document in place of the file's own
abbrev pub file_of : {S : Type 0} → SessionState S → FileState S
file_of s = as_file (cache_of s)

-- How often each block is locked, of those in memory that are. If a handle had two seats, the first would count.
abbrev pub locks_in : List ResidentBlock → FinMap nat_cmp ℕ
locks_in [] = empty
locks_in (s ∷ residents) =
    if is_block_locked s then insert (locks_in residents) s.0 s.1 else remove (locks_in residents) s.0

-- whether any block is locked
abbrev pub has_locked_blocks : {S : Type 0} → SessionState S → Bool
has_locked_blocks s = nat_lt 0 (len (locks_in s.resident))

-- the machine that a session is, where a target for a save-as is left and where none is
abbrev pub machine_of : {S : Type 0} → Bool → SessionState S → Machine
machine_of target s = record {
  document = s.document;
  past = entry_steps Backwards s.log.undo (before s.log.group s.document);
  future = entry_steps Forwards s.log.redo s.document;
  past_names = s.log.undo_names;
  future_names = s.log.redo_names;
  group = option_map (group_of s.document) s.log.group;
  updated = s.disk.updated;
  saved = s.disk.saved;
  updated_at = s.log.updated_at;
  saved_at = s.log.saved_at;
  touched = s.log.touched;
  undo_limit = s.log.limit;
  locks = locks_in s.resident;
  frames = s.frames;
  target = target;
  sequence = s.disk.sequence;
}

-- whether a call of the store has failed since
abbrev pub failed_since : StoreFacts → StoreFacts → Bool
failed_since old new = nat_le (raised old.failures) new.failures

-- each change can be carried out in a direction, one after another
abbrev pub CanApplyAllDirected : Direction → List Change → Document → Type 0
CanApplyAllDirected direction [] d = Unit {0}
CanApplyAllDirected direction (c ∷ cs) d =
    CanApply (directed direction c) d × CanApplyAllDirected direction cs (after_directed direction c d)

-- The document is valid, each change of one list can be carried out in this direction, and each of the other one in the
-- opposite one.
pub record AreSteps (direction : Direction) (d : Document) (from to : List Change) : Type 0 where
  pub valid : IsValid d
  pub first : CanApplyAllDirected direction from d
  pub second : CanApplyAllDirected (opposite direction) to d

-- That is so as far as handles tell, over any store.
pub record CanApplyBothByHandle (direction : Direction) (d : Document) (from to : List Change) : Type 0 where
  pub first : CanApplyAllByHandle (map (directed direction) from) d
  pub second : CanApplyAllByHandle (map (directed (opposite direction)) to) d

-- The store is honest, and the records can be taken from the document, so that undo and redo are exact. Whoever begins
-- with an honest store and saves into honest ones alone has it always; over another store a body may be another than
-- the one that was edited.
pub record IsExact {S : Type 0} (facts : S → StoreFacts) (s : SessionState S) : Type 0 where
  pub honest : IsTrue (facts s.disk.store).honest
  pub steps : AreSteps Backwards s.document (to_undo s.log) (to_redo s.log)

-- A call is a step of the machine, and the session is exact still.
abbrev pub IsStep : {S : Type 0} → (S → StoreFacts) → SessionState S → SessionState S → Command → Reply → Type 0
IsStep facts old new command reply = IsExact facts old
    → IsExact facts new
    × ((target : Bool) → Step (failed_since (facts old.disk.store) (facts new.disk.store)) (machine_of target old)
    (Some command) reply (machine_of target new))

-- Nothing is committed, the document stays as far as the store gives back what it has, and so do the locks and the log.
pub record KeepsSession {S : Type 0} (facts : S → StoreFacts) (old new : SessionState S) : Type 0 where
  pub blocks : KeepsBlocks facts (cache_of old) (cache_of new)
  pub log : new.log ≡ old.log

-- What a look-up into one block comes to: a step of the machine that keeps the session. What is answered is looked up
-- of the document as it is held from then on, or of the one before where no body has to be read, for which no store is
-- called.
pub record AnswersLookUp {S : Type 0} (facts : S → StoreFacts) (old new : SessionState S) (command : Command)
    (reply : Reply) : Type 0 where
  pub keeps : KeepsSession facts old new
  pub step : IsStep facts old new command reply
  pub sees : AnswersFromBlocks facts (cache_of old) (cache_of new) command reply

-- what a look-up along chains comes to
pub record AnswersAlongChain {S : Type 0} (facts : S → StoreFacts) (old new : SessionState S) (command : Command)
    (reply : Reply) : Type 0 where
  pub keeps : KeepsSession facts old new
  pub step : IsStep facts old new command reply
  pub sees : AnswersChainFromBlocks facts (cache_of old) (cache_of new) command reply

-- What one comes to that looks into no body: a step of the machine over any store, and nothing changes.
abbrev pub AnswersWithoutBody : {S : Type 0} → SessionState S → SessionState S → Command → Reply → Type 0
AnswersWithoutBody old new command reply =
    ((target : Bool) → Step false (machine_of target old) (Some command) reply (machine_of target new)) × (new ≡ old)

-- what a look-up comes to
abbrev pub AnswersAsked : {S : Type 0} → (S → StoreFacts) → SessionState S → SessionState S → LookUp → Reply → Type 0
AnswersAsked facts old new look_ups.List reply = AnswersWithoutBody old new commands.List reply
AnswersAsked facts old new (look_ups.Plain asked) reply = AnswersWithoutBody old new (plain_look_up asked) reply
AnswersAsked facts old new (look_ups.StepName asked) reply = AnswersWithoutBody old new (step_name_look_up asked) reply
AnswersAsked facts old new (look_ups.Places asked) reply = AnswersWithoutBody old new (places_look_up asked) reply
AnswersAsked facts old new (look_ups.InBlock b asked) reply = AnswersLookUp facts old new (block_look_up b asked) reply
AnswersAsked facts old new (look_ups.AlongChain asked) reply = AnswersAlongChain facts old new (chain_look_up asked) reply

-- The edit's change is made, and is the newest of the log.
pub record PushesChange {S : Type 0} (facts : S → StoreFacts) (edit : Edit) (done : Done) (old new : SessionState S)
    : Type 0 where
  pub change : Change
  pub made : IsEditApplied facts edit (cache_of old) (cache_of new) change done
  pub log : new.log ≡ with_change change old.log

-- Those of an edit of a large array are made, here in that order, and are the newest of the log together. It answers
-- nothing.
pub record PushesChanges {S : Type 0} (facts : S → StoreFacts) (edit : Edit) (done : Done) (old new : SessionState S)
    : Type 0 where
  pub changes : List Change
  pub made : IsLargeApplied facts edit (cache_of old) (cache_of new) changes
  pub log : new.log ≡ with_changes changes old.log
  pub answer : done ≡ Nothing

-- either of them
abbrev pub PushesEdit : {S : Type 0} → (S → StoreFacts) → Edit → Done → SessionState S → SessionState S → Type 0
PushesEdit facts edit done old new = PushesChange facts edit done old new ⊎ PushesChanges facts edit done old new

-- how many bytes steps are charged for together
abbrev pub total_cost : List UndoStep → ℕ
total_cost steps = sum_by (λ s. s.cost) steps
