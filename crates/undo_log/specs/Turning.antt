-- A step from one list of the log to the other, and taking back the group that is open.
use Rattle.std.specs.Prelude.{◌≡◌, ◌≢◌, ◌⊎◌, ◌==◌, ℕ, true, nat_lt, List, [], ◌∷◌, length, map, Option, Some, None, is_some, if◌then◌else◌}
use Rattle.geos_model.specs.Document.{Document}
use Rattle.geos_model.specs.Machine.{longest_name}
use Rattle.geos_model.specs.declared.command.Command.{Command}
use Rattle.geos_model.specs.declared.command.Command.TheVariants as commands
use Rattle.geos_model.specs.declared.command.Kind.{Kind}
use Rattle.geos_model.specs.declared.command.Kind.TheVariants.{Plain, In, Made, Freed, Group}
use Rattle.geos_model.specs.declared.fault.Fault.{Fault}
use Rattle.geos_model.specs.declared.fault.Fault.TheVariants.{Damaged, GroupOpen, Locked, NoGroup, NothingToRedo, NothingToUndo, TooBig}
use Rattle.vm_store.specs.Facts.{StoreFacts}
use Rattle.vm_blocks.specs.State.{CacheState}
use Rattle.vm_blocks.specs.Changes.{after_change, directed, incoming_blocks}
use Rattle.vm_blocks.specs.Keeping.{IsHonest, IsEnvironmentFault, is_loaded}
use Rattle.vm_blocks.specs.Preparing.{CantPrepareAll, AllowsChange, AreInMemory, IsInMemory, IsApplied, AreApplied, NoneComesIn}
use Rattle.vm_blocks.specs.declared.change.Change.{Change}
use Rattle.chunk_edits.specs.declared.direction.Direction.{Direction}
use Rattle.chunk_edits.specs.declared.direction.Direction.TheVariants.{Forwards, Backwards}
use Rattle.doc_edits.specs.Planning.{kind_of_change}
use Rattle.undo_log.specs.Logging.{abandoned_log, after_entry, open_changes, reversed_entry}
use Rattle.undo_log.specs.Sessions.{SessionState, cache_of, has_locked_blocks, CanApplyAllDirected, IsExact}
use Rattle.undo_log.specs.Entries.{LogEntry}
use Rattle.undo_log.specs.Entries as entries

-- The changes of an entry are made.
abbrev pub IsEntryApplied : {S : Type 0} → (S → StoreFacts) → Direction → LogEntry → CacheState S → CacheState S
    → Type 0
IsEntryApplied facts direction (entries.One c) old new = IsApplied facts (directed direction c) old new
IsEntryApplied facts direction (entries.Group cs) old new = AreApplied facts (map (directed direction) cs) old new

-- Why a change can't be made where no block is locked: for a fault of what the call may lack, or a body that doesn't
-- take it, if the store gives back what it has.
abbrev pub CantApply : {S : Type 0} → (S → StoreFacts) → Change → CacheState S → CacheState S → Fault → Type 0
CantApply facts change old new fault =
    IsEnvironmentFault facts old.disk.store new.disk.store fault
    ⊎ ((fault ≡ Damaged) × (IsHonest facts old.disk.store → AllowsChange change old.document → ⊥))

-- why those of an entry can't
abbrev pub CantApplyEntry : {S : Type 0} → (S → StoreFacts) → Direction → LogEntry → CacheState S → CacheState S → Fault
    → Type 0
CantApplyEntry facts direction (entries.One c) old new fault = CantApply facts (directed direction c) old new fault
CantApplyEntry facts direction (entries.Group cs) old new fault =
    CantPrepareAll facts (map (directed direction) cs) old new fault

-- That of one edit can where no block comes in, and the body that changes is in memory and takes the change; those of a
-- group where that is so of each, and what goes stands there.
abbrev pub CanApplyEntry : {S : Type 0} → Direction → LogEntry → CacheState S → Type 0
CanApplyEntry direction (entries.One c) blocks =
    (incoming_blocks (directed direction c) ≡ []) × IsInMemory (directed direction c) blocks
    × AllowsChange (directed direction c) blocks.document
CanApplyEntry direction (entries.Group cs) blocks =
    NoneComesIn (map (directed direction) cs) × AreInMemory (map (directed direction) cs) blocks
    × CanApplyAllDirected direction cs blocks.document

-- the newest entry of a list is made, and is the newest of the other
pub record MovesEntry {S : Type 0} (facts : S → StoreFacts) (direction : Direction) (old new : CacheState S)
    (from to from' to' : List LogEntry) : Type 0 where
  pub entry : LogEntry
  pub makes : IsEntryApplied facts direction entry old new
  pub from_was : from ≡ entry ∷ from'
  pub to_is : to' ≡ reversed_entry entry ∷ to

-- the command that makes the next step in a direction, and its fault where there is none
abbrev pub step_command : Direction → Command
step_command Backwards = commands.Undo
step_command Forwards = commands.Redo

abbrev pub no_step_fault : Direction → Fault
no_step_fault Backwards = NothingToUndo
no_step_fault Forwards = NothingToRedo

-- what the newest entry of a list makes of a document
abbrev pub newest_made : Direction → List LogEntry → Document → Document
newest_made direction [] d = d
newest_made direction (e ∷ es) d = after_entry direction e d

-- What is refused before all else where a group is to be closed and no block locked: for an open group, or else for a
-- locked block.
abbrev pub busy_fault : {S : Type 0} → SessionState S → Option Fault
busy_fault s = if is_some s.log.group then Some GroupOpen else if has_locked_blocks s then Some Locked else None

-- so where a group is to be open
abbrev pub abandon_fault : {S : Type 0} → SessionState S → Option Fault
abandon_fault s = if is_some s.log.group then (if has_locked_blocks s then Some Locked else None) else Some NoGroup

-- What keeps two steps from being joined, for want of memory aside: an open group, or that there are fewer.
abbrev pub join_fault : {S : Type 0} → SessionState S → Option Fault
join_fault s =
    if is_some s.log.group then Some GroupOpen else if nat_lt (length s.log.undo) 2 then Some NothingToUndo else None

-- What keeps the newest step from having a name of so many bytes, for want of memory aside: an open group, that there
-- is no step, or the length.
abbrev pub name_fault : {S : Type 0} → ℕ → SessionState S → Option Fault
name_fault n s =
    if is_some s.log.group then Some GroupOpen
    else if length s.log.undo == 0 then Some NothingToUndo
    else if nat_lt longest_name n then Some TooBig else None

-- Why what the log has can't be made: for a fault of what the call may lack; or, in a session that isn't exact, a body
-- that doesn't take a change.
abbrev pub CantApplyLog : {S : Type 0} → (S → StoreFacts) → SessionState S → SessionState S → Fault → Type 0
CantApplyLog facts old new fault =
    IsEnvironmentFault facts old.disk.store new.disk.store fault ⊎ ((fault ≡ Damaged) × (IsExact facts old → ⊥))

-- Why an undo or a redo is refused: before all else, for a group or a lock, or since there is nothing to take, which
-- has its own fault, and then nothing changes; or it can't be made.
abbrev pub IsRefusedUndoOrRedo : {S : Type 0} → (S → StoreFacts) → Fault → List LogEntry → SessionState S
    → SessionState S → Fault → Type 0
IsRefusedUndoOrRedo facts nothing from old new fault =
    ((busy_fault old ≡ Some fault) × (new ≡ old))
    ⊎ ((busy_fault old ≡ None) × (
    ((from ≡ []) × (fault ≡ nothing) × (new ≡ old)) ⊎ ((from ≢ []) × CantApplyLog facts old new fault)))

-- The group that is open is taken back, and closed.
pub record Abandons {S : Type 0} (facts : S → StoreFacts) (old new : SessionState S) : Type 0 where
  pub is_open : is_some old.log.group ≡ true
  pub makes : AreApplied facts (map (directed Backwards) (open_changes old.log.group)) (cache_of old) (cache_of new)
  pub log : new.log ≡ abandoned_log old.log

-- Why it isn't: there is none, or a block is locked, and then nothing changes; or its changes can't be taken back,
-- which none always can.
abbrev pub IsNotAbandoned : {S : Type 0} → (S → StoreFacts) → SessionState S → SessionState S → Fault → Type 0
IsNotAbandoned facts old new fault = ((abandon_fault old ≡ Some fault) × (new ≡ old))
    ⊎ ((abandon_fault old ≡ None) × (open_changes old.log.group ≢ []) × CantApplyLog facts old new fault
    × CantPrepareAll facts (map (directed Backwards) (open_changes old.log.group)) (cache_of old) (cache_of new) fault)

-- Whether a step of this kind is sure to be taken, with no memory and no call of the store: by it a user ID or the map
-- block changes, or blocks go; or, in an exact session, the body of a block that is in memory changes.
abbrev pub IsSureKind : {S : Type 0} → (S → StoreFacts) → SessionState S → Direction → Kind → Type 0
IsSureKind facts s direction Plain = Unit {0}
IsSureKind facts s direction (In b) = IsExact facts s × (is_loaded (cache_of s) b.0 ≡ true)
IsSureKind facts s Forwards Made = ⊥
IsSureKind facts s Backwards Made = Unit {0}
IsSureKind facts s Forwards Freed = Unit {0}
IsSureKind facts s Backwards Freed = ⊥
IsSureKind facts s direction Group = ⊥

-- So it is of the changes of a group in an exact session, where no blocks come in, and each block whose body changes is
-- in memory.
pub record IsSureGroup {S : Type 0} (facts : S → StoreFacts) (s : SessionState S) (direction : Direction)
    (cs : List Change) : Type 0 where
  pub exact : IsExact facts s
  pub none_comes_in : NoneComesIn (map (directed direction) cs)
  pub in_memory : AreInMemory (map (directed direction) cs) (cache_of s)

-- whether there is a newest entry, and it is
abbrev pub IsSure : {S : Type 0} → (S → StoreFacts) → SessionState S → Direction → List LogEntry → Type 0
IsSure facts s direction [] = ⊥
IsSure facts s direction (entries.One c ∷ es) = IsSureKind facts s direction (kind_of_change c)
IsSure facts s direction (entries.Group cs ∷ es) = IsSureGroup facts s direction cs
