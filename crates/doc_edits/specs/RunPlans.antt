-- Edits that replace a run of bytes: how they are planned, recorded and made in one.
use Rattle.std.specs.Prelude.{◌≡◌, ◌⊎◌, ℕ, Bool, true, false, List, [], MatchResult, Option, None, Some, Result, Ok, Err, length}
use Rattle.geos_model.specs.declared.command.Done.{Done}
use Rattle.geos_model.specs.declared.command.Done.TheVariants.{Nothing}
use Rattle.geos_model.specs.declared.command.Edit.{Edit}
use Rattle.geos_model.specs.declared.command.Edit.TheVariants as edits
use Rattle.geos_model.specs.declared.fault.Fault.{Fault}
use Rattle.geos_model.specs.declared.handle.ChunkHandle.{ChunkHandle}
use Rattle.geos_model.specs.declared.handle.VmHandle.{VmHandle}
use Rattle.vm_store.specs.Facts.{StoreFacts}
use Rattle.vm_blocks.specs.Changes.{after_change}
use Rattle.vm_blocks.specs.Preparing.{IsApplied}
use Rattle.vm_blocks.specs.State.{CacheState}
use Rattle.vm_blocks.specs.declared.change.Change.{Change}
use Rattle.vm_blocks.specs.declared.run.Run.{Run}
use Rattle.doc_edits.specs.Planning.{PlansEdit}

-- whether an edit replaces a run of bytes by bytes that it brings

abbrev pub is_run_edit : Edit → Bool
is_run_edit (edits.WriteRaw b at bytes) = true
is_run_edit (edits.SpliceRaw b at n bytes) = true
is_run_edit (edits.Delete b c at n) = true
is_run_edit (edits.Write b c at bytes) = true
is_run_edit (edits.Splice b c at n bytes) = true
is_run_edit edit = false

-- the run lies in this block or chunk, begins there, has so many bytes, and these come in its place
pub record IsRun (run : Run) (b : VmHandle) (c : Option ChunkHandle) (from n : ℕ) (bytes : List ℕ) : Type 0 where
  pub block : run.block ≡ b
  pub chunk : run.chunk ≡ c
  pub at : run.at ≡ from
  pub count : run.count ≡ n
  pub new : run.new.now ≡ bytes

-- the edit replaces this run
abbrev pub ReplacesRun : Edit → Run → Type 0
ReplacesRun (edits.WriteRaw b at bytes) run = IsRun run b None at (length bytes) bytes
ReplacesRun (edits.SpliceRaw b at n bytes) run = IsRun run b None at n bytes
ReplacesRun (edits.Delete b c at n) run = IsRun run b (Some c) at n []
ReplacesRun (edits.Write b c at bytes) run = IsRun run b (Some c) at (length bytes) bytes
ReplacesRun (edits.Splice b c at n bytes) run = IsRun run b (Some c) at n bytes
ReplacesRun edit run = ⊥

-- a plan of a change that answers nothing
abbrev pub planned_as : Change → Result (Unit {0}) Fault → Result (Change × Done) Fault
planned_as change (Ok _) = Ok (change, Nothing)
planned_as change (Err fault) = Err fault

-- An edit was made so: once its block was loaded its change was its plan, and was recorded and made.
pub record IsMadeAsRun {S R : Type 0} (facts : S → StoreFacts) (records : R → Change → R → Type 0) (edit : Edit)
    (old new : CacheState S) (log log' : R) : Type 0 where
  pub loaded : CacheState S
  pub change : Change
  pub plans : PlansEdit facts old loaded edit (Ok (change, Nothing))
  pub makes : IsApplied facts change loaded new
  pub disk : new.disk ≡ loaded.disk
  pub document : new.document ≡ after_change change loaded.document
  pub recorded : records log change log'

-- What making an edit comes to that replaces a run. Where it is refused, as its plan is, nothing is recorded; that there
-- is no memory for the record is one of the refusals.

abbrev pub IsRefusedAsRun : {S R : Type 0} → (S → StoreFacts) → (R → R → Type 0) → Edit → CacheState S → CacheState S
    → R → R → Fault → Type 0
IsRefusedAsRun facts keeps edit old new log log' fault =
    PlansEdit facts old new edit (Err fault) × ((log' ≡ log) ⊎ keeps log log')

abbrev pub TriesEdit : {S R : Type 0} → (S → StoreFacts) → (R → Change → R → Type 0) → (R → R → Type 0) → Edit
    → CacheState S → CacheState S → R → R → Result (Unit {0}) Fault → Type 0
TriesEdit facts records keeps edit old new log log' result =
    MatchResult result
    (λ _. IsMadeAsRun facts records edit old new log log')
    (IsRefusedAsRun facts keeps edit old new log log')

-- So of any edit: of one that replaces no run that is said, and nothing is done.

abbrev pub IsMadeAsRunOrNone : {S R : Type 0} → (S → StoreFacts) → (R → Change → R → Type 0) → Edit → CacheState S
    → CacheState S → R → R → Bool → Type 0
IsMadeAsRunOrNone facts records edit old new log log' true =
    (is_run_edit edit ≡ true) × IsMadeAsRun facts records edit old new log log'
IsMadeAsRunOrNone facts records edit old new log log' false = (is_run_edit edit ≡ false) × (new ≡ old) × (log' ≡ log)

abbrev pub MakesAsRun : {S R : Type 0} → (S → StoreFacts) → (R → Change → R → Type 0) → (R → R → Type 0) → Edit
    → CacheState S → CacheState S → R → R → Result Bool Fault → Type 0
MakesAsRun facts records keeps edit old new log log' result =
    MatchResult result
    (IsMadeAsRunOrNone facts records edit old new log log')
    (IsRefusedAsRun facts keeps edit old new log log')
