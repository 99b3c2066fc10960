-- Why a comparison ends early.
use Rattle.std.specs.Prelude.{◌≡◌, ℕ, List, true, IsTrue}
use Rattle.vm_store.specs.Facts.{StoreFacts, FailedSince}
use Rattle.geos_model.specs.Document.{is_valid_body}
use Rattle.geos_model.specs.Image.{image}
use Rattle.geos_model.specs.declared.command.Body.{Body}
use Rattle.geos_model.specs.declared.fault.Fault.{Fault}
use Rattle.geos_model.specs.declared.fault.Fault.TheVariants.{Damaged, Memory, File}
use Rattle.document_diff.specs.declared.fault.DiffFault.{DiffFault}
use Rattle.document_diff.specs.declared.fault.DiffFault.TheVariants as diff_faults
use Rattle.document_diff.specs.declared.fault.Side.{Side}
use Rattle.document_diff.specs.declared.fault.Side.TheVariants as sides

abbrev pub diff_out_of_memory : DiffFault
diff_out_of_memory = diff_faults.Memory

-- how a fault of one of the files is told
abbrev pub side_fault : Side → Fault → DiffFault
side_fault side Memory = diff_faults.Memory
side_fault side File = diff_faults.File side
side_fault side fault = diff_faults.Damaged side

-- a reading failed: there is no memory, the store failed in this very call, or it isn't honest
abbrev pub IsBlockRefusal : StoreFacts → StoreFacts → Fault → Type 0
IsBlockRefusal old new Memory = Unit {0}
IsBlockRefusal old new File = FailedSince old new
IsBlockRefusal old new fault = IsTrue old.honest → ⊥

-- an image isn't read: there is no memory, or it is that of no body that can be
abbrev pub IsImageRefusal : List ℕ → Fault → Type 0
IsImageRefusal bytes Memory = Unit {0}
IsImageRefusal bytes Damaged = (body : Body) → is_valid_body body ≡ true → image body ≡ bytes → ⊥
IsImageRefusal bytes fault = ⊥

-- Why a comparison ends early, by what both stores were when the call began and are now: there is no memory; the store
-- of this side failed in this very call, or isn't honest; the writer failed.
abbrev pub IsDiffRefusal : StoreFacts → StoreFacts → StoreFacts → StoreFacts → DiffFault → Type 0
IsDiffRefusal old old_now new new_now diff_faults.Memory = Unit {0}
IsDiffRefusal old old_now new new_now (diff_faults.File sides.Old) = FailedSince old old_now
IsDiffRefusal old old_now new new_now (diff_faults.File sides.New) = FailedSince new new_now
IsDiffRefusal old old_now new new_now (diff_faults.Damaged sides.Old) = IsTrue old.honest → ⊥
IsDiffRefusal old old_now new new_now (diff_faults.Damaged sides.New) = IsTrue new.honest → ⊥
IsDiffRefusal old old_now new new_now diff_faults.Write = Unit {0}

-- whatever became of the stores: there is no memory, or the writer failed
abbrev pub IsOwnRefusal : DiffFault → Type 0
IsOwnRefusal diff_faults.Memory = Unit {0}
IsOwnRefusal diff_faults.Write = Unit {0}
IsOwnRefusal fault = ⊥

abbrev pub IsDiffWriteFault : DiffFault → Type 0
IsDiffWriteFault fault = fault ≡ diff_faults.Write
