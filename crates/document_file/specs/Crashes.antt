-- What a crash at any moment leaves, over calls in turn.
use Rattle.std.specs.Prelude.{◌≡◌, ◌⊎◌, ℕ, List, [], ◌∷◌, ◌++◌, Option, Some, None, Result, Ok, Err, IsTrue}
use Rattle.vm_store.specs.Facts.{StoreFacts}
use Rattle.geos_model.specs.declared.fault.Fault.{Fault}
use Rattle.document_file.specs.Documents.{Documents}
use Rattle.document_file.specs.Disk.{Disk, recoverable, StandsForOne, IsCrashConsistent, KeepsCommitted, LeavesNoTrace, MayCommit}

-- A call, with the pair that it adds to what a crash may leave, if any. It adds none where it commits nothing, and
-- where it tries to but fails before its last step; else it adds the pair that it tries to commit.
abbrev pub DiskCall : {S : Type 0} → (S → StoreFacts) → Option Documents → Disk S → Disk S → Type 0
DiskCall facts None old new =
    KeepsCommitted facts old new
    ⊎ ((pair : Documents) × (fault : Fault) × MayCommit facts pair old new (Err fault) × LeavesNoTrace facts old new)
DiskCall facts (Some pair) old new = (result : Result (Unit {0}) Fault) × MayCommit facts pair old new result

-- calls in turn, from one disk to another: what each adds, and the disk that it leaves
abbrev pub DiskCalls : {S : Type 0} → (S → StoreFacts) → Disk S → List (Option Documents × Disk S) → Disk S → Type 0
DiskCalls facts old [] new = new ≡ old
DiskCalls facts old ((adds, next) ∷ calls) new = DiskCall facts adds old next × DiskCalls facts next calls new

-- the pairs that they add
abbrev pub pairs_tried : {S : Type 0} → List (Option Documents × Disk S) → List Documents
pairs_tried [] = []
pairs_tried ((None, disk) ∷ calls) = pairs_tried calls
pairs_tried ((Some pair, disk) ∷ calls) = pair ∷ pairs_tried calls

-- What a crash leaves, over calls in turn on an honest store.
pub record CrashLaw {S : Type 0} (facts : S → StoreFacts) : Type 0 where
  -- at any moment since a disk was settled: what might be read then, or a pair that was added since
  pub since : (old new : Disk S) (calls : List (Option Documents × Disk S)) → IsTrue (facts old.store).honest
      → IsCrashConsistent facts old → DiskCalls facts old calls new
      → (c : List ℕ) → (facts new.store).left_since (facts old.store).moment c
      → StandsForOne (pairs_tried calls ++ recoverable old) c
  -- at any moment since a commit was acknowledged: its pair, or one that was added since
  pub acknowledged : (pair : Documents) (old next new : Disk S) (calls : List (Option Documents × Disk S))
      → IsTrue (facts old.store).honest → MayCommit facts pair old next (Ok tt) → DiskCalls facts next calls new
      → (c : List ℕ) → (facts new.store).left_since (facts next.store).moment c
      → StandsForOne (pairs_tried calls ++ pair ∷ []) c
  -- now: what may be read of the last disk
  pub now : (old new : Disk S) (calls : List (Option Documents × Disk S)) → IsTrue (facts old.store).honest
      → IsCrashConsistent facts old → DiskCalls facts old calls new → IsCrashConsistent facts new
