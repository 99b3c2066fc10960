-- What a store has now stands for what was acknowledged.
use Rattle.std.proofs.Common.{◌≡◌, ℕ, IsTrue, List, [], subst, inl, inr}
use Rattle.std.specs.Prelude.{Ok, Result, OnOk}
use Rattle.std.proofs.lemmas.Result.{on_ok_weaker}
use Rattle.vm_store.specs.Facts.{StoreFacts, IsTimely}
use Rattle.geos_model.specs.declared.fault.Fault.{Fault}
use Rattle.file_format.specs.File.{stands}
use Rattle.document_file.specs.Documents.{Documents}
use Rattle.document_file.specs.Disk.{Disk, StandsForOne, IsCrashConsistent, ContentStands, MayCommit}

-- one of no more
one_of_none : (pairs : List Documents) (c : List ℕ) → pairs ≡ [] → StandsForOne pairs c → ⊥
one_of_none pairs c none one = subst (λ ds. StandsForOne ds c) none one

module _ {S : Type 0} (facts : S → StoreFacts) (timely : (store : S) → IsTrue (facts store).honest → IsTimely (facts store)) where
  -- of a settled disk
  pub settled_content : (disk : Disk S) → IsCrashConsistent facts disk → (IsTrue (facts disk.store).honest → disk.in_doubt ≡ []) → ContentStands facts disk
  settled_content disk crash_consistent none so =
      let content = (facts disk.store).content in
      elim (crash_consistent so content (timely disk.store so).now) as (λ _. stands content ≡ Ok (disk.updated, disk.saved)) [
        | inl is ↦ is
        | inr other ↦ absurd (one_of_none disk.in_doubt content (none so) other)
      ]

  -- after a commit that was acknowledged
  pub committed_content : (pair : Documents) (old new : Disk S) (result : Result (Unit {0}) Fault) → MayCommit facts pair old new result → OnOk result (ContentStands facts new)
  committed_content pair old new result commits =
      on_ok_weaker result (λ ok. settled_content new commits.crash_consistent (λ so. (ok (subst IsTrue commits.honest so)).1)) commits.ok
