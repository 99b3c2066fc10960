-- An edit that stays within one branch, by what is planned for it.
use Rattle.std.proofs.Common.{◌≡◌, ℕ, ◌≤◌, true, false, ◌==◌, ◌&&◌, List, [], ◌∷◌, length, Result, Ok, Err, MatchResult, sym, ap, ◌∙◌, inl, inr}
use Rattle.geos_model.specs.Document.{Document}
use Rattle.geos_model.specs.ChangedBlocks.{replaced_blocks}
use Rattle.geos_model.specs.declared.fault.Fault.{Fault}
use Rattle.geos_model.specs.LargeBlocks.{root_at}
use Rattle.geos_model.specs.LargeEdits.{on_window}
use Rattle.geos_model.specs.LargeLayout.{total_count}
use Rattle.geos_model.specs.LargeWindow.{are_branches, elements_replaced}
use Rattle.geos_model.specs.Pieces.{BranchPiece}
use Rattle.geos_model.proofs.WindowPuts.{HasRoot}
use Rattle.vm_blocks.specs.declared.change.Change.{Change}
use Rattle.vm_chains.specs.Answers.{AnswersChain}
use Rattle.vm_chains.specs.Walking.{Stops}
use Rattle.large_arrays.specs.EditPlans.{PlansLargeEdit}
use Rattle.large_bodies.specs.SizedElements.{have_size}
use Rattle.large_arrays.specs.Within.{StaysWithin, place_within}
use Rattle.large_arrays.specs.WithinPlans.{IsPlannedWithin}
use Rattle.large_arrays.proofs.EditAnswers.{planned-window, stopped-window}
use Rattle.large_arrays.proofs.EditRefusals.{are_looked_at}
use Rattle.large_arrays.proofs.WithinWindows.{within-looked, within-planned}

module _ (d : Document) (b i j : ℕ) (new : BranchPiece) (root : HasRoot d b) (order : i ≤ j) (low : j ≤ total_count (root_at d b)) (sized : have_size (root_at d b).size new ≡ true)
    (stays : StaysWithin (root_at d b) i j (length new)) (some : ((i == j) && (length new == 0)) ≡ false) where
  same-branches : are_branches d b (root_at d b) (place_within (root_at d b) i j ∷ []) ≡ are_looked_at d b i j new
  same-branches = sym (ap (are_branches d b (root_at d b)) (within-looked d b i j new root.found order low sized stays))

  pub answered-within : {A : Type 0} (items : A → List Change) (lacks : Fault → Type 0) (r : Result A Fault)
      → MatchResult r (λ changes. IsPlannedWithin d b i j new (items changes)) (Stops lacks (are_branches d b (root_at d b) (place_within (root_at d b) i j ∷ []) ≡ false))
      → AnswersChain lacks (on_window true d b i j new) (λ changes. PlansLargeEdit d (elements_replaced d b i j new) (replaced_blocks d b i j new) (items changes)) r
  answered-within items lacks (Ok changes) is =
      planned-window d b i j new some items lacks lacks (Ok changes) root order (λ fault lack. lack) (sym same-branches ∙ is.there)
      (within-planned d b i j new root.found order low sized stays (items changes) is.planned)
  answered-within items lacks (Err fault) (inl lack) = inl lack
  answered-within items lacks (Err fault) (inr bad) = stopped-window d b i j new some lacks fault (inr (bad.0, sym same-branches ∙ bad.1))
