-- Edits that nothing refuses, in any document: it stays valid, and no block changes but the root and some branches.
use Rattle.std.proofs.Common.{◌≡◌, ℕ, ◌+◌, ◌<◌, ◌≤◌, ◌&&◌, ◌==◌, List, [], ◌∷◌, length, None, refl, sym, subst, ◌∙◌, inl, inr, arith, ltb-false, eqb-true}
use Rattle.std.proofs.lemmas.Bool.{cases_Bool, cond-true, cond-false, true≢false}
use Rattle.std.specs.List.{Contains}
use Rattle.geos_model.specs.Refusal.{first_refusal}
use Rattle.geos_model.specs.Document.{Document, IsValid}
use Rattle.geos_model.specs.Chain.{free_handles, new_handles}
use Rattle.geos_model.specs.ChainLaws.{AreNew}
use Rattle.geos_model.specs.declared.fault.Fault.TheVariants.{NoHandles}
use Rattle.geos_model.proofs.Refusals.{none_applies, or_none}
use Rattle.geos_model.proofs.BlockLists.{put_elsewhere, put_map_block}
use Rattle.geos_model.proofs.ChainCopies.{new-new}
use Rattle.geos_model.specs.Pieces.{BranchPiece}
use Rattle.geos_model.specs.LargeBlocks.{root_at}
use Rattle.geos_model.specs.LargeWindow.{window, with_window, elements_replaced, elements_overwritten}
use Rattle.geos_model.specs.LargeEdits.{new_array_blocks, cut_elements, element_count, run_places, large_created, large_inserted, large_set, large_deleted, create_large_conditions, insert_large_conditions, set_large_conditions, delete_large_conditions}
use Rattle.geos_model.specs.LargeDocumentLaws.{StaysBeside, ChangesArray, replacing_looks, set_looks}
use Rattle.geos_model.proofs.WindowPuts.{window-put, window-stays}
use Rattle.geos_model.proofs.RunPuts.{IsRunAccepted, run-valid, run-stays}
use Rattle.geos_model.proofs.AcceptedEdits.{IsAccepted, insert-accepted, delete-accepted, set-accepted, set-count, run-accepted}
use Rattle.geos_model.proofs.Creating.{array-created, two_of}

-- Elements in the place of others.

pub replaced-valid : (d : Document) (b i j : ℕ) (new : BranchPiece) → i ≤ j → IsAccepted d b i j new → IsValid d → IsValid (elements_replaced d b i j new)
unfolding elements_replaced
replaced-valid d b i j new order is valid =
    let nothing = (i == j) && (length new == 0) in
    elim (cases_Bool nothing) [
      | inl none ↦ subst IsValid (sym (cond-true nothing d (with_window d b (window d b i j new)) none)) valid
      | inr some ↦
          subst IsValid (sym (cond-false nothing d (with_window d b (window d b i j new)) some)) (window-put d b i j new is.root order (is.may some) valid is.fit).valid
    ]

-- where nothing is edited all stays
nothing_changes : (d : Document) (b : ℕ) (ks : List ℕ) → ChangesArray d d b ks
nothing_changes d b ks = record { stays = record { map_block = refl; blocks = λ h live other. refl }; attributes = refl }

pub replaced-stays : (d : Document) (b i j : ℕ) (new : BranchPiece) → i ≤ j → IsAccepted d b i j new
    → ChangesArray d (elements_replaced d b i j new) b (replacing_looks d b i j new)
unfolding elements_replaced
replaced-stays d b i j new order is =
    let nothing = (i == j) && (length new == 0) in
    let stays : Document → Type 0 = λ e. ChangesArray d e b (replacing_looks d b i j new) in
    elim (cases_Bool nothing) [
      | inl none ↦ subst stays (sym (cond-true nothing d (with_window d b (window d b i j new)) none)) (nothing_changes d b (replacing_looks d b i j new))
      | inr some ↦ subst stays (sym (cond-false nothing d (with_window d b (window d b i j new)) some)) (window-stays d b i j new is.root order (is.may some))
    ]

-- Elements of one size written over.

pub overwritten-valid : (d : Document) (b i : ℕ) (new : BranchPiece) → IsRunAccepted d b i new → IsValid d → IsValid (elements_overwritten d b i new)
unfolding elements_overwritten
overwritten-valid d b i [] is valid = valid
overwritten-valid d b i (x ∷ new) is valid =
    let nothing = length (x ∷ new) == 0 in
    elim (cases_Bool nothing) [
      | inl none ↦ (let never = eqb-true (length (x ∷ new)) 0 none in absurd (omega arith))
      | inr some ↦ subst IsValid (sym (cond-false nothing d _ some)) (run-valid d b i (x ∷ new) is (omega arith) valid)
    ]

pub overwritten-stays : (d : Document) (b i : ℕ) (new : BranchPiece) → IsRunAccepted d b i new
    → ChangesArray d (elements_overwritten d b i new) b (run_places (root_at d b) i (length new))
unfolding elements_overwritten
overwritten-stays d b i [] is = nothing_changes d b []
overwritten-stays d b i (x ∷ new) is =
    let nothing = length (x ∷ new) == 0 in
    elim (cases_Bool nothing) [
      | inl none ↦ (let never = eqb-true (length (x ∷ new)) 0 none in absurd (omega arith))
      | inr some ↦
          subst (λ (e : Document). ChangesArray d e b (run_places (root_at d b) i (length (x ∷ new)))) (sym (cond-false nothing d _ some))
          (run-stays d b i (x ∷ new) is (omega arith))
    ]

-- The edits.

pub created-valid : (d : Document) (uid size : ℕ) → IsValid d → uid < 65536 → first_refusal (create_large_conditions d size) ≡ None → IsValid (large_created d uid size)
created-valid d uid size valid small none = (array-created d uid size valid small none).valid

pub inserted-valid : (d : Document) (b i : ℕ) (bytes : List ℕ) → IsValid d → first_refusal (insert_large_conditions d b i bytes) ≡ None → IsValid (large_inserted d b i bytes)
inserted-valid d b i bytes valid none =
    replaced-valid d b i i (cut_elements (root_at d b).size bytes) (omega arith) (insert-accepted d b i bytes none) valid

pub deleted-valid : (d : Document) (b i n : ℕ) → IsValid d → first_refusal (delete_large_conditions d b i n) ≡ None → IsValid (large_deleted d b i n)
deleted-valid d b i n valid none = replaced-valid d b i (i + n) [] (omega arith) (delete-accepted d b i n none) valid

pub set-valid : (d : Document) (b i : ℕ) (bytes : List ℕ) → IsValid d → first_refusal (set_large_conditions d b i bytes) ≡ None → IsValid (large_set d b i bytes)
set-valid d b i bytes valid none =
    let vary = (root_at d b).size == 0 in
    let replaced : Document = elements_replaced d b i (i + 1) (bytes ∷ []) in
    let over : Document = elements_overwritten d b i (cut_elements (root_at d b).size bytes) in
    elim (cases_Bool vary) [
      | inl any ↦ subst IsValid (sym (cond-true vary replaced over any)) (replaced-valid d b i (i + 1) (bytes ∷ []) (omega arith) (set-accepted d b i bytes any none) valid)
      | inr one ↦ subst IsValid (sym (cond-false vary replaced over one)) (overwritten-valid d b i (cut_elements (root_at d b).size bytes) (run-accepted d b i bytes one none) valid)
    ]

pub created-stays : (d : Document) (uid size : ℕ) → first_refusal (create_large_conditions d size) ≡ None → StaysBeside d (large_created d uid size) []
unfolding large_created
created-stays d uid size none =
    let hs : List ℕ = new_handles d 2 in
    let enough = ltb-false (length (free_handles d)) 2 (or_none (none_applies (create_large_conditions d size) none NoHandles refl)).0 in
    let fresh : AreNew d 2 hs = new-new d 2 enough in
    record {
      map_block = put_map_block d (new_array_blocks d uid size);
      blocks = λ h live other.
          put_elsewhere d (new_array_blocks d uid size) h (λ there. true≢false (sym live ∙ fresh.not_live h (subst (λ xs. Contains xs h) (sym (two_of hs fresh.as_many)) there)));
    }

pub inserted-stays : (d : Document) (b i : ℕ) (bytes : List ℕ) → first_refusal (insert_large_conditions d b i bytes) ≡ None
    → ChangesArray d (large_inserted d b i bytes) b (replacing_looks d b i i (cut_elements (root_at d b).size bytes))
inserted-stays d b i bytes none = replaced-stays d b i i (cut_elements (root_at d b).size bytes) (omega arith) (insert-accepted d b i bytes none)

pub deleted-stays : (d : Document) (b i n : ℕ) → first_refusal (delete_large_conditions d b i n) ≡ None
    → ChangesArray d (large_deleted d b i n) b (replacing_looks d b i (i + n) [])
deleted-stays d b i n none = replaced-stays d b i (i + n) [] (omega arith) (delete-accepted d b i n none)

pub set-stays : (d : Document) (b i : ℕ) (bytes : List ℕ) → first_refusal (set_large_conditions d b i bytes) ≡ None
    → ChangesArray d (large_set d b i bytes) b (set_looks d b i bytes)
set-stays d b i bytes none =
    let vary = (root_at d b).size == 0 in
    let new : BranchPiece = cut_elements (root_at d b).size bytes in
    let replaced : Document = elements_replaced d b i (i + 1) (bytes ∷ []) in
    let over : Document = elements_overwritten d b i new in
    let window_looks : List ℕ = replacing_looks d b i (i + 1) (bytes ∷ []) in
    let run_looks : List ℕ = run_places (root_at d b) i (element_count (root_at d b).size bytes) in
    let stays : Document → List ℕ → Type 0 = λ e ks. ChangesArray d e b ks in
    elim (cases_Bool vary) [
      | inl any ↦
          subst (λ (e : Document). stays e (set_looks d b i bytes)) (sym (cond-true vary replaced over any))
          (subst (stays replaced) (sym (cond-true vary window_looks run_looks any))
          (replaced-stays d b i (i + 1) (bytes ∷ []) (omega arith) (set-accepted d b i bytes any none)))
      | inr one ↦
          subst (λ (e : Document). stays e (set_looks d b i bytes)) (sym (cond-false vary replaced over one))
          (subst (stays over) (sym (cond-false vary window_looks run_looks one))
          (subst (λ (n : ℕ). stays over (run_places (root_at d b) i n)) (sym (set-count d b i bytes one none)) (overwritten-stays d b i new (run-accepted d b i bytes one none))))
    ]
