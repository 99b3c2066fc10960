-- Insertions and deletions of an array that nothing refuses, and elements of any size that are set.
use Rattle.std.proofs.Common.{◌≡◌, ℕ, ◌+◌, ◌-◌, ◌/◌, true, false, ◌==◌, List, [], ◌∷◌, length, None, refl, sym, ap₂, subst, inl, inr, arith, map}
use Rattle.std.proofs.lemmas.Bool.{cases_Bool, cond-true, cond-false, eq-eqb}
use Rattle.std.specs.List.{splice}
use Rattle.geos_model.specs.Refusal.{first_refusal}
use Rattle.geos_model.specs.Document.{Document, IsValid}
use Rattle.geos_model.specs.Pieces.{BranchPiece}
use Rattle.geos_model.specs.LargeLayout.{Root}
use Rattle.geos_model.specs.LargeBlocks.{root_at, pieces_at, IsLargeArray}
use Rattle.geos_model.specs.LargeWindow.{elements_replaced, elements_overwritten}
use Rattle.geos_model.specs.LargeEdits.{cut_elements, element_count, large_inserted, large_set, large_deleted, insert_large_conditions, set_large_conditions, delete_large_conditions}
use Rattle.geos_model.specs.LargeEditLaws.{IsEdited}
use Rattle.geos_model.proofs.GivenElements.{given-one}
use Rattle.large_arrays.proofs.OverwrittenElements.{elements-overwritten}
use Rattle.large_arrays.proofs.WindowEdits.{elements-replaced, replaced-few}
use Rattle.geos_model.proofs.AcceptedEdits.{insert-accepted, delete-accepted, set-accepted, set-count, run-accepted}
use Rattle.geos_model.specs.LargeChangeLaws.{FewChange}
use Rattle.geos_model.proofs.SpreadPlaces.{first-end_none, first-end_one}

pub array-inserted : (d : Document) (b size : ℕ) (elements : BranchPiece) (i : ℕ) (bytes : List ℕ) → IsValid d → IsLargeArray d b size elements
    → first_refusal (insert_large_conditions d b i bytes) ≡ None
    → IsEdited d (large_inserted d b i bytes) b size (splice elements i i (cut_elements size bytes))
array-inserted d b size elements i bytes valid array none =
    let is = insert-accepted d b i bytes none in
    subst (λ (s : ℕ). IsEdited d (large_inserted d b i bytes) b size (splice elements i i (cut_elements s bytes))) array.sized
    (elements-replaced d b size elements i i (cut_elements (root_at d b).size bytes) valid array (omega arith) is)

pub inserted-few : (d : Document) (b size : ℕ) (elements : BranchPiece) (i : ℕ) (bytes : List ℕ) → IsValid d → IsLargeArray d b size elements
    → first_refusal (insert_large_conditions d b i bytes) ≡ None → FewChange d (large_inserted d b i bytes) b
inserted-few d b size elements i bytes valid array none =
    let is = insert-accepted d b i bytes none in
    replaced-few d b size elements i i (cut_elements (root_at d b).size bytes) valid array (omega arith) is
    (inl (first-end_none (map length (pieces_at d (root_at d b))) i))

pub array-deleted : (d : Document) (b size : ℕ) (elements : BranchPiece) (i n : ℕ) → IsValid d → IsLargeArray d b size elements
    → first_refusal (delete_large_conditions d b i n) ≡ None
    → IsEdited d (large_deleted d b i n) b size (splice elements i (i + n) [])
array-deleted d b size elements i n valid array none =
    let is = delete-accepted d b i n none in
    elements-replaced d b size elements i (i + n) [] valid array (omega arith) is

pub deleted-few : (d : Document) (b size : ℕ) (elements : BranchPiece) (i n : ℕ) → IsValid d → IsLargeArray d b size elements
    → first_refusal (delete_large_conditions d b i n) ≡ None → FewChange d (large_deleted d b i n) b
deleted-few d b size elements i n valid array none =
    let is = delete-accepted d b i n none in
    replaced-few d b size elements i (i + n) [] valid array (omega arith) is (inr refl)

pub varying-set : (d : Document) (b size : ℕ) (elements : BranchPiece) (i : ℕ) (bytes : List ℕ) → IsValid d → IsLargeArray d b size elements
    → ((root_at d b).size == 0) ≡ true → first_refusal (set_large_conditions d b i bytes) ≡ None
    → IsEdited d (large_set d b i bytes) b size (splice elements i (i + element_count size bytes) (cut_elements size bytes))
varying-set d b size elements i bytes valid array any none =
    let r : Root = root_at d b in
    let new : BranchPiece = bytes ∷ [] in
    let is = set-accepted d b i bytes any none in
    let new_is : cut_elements r.size bytes ≡ new = given-one r.size bytes any in
    let edited : IsEdited d (elements_replaced d b i (i + 1) new) b size (splice elements i (i + 1) new) =
    elements-replaced d b size elements i (i + 1) new valid array (omega arith) is in
    let one : element_count r.size bytes ≡ 1 = cond-true (r.size == 0) 1 ((length bytes + (r.size - 1)) / r.size) any in
    subst (λ (s : ℕ). IsEdited d (large_set d b i bytes) b size (splice elements i (i + element_count s bytes) (cut_elements s bytes))) array.sized
    (subst (λ (e : Document). IsEdited d e b size (splice elements i (i + element_count r.size bytes) (cut_elements r.size bytes)))
    (sym (cond-true (r.size == 0) (elements_replaced d b i (i + 1) new) (elements_overwritten d b i (cut_elements r.size bytes)) any))
    (subst (λ (xs : BranchPiece). IsEdited d (elements_replaced d b i (i + 1) new) b size xs)
    (ap₂ (λ (n : ℕ) (ys : BranchPiece). splice elements i (i + n) ys) (sym one) (sym new_is)) edited))

pub varying_set-few : (d : Document) (b : ℕ) (elements : BranchPiece) (i : ℕ) (bytes : List ℕ) → IsValid d → IsLargeArray d b 0 elements
    → first_refusal (set_large_conditions d b i bytes) ≡ None → FewChange d (large_set d b i bytes) b
varying_set-few d b elements i bytes valid array none =
    let r : Root = root_at d b in
    let any : (r.size == 0) ≡ true = eq-eqb r.size 0 array.sized in
    let is = set-accepted d b i bytes any none in
    subst (λ (e : Document). FewChange d e b) (sym (cond-true (r.size == 0) (elements_replaced d b i (i + 1) (bytes ∷ [])) (elements_overwritten d b i (cut_elements r.size bytes)) any))
    (replaced-few d b 0 elements i (i + 1) (bytes ∷ []) valid array (omega arith) is
    (inl (first-end_one (map length (pieces_at d r)) i)))

-- Elements that are set where they have one size.
pub even-set : (d : Document) (b size : ℕ) (elements : BranchPiece) (i : ℕ) (bytes : List ℕ) → IsValid d → IsLargeArray d b size elements
    → ((root_at d b).size == 0) ≡ false → first_refusal (set_large_conditions d b i bytes) ≡ None
    → IsEdited d (large_set d b i bytes) b size (splice elements i (i + element_count size bytes) (cut_elements size bytes))
even-set d b size elements i bytes valid array one none =
    let r : Root = root_at d b in
    let new : BranchPiece = cut_elements r.size bytes in
    let is = run-accepted d b i bytes one none in
    let edited : IsEdited d (elements_overwritten d b i new) b size (splice elements i (i + length new) new) =
    elements-overwritten d b size elements i new valid array is in
    subst (λ (s : ℕ). IsEdited d (large_set d b i bytes) b size (splice elements i (i + element_count s bytes) (cut_elements s bytes))) array.sized
    (subst (λ (e : Document). IsEdited d e b size (splice elements i (i + element_count r.size bytes) new))
    (sym (cond-false (r.size == 0) (elements_replaced d b i (i + 1) (bytes ∷ [])) (elements_overwritten d b i new) one))
    (subst (λ (n : ℕ). IsEdited d (elements_overwritten d b i new) b size (splice elements i (i + n) new)) (sym (set-count d b i bytes one none)) edited))

pub array-set : (d : Document) (b size : ℕ) (elements : BranchPiece) (i : ℕ) (bytes : List ℕ) → IsValid d → IsLargeArray d b size elements
    → first_refusal (set_large_conditions d b i bytes) ≡ None
    → IsEdited d (large_set d b i bytes) b size (splice elements i (i + element_count size bytes) (cut_elements size bytes))
array-set d b size elements i bytes valid array none = elim (cases_Bool ((root_at d b).size == 0)) [
  | inl any ↦ varying-set d b size elements i bytes valid array any none
  | inr one ↦ even-set d b size elements i bytes valid array one none
]
