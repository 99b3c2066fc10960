-- Each edit that nothing refuses reaches the document after it by its places, so that these can be put together and
-- taken back.
use Rattle.std.proofs.Common.{◌≡◌, ℕ, true, ◌+◌, ◌<◌, ◌≤◌, ◌&&◌, ◌==◌, List, [], ◌∷◌, ◌++◌, length, None, refl, sym, ap, subst, ◌∙◌, inl, inr, arith, ltb-false, eqb-true}
use Rattle.std.proofs.lemmas.Bool.{cases_Bool, cond-true, cond-false}
use Rattle.std.proofs.lemmas.List.{map-append}
use Rattle.geos_model.specs.ElementArray.{all_distinct}
use Rattle.geos_model.specs.Refusal.{first_refusal}
use Rattle.geos_model.specs.Document.{Block, Document, handles_of, with_block, without_block, with_blocks, without_blocks}
use Rattle.geos_model.specs.Chain.{free_handles, new_handles}
use Rattle.geos_model.specs.Places.{block_place, large_places}
use Rattle.geos_model.specs.declared.place.Place.{Place}
use Rattle.geos_model.specs.declared.fault.Fault.TheVariants.{NoHandles}
use Rattle.geos_model.proofs.Refusals.{none_applies, or_none}
use Rattle.geos_model.proofs.Places.{at_block, at_put, at_taken}
use Rattle.geos_model.proofs.Reaching.{Reaches, reached, reaches-append}
use Rattle.geos_model.proofs.ChainCopies.{new-new}
use Rattle.geos_model.specs.Pieces.{BranchPiece}
use Rattle.geos_model.specs.LargeLayout.{Root}
use Rattle.geos_model.specs.LargeBlocks.{root_at, pieces_at}
use Rattle.geos_model.specs.LargeWindow.{Window, window, window_first, window_end, window_pieces, freed_handles, with_window, elements_replaced, elements_overwritten}
use Rattle.geos_model.specs.LargeEdits.{new_array_blocks, cut_elements, element_count, run_places, large_created, large_inserted, large_set, large_deleted, create_large_conditions, insert_large_conditions, set_large_conditions, delete_large_conditions}
use Rattle.geos_model.specs.LargeBlocks.{handles_at}
use Rattle.geos_model.specs.ChangedBlocks.{replaced_blocks, overwritten_blocks, created_blocks, inserted_blocks, set_blocks, deleted_blocks}
use Rattle.geos_model.specs.LargePlaces.{ChangesBlocks}
use Rattle.geos_model.proofs.PutBranches.{put_in, put-handles}
use Rattle.geos_model.proofs.WindowPuts.{HasRoot, MayReplace, window-named, window-can, window-once}
use Rattle.geos_model.proofs.RunPuts.{IsRunAccepted, run_blocks, run-handles, run-looked, run-named}
use Rattle.geos_model.proofs.AcceptedEdits.{IsAccepted, insert-accepted, delete-accepted, set-accepted, set-count, run-accepted}
use Rattle.geos_model.proofs.Creating.{two_of}

-- Blocks that are put in and taken out.

pub blocks-put : (d : Document) (ps : List (ℕ × Block)) → Reaches (large_places (handles_of ps)) d (with_blocks d ps)
blocks-put d [] = refl
blocks-put d (p ∷ ps) = (with_block d p.0 p.1, at_put d p.0 p.1, tt, blocks-put (with_block d p.0 p.1) ps)

pub blocks-taken : (d : Document) (hs : List ℕ) → Reaches (large_places hs) d (without_blocks d hs)
blocks-taken d [] = refl
blocks-taken d (h ∷ hs) = (without_block d h, at_taken d h, tt, blocks-taken (without_block d h) hs)

-- A window.
window-reaches : (d : Document) (b i j : ℕ) (new : BranchPiece) → HasRoot d b → i ≤ j → MayReplace d b i j new
    → let w = window d b i j new in Reaches (large_places (freed_handles w ++ b ∷ w.news)) d (with_window d b w)
unfolding window
window-reaches d b i j new root order may =
    let r : Root = root_at d b in
    let pieces : List BranchPiece = pieces_at d r in
    let first : ℕ = window_first r.size pieces i j new in
    let behind : ℕ = window_end r.size pieces i j new in
    let placed : List BranchPiece = window_pieces r.size pieces i j new in
    let w : Window = window d b i j new in
    let freed : List ℕ = freed_handles w in
    let taken : Document = without_blocks d freed in
    let after : Document = with_window d b w in
    let blocks : List (ℕ × Block) = put_in d b r pieces first behind w.news freed placed in
    let are : handles_of blocks ≡ b ∷ w.news =
    put-handles d b r pieces first behind w.news freed placed (window-can d b i j new root order may) (window-named d b i j new root order may) in
    subst (λ (ps : List Place). Reaches ps d after) (sym (map-append block_place freed (b ∷ w.news)))
    (reaches-append (large_places freed) (large_places (b ∷ w.news)) d taken after (blocks-taken d freed)
    (subst (λ (hs : List ℕ). Reaches (large_places hs) taken after) are (blocks-put taken blocks)))

-- A block that becomes what it is.
pub same-reaches : (d : Document) (h : ℕ) → Reaches (large_places (h ∷ [])) d d
same-reaches d h = (d, at_block d d h refl (λ x other. refl), tt, refl)

-- Elements in the place of others.
pub replaced-reaches : (d : Document) (b i j : ℕ) (new : BranchPiece) → i ≤ j → IsAccepted d b i j new
    → Reaches (large_places (replaced_blocks d b i j new)) d (elements_replaced d b i j new)
unfolding elements_replaced
replaced-reaches d b i j new order is =
    let nothing = (i == j) && (length new == 0) in
    let w : Window = window d b i j new in
    let some_blocks : List ℕ = freed_handles w ++ b ∷ w.news in
    let to : List ℕ → Document → Type 0 = λ hs e. Reaches (large_places hs) d e in
    elim (cases_Bool nothing) [
      | inl none ↦
          subst (to (replaced_blocks d b i j new)) (sym (cond-true nothing d (with_window d b w) none))
          (subst (λ (hs : List ℕ). to hs d) (sym (cond-true nothing (b ∷ []) some_blocks none)) (same-reaches d b))
      | inr some ↦
          subst (to (replaced_blocks d b i j new)) (sym (cond-false nothing d (with_window d b w) some))
          (subst (λ (hs : List ℕ). to hs (with_window d b w)) (sym (cond-false nothing (b ∷ []) some_blocks some))
          (window-reaches d b i j new is.root order (is.may some)))
    ]

-- Elements of one size written over.
pub overwritten-reaches : (d : Document) (b i : ℕ) (new : BranchPiece) → IsRunAccepted d b i new
    → Reaches (large_places (overwritten_blocks d b i (length new))) d (elements_overwritten d b i new)
unfolding elements_overwritten
overwritten-reaches d b i [] is = same-reaches d b
overwritten-reaches d b i (x ∷ new) is =
    let nothing = length (x ∷ new) == 0 in
    let r : Root = root_at d b in
    let changed : List ℕ = handles_at r (run_places r i (length (x ∷ new))) in
    elim (cases_Bool nothing) [
      | inl none ↦ (let never = eqb-true (length (x ∷ new)) 0 none in absurd (omega arith))
      | inr some ↦
          (let more : 0 < length (x ∷ new) = omega arith in
          let blocks : List (ℕ × Block) = run_blocks d b i (x ∷ new) is more in
          subst (λ (hs : List ℕ). Reaches (large_places hs) d (elements_overwritten d b i (x ∷ new))) (sym (cond-false nothing (b ∷ []) changed some))
          (subst (λ (e : Document). Reaches (large_places changed) d e) (sym (cond-false nothing d _ some))
          (subst (λ (hs : List ℕ). Reaches (large_places hs) d (with_blocks d blocks)) (run-handles d b i (x ∷ new) is more ∙ sym (run-looked d b i (x ∷ new) is more))
          (blocks-put d blocks))))
    ]

-- The edits.

pub created-reaches : (d : Document) (uid size : ℕ) → first_refusal (create_large_conditions d size) ≡ None
    → Reaches (large_places (created_blocks d)) d (large_created d uid size)
unfolding large_created
created-reaches d uid size none =
    let enough = ltb-false (length (free_handles d)) 2 (or_none (none_applies (create_large_conditions d size) none NoHandles refl)).0 in
    let fresh = new-new d 2 enough in
    subst (λ (hs : List ℕ). Reaches (large_places hs) d (with_blocks d (new_array_blocks d uid size))) (sym (two_of (new_handles d 2) fresh.as_many))
    (blocks-put d (new_array_blocks d uid size))

pub inserted-reaches : (d : Document) (b i : ℕ) (bytes : List ℕ) → first_refusal (insert_large_conditions d b i bytes) ≡ None
    → Reaches (large_places (inserted_blocks d b i bytes)) d (large_inserted d b i bytes)
inserted-reaches d b i bytes none = replaced-reaches d b i i (cut_elements (root_at d b).size bytes) (omega arith) (insert-accepted d b i bytes none)

pub deleted-reaches : (d : Document) (b i n : ℕ) → first_refusal (delete_large_conditions d b i n) ≡ None
    → Reaches (large_places (deleted_blocks d b i n)) d (large_deleted d b i n)
deleted-reaches d b i n none = replaced-reaches d b i (i + n) [] (omega arith) (delete-accepted d b i n none)

pub set-reaches : (d : Document) (b i : ℕ) (bytes : List ℕ) → first_refusal (set_large_conditions d b i bytes) ≡ None
    → Reaches (large_places (set_blocks d b i bytes)) d (large_set d b i bytes)
set-reaches d b i bytes none =
    let r : Root = root_at d b in
    let vary = r.size == 0 in
    let new : BranchPiece = cut_elements r.size bytes in
    let replaced : Document = elements_replaced d b i (i + 1) (bytes ∷ []) in
    let over : Document = elements_overwritten d b i new in
    let window_blocks : List ℕ = replaced_blocks d b i (i + 1) (bytes ∷ []) in
    let branches : ℕ → List ℕ = λ n. overwritten_blocks d b i n in
    let to : List ℕ → Document → Type 0 = λ hs e. Reaches (large_places hs) d e in
    elim (cases_Bool vary) [
      | inl any ↦
          subst (to (set_blocks d b i bytes)) (sym (cond-true vary replaced over any))
          (subst (λ (hs : List ℕ). to hs replaced) (sym (cond-true vary window_blocks (branches (element_count r.size bytes)) any))
          (replaced-reaches d b i (i + 1) (bytes ∷ []) (omega arith) (set-accepted d b i bytes any none)))
      | inr one ↦
          subst (to (set_blocks d b i bytes)) (sym (cond-false vary replaced over one))
          (subst (λ (hs : List ℕ). to hs over) (sym (cond-false vary window_blocks (branches (element_count r.size bytes)) one))
          (subst (λ (n : ℕ). to (branches n) over) (sym (set-count d b i bytes one none)) (overwritten-reaches d b i new (run-accepted d b i bytes one none))))
    ]

-- Each block is told once.

pub replaced-once : (d : Document) (b i j : ℕ) (new : BranchPiece) → i ≤ j → IsAccepted d b i j new → all_distinct (replaced_blocks d b i j new) ≡ true
replaced-once d b i j new order is =
    let nothing = (i == j) && (length new == 0) in
    let w : Window = window d b i j new in
    let some_blocks : List ℕ = freed_handles w ++ b ∷ w.news in
    elim (cases_Bool nothing) [
      | inl none ↦ ap all_distinct (cond-true nothing (b ∷ []) some_blocks none)
      | inr some ↦ ap all_distinct (cond-false nothing (b ∷ []) some_blocks some) ∙ window-once d b i j new is.root order (is.may some)
    ]

pub overwritten-once : (d : Document) (b i : ℕ) (new : BranchPiece) → IsRunAccepted d b i new → all_distinct (overwritten_blocks d b i (length new)) ≡ true
overwritten-once d b i [] is = refl
overwritten-once d b i (x ∷ new) is =
    let nothing = length (x ∷ new) == 0 in
    let changed : List ℕ = handles_at (root_at d b) (run_places (root_at d b) i (length (x ∷ new))) in
    elim (cases_Bool nothing) [
      | inl none ↦ (let never = eqb-true (length (x ∷ new)) 0 none in absurd (omega arith))
      | inr some ↦
          (let more : 0 < length (x ∷ new) = omega arith in
          ap all_distinct (cond-false nothing (b ∷ []) changed some ∙ run-looked d b i (x ∷ new) is more) ∙ (run-named d b i (x ∷ new) is more).once)
    ]

set-once : (d : Document) (b i : ℕ) (bytes : List ℕ) → first_refusal (set_large_conditions d b i bytes) ≡ None → all_distinct (set_blocks d b i bytes) ≡ true
set-once d b i bytes none =
    let r : Root = root_at d b in
    let vary = r.size == 0 in
    let new : BranchPiece = cut_elements r.size bytes in
    let window_blocks : List ℕ = replaced_blocks d b i (i + 1) (bytes ∷ []) in
    let branches : ℕ → List ℕ = λ n. overwritten_blocks d b i n in
    elim (cases_Bool vary) [
      | inl any ↦
          ap all_distinct (cond-true vary window_blocks (branches (element_count r.size bytes)) any)
          ∙ replaced-once d b i (i + 1) (bytes ∷ []) (omega arith) (set-accepted d b i bytes any none)
      | inr one ↦
          ap all_distinct (cond-false vary window_blocks (branches (element_count r.size bytes)) one ∙ ap branches (set-count d b i bytes one none))
          ∙ overwritten-once d b i new (run-accepted d b i bytes one none)
    ]

-- So nothing else changes.

pub created-at : (d : Document) (uid size : ℕ) → first_refusal (create_large_conditions d size) ≡ None → ChangesBlocks (created_blocks d) d (large_created d uid size)
created-at d uid size none =
    let enough = ltb-false (length (free_handles d)) 2 (or_none (none_applies (create_large_conditions d size) none NoHandles refl)).0 in
    record {
      places = reached (large_places (created_blocks d)) d (large_created d uid size) (created-reaches d uid size none);
      once = (new-new d 2 enough).once;
    }

pub inserted-at : (d : Document) (b i : ℕ) (bytes : List ℕ) → first_refusal (insert_large_conditions d b i bytes) ≡ None
    → ChangesBlocks (inserted_blocks d b i bytes) d (large_inserted d b i bytes)
inserted-at d b i bytes none = record {
  places = reached (large_places (inserted_blocks d b i bytes)) d (large_inserted d b i bytes) (inserted-reaches d b i bytes none);
  once = replaced-once d b i i (cut_elements (root_at d b).size bytes) (omega arith) (insert-accepted d b i bytes none);
}

pub set-at : (d : Document) (b i : ℕ) (bytes : List ℕ) → first_refusal (set_large_conditions d b i bytes) ≡ None
    → ChangesBlocks (set_blocks d b i bytes) d (large_set d b i bytes)
set-at d b i bytes none = record {
  places = reached (large_places (set_blocks d b i bytes)) d (large_set d b i bytes) (set-reaches d b i bytes none);
  once = set-once d b i bytes none;
}

pub deleted-at : (d : Document) (b i n : ℕ) → first_refusal (delete_large_conditions d b i n) ≡ None
    → ChangesBlocks (deleted_blocks d b i n) d (large_deleted d b i n)
deleted-at d b i n none = record {
  places = reached (large_places (deleted_blocks d b i n)) d (large_deleted d b i n) (deleted-reaches d b i n none);
  once = replaced-once d b i (i + n) [] (omega arith) (delete-accepted d b i n none);
}
