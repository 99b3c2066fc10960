-- Elements of one size of an array that are written over where they are.
use Rattle.std.proofs.Common.{◌≡◌, ℕ, ◌+◌, ◌<◌, true, ◌==◌, List, [], ◌∷◌, length, sym, ap, subst, ◌∙◌, inl, inr, arith}
use Rattle.std.proofs.lemmas.Bool.{cases_Bool, cond-false, eqb-true}
use Rattle.std.proofs.lemmas.List.{take-append-drop}
use Rattle.std.specs.List.{splice}
use Rattle.geos_model.specs.Document.{Document, IsValid, with_blocks}
use Rattle.geos_model.specs.Pieces.{BranchPiece, all_fit, elements_in_pieces, are_spread}
use Rattle.geos_model.specs.LargeLayout.{Root, is_root}
use Rattle.geos_model.specs.Spread.{overwritten}
use Rattle.geos_model.specs.LargeBlocks.{root_at, pieces_at, IsLargeArray}
use Rattle.geos_model.specs.LargeWindow.{elements_overwritten}
use Rattle.geos_model.specs.LargeEditLaws.{IsEdited}
use Rattle.geos_model.proofs.Layouts.{HasLayout, all_sized, array-layout}
use Rattle.geos_model.proofs.SameWeights.{same-fit, same-spread}
use Rattle.geos_model.proofs.Replacing.{AreGood, replaced-edited}
use Rattle.geos_model.proofs.RunPuts.{IsRunAccepted, first, behind, handles, placed, run_blocks, over-elements, over-lengths, over-sized, over_is, run-named, root_is, run-put}
use Rattle.large_arrays.proofs.WindowEdits.{unchanged}

module _ (d : Document) (b size : ℕ) (elements : BranchPiece) (i : ℕ) (new : BranchPiece) (valid : IsValid d) (array : IsLargeArray d b size elements)
    (is : IsRunAccepted d b i new) (some : 0 < length new) where
  abbrev r : Root
  r = root_at d b

  abbrev pieces : List BranchPiece
  pieces = pieces_at d r

  has : HasLayout d b r pieces
  has = array-layout d b size elements valid array

  abbrev j : ℕ
  j = i + length new

  abbrev over : List BranchPiece
  over = overwritten pieces i new

  abbrev f : ℕ
  f = first d b i new is some

  abbrev n : ℕ
  n = behind d b i new is some

  abbrev hs : List ℕ
  hs = handles d b i new is some

  abbrev ps : List BranchPiece
  ps = placed d b i new is some

  abbrev edited : Document
  edited = with_blocks d (run_blocks d b i new is some)

  over_run : splice pieces f n ps ≡ over
  over_run = over_is d b i new is some

  good : AreGood d b r pieces f n hs [] ps
  good =
      let sized = over-sized d b i new is some in
      let lengths = over-lengths d b i new is some in
      record {
        is = ap is_root (root_is d b i new is some) ∙ has.is;
        fit = ap (all_fit r.size) over_run ∙ same-fit r.size pieces over is.one has.sized sized lengths ∙ has.fit;
        sized = ap (all_sized r.size) over_run ∙ sized;
      }

  still_spread : are_spread r.size pieces ≡ true → are_spread r.size (splice pieces f n ps) ≡ true
  still_spread spread =
      ap (are_spread r.size) over_run
      ∙ same-spread r.size pieces over is.one has.sized (over-sized d b i new is some) (over-lengths d b i new is some) ∙ spread

  pub run-edited : IsEdited d edited b size (splice elements i j new)
  run-edited =
      let same : elements_in_pieces (splice pieces f n ps) ≡ splice elements i j new =
      ap elements_in_pieces over_run ∙ over-elements d b i new is some ∙ ap (λ (xs : BranchPiece). splice xs i j new) array.same in
      subst (λ (s : ℕ). IsEdited d edited b s (splice elements i j new)) array.sized
      (subst (λ (xs : BranchPiece). IsEdited d edited b r.size xs) same
      (replaced-edited d b r pieces f n hs [] ps valid has (run-named d b i new is some) edited (run-put d b i new is some valid) good still_spread))

-- Elements of one size in the place of as many others.
pub elements-overwritten : (d : Document) (b size : ℕ) (elements : BranchPiece) (i : ℕ) (new : BranchPiece) → IsValid d → IsLargeArray d b size elements
    → IsRunAccepted d b i new → IsEdited d (elements_overwritten d b i new) b size (splice elements i (i + length new) new)
unfolding elements_overwritten
elements-overwritten d b size elements i [] valid array is =
    let none : i + 0 ≡ i = omega arith in
    let still : elements ≡ splice elements i (i + 0) [] = sym (take-append-drop i elements) ∙ ap (λ (k : ℕ). splice elements i k []) (sym none) in
    subst (λ (xs : BranchPiece). IsEdited d d b size xs) still (unchanged d b size elements valid array)
elements-overwritten d b size elements i (x ∷ new) valid array is =
    let nothing = length (x ∷ new) == 0 in
    elim (cases_Bool nothing) [
      | inl none ↦ (let never = eqb-true (length (x ∷ new)) 0 none in absurd (omega arith))
      | inr some ↦
          subst (λ (e : Document). IsEdited d e b size (splice elements i (i + length (x ∷ new)) (x ∷ new))) (sym (cond-false nothing d _ some))
          (run-edited d b size elements i (x ∷ new) valid array is (omega arith))
    ]
