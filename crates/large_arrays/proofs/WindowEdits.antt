-- An edit of an array on blocks: the pieces of its window are replaced, and so the array is that of the list's edit.
use Rattle.std.proofs.Common.{◌≡◌, ℕ, suc, ◌-◌, ◌<◌, ◌≤◌, Bool, true, false, ◌&&◌, ◌==◌, List, [], ◌∷◌, length, drop, map, refl, sym, ap, ap₂, subst, ◌∙◌, inl, inr, arith, eqb-true, ◌⊎◌, if◌then◌else◌, ◌+◌}
use Rattle.std.proofs.lemmas.Bool.{cases_Bool, and_parts, cond-true, cond-false, true≢false}
use Rattle.std.proofs.lemmas.List.{take-append-drop, length-take}
use Rattle.std.specs.List.{Contains, splice}
use Rattle.geos_model.specs.ElementArray.{all_distinct}
use Rattle.geos_model.specs.Document.{Document, IsValid}
use Rattle.geos_model.proofs.Chains.{contains_first}
use Rattle.geos_model.specs.Pieces.{BranchPiece, all_fit, elements_in_pieces, are_spread}
use Rattle.geos_model.specs.LargeLayout.{Root}
use Rattle.geos_model.specs.Spread.{first_place, end_place, respread}
use Rattle.geos_model.specs.LargeBlocks.{root_at, pieces_at, IsLargeArray}
use Rattle.geos_model.specs.LargeWindow.{Window, window, window_first, window_end, window_pieces, freed_handles, with_window, elements_replaced, left_joins, right_joins}
use Rattle.geos_model.specs.LargeEditLaws.{IsEdited}
use Rattle.geos_model.proofs.SpreadElements.{respread-elements}
use Rattle.geos_model.proofs.SpreadFits.{respread-fits}
use Rattle.geos_model.proofs.SpreadSides.{is_full}
use Rattle.geos_model.proofs.SpreadStays.{respread-full, respread-spread}
use Rattle.geos_model.proofs.Layouts.{HasLayout, all_sized, array-layout}
use Rattle.geos_model.proofs.Windows.{IsWindow}
use Rattle.geos_model.proofs.Replacing.{new_root, AreNamed, AreReplaced, AreGood, counts-spliced, replaced-edited, changed-few}
use Rattle.geos_model.proofs.WindowPuts.{MayReplace, window-whole, window-win, window-named, window-put}
use Rattle.geos_model.proofs.AcceptedEdits.{IsAccepted}
use Rattle.geos_model.proofs.PieceLists.{respread-sized, root_from, root_small}
use Rattle.geos_model.specs.LargeChangeLaws.{HasOtherBytes, FewChange}
use Rattle.geos_model.proofs.SpreadCount.{middle-few}

module _ (d : Document) (b size : ℕ) (elements : BranchPiece) (i j : ℕ) (new : BranchPiece) (valid : IsValid d) (array : IsLargeArray d b size elements)
    (order : i ≤ j) (accepted : IsAccepted d b i j new) where
  abbrev r : Root
  r = root_at d b

  abbrev pieces : List BranchPiece
  pieces = pieces_at d r

  has : HasLayout d b r pieces
  has = array-layout d b size elements valid array

  whole : (0 < length pieces) × (is_full pieces ≡ true)
  whole = window-whole d b i j new accepted.root order

  win : IsWindow r.size pieces i j new
  win = window-win d b i j new accepted.root order

  abbrev first : ℕ
  first = window_first r.size pieces i j new

  abbrev behind : ℕ
  behind = window_end r.size pieces i j new

  abbrev placed : List BranchPiece
  placed = window_pieces r.size pieces i j new

  abbrev w : Window
  w = window d b i j new

  module _ (may : MayReplace d b i j new) where
    named : AreNamed d b r pieces first behind w.news (freed_handles w) placed
    named = window-named d b i j new accepted.root order may

    after : respread r.size pieces i j new ≡ splice pieces first behind placed
    after = win.is

    good : AreGood d b r pieces first behind w.news (freed_handles w) placed
    good =
        let root : Root = new_root d b r pieces first behind w.news (freed_handles w) placed in
        let full = respread-full r.size pieces i j new whole.0 whole.1 in
        record {
          is = root_from root (splice pieces first behind placed) (root_small r has.is) (counts-spliced r.counts first behind pieces placed has.counts)
              (subst (λ (ps : List BranchPiece). 0 < length ps) after full.0) (ap is_full (sym after) ∙ full.1);
          fit = ap (all_fit r.size) (sym after) ∙ respread-fits r.size pieces i j new has.fit accepted.fit;
          sized = ap (all_sized r.size) (sym after) ∙ respread-sized r.size pieces i j new has.sized accepted.sized;
        }

    replaced : AreReplaced d b r pieces first behind w.news (freed_handles w) placed (with_window d b w)
    replaced = window-put d b i j new accepted.root order may valid accepted.fit

    same_elements : elements_in_pieces (splice pieces first behind placed) ≡ splice elements i j new
    same_elements =
        ap elements_in_pieces (sym after) ∙ respread-elements r.size pieces i j new ∙ ap (λ (xs : BranchPiece). splice xs i j new) array.same

    still_spread : are_spread r.size pieces ≡ true → are_spread r.size (splice pieces first behind placed) ≡ true
    still_spread spread = ap (are_spread r.size) (sym after) ∙ respread-spread r.size pieces i j new spread accepted.fit

    pub window-edited : IsEdited d (with_window d b w) b size (splice elements i j new)
    window-edited =
        let edited : IsEdited d (with_window d b w) b r.size (elements_in_pieces (splice pieces first behind placed)) =
        replaced-edited d b r pieces first behind w.news (freed_handles w) placed valid has named (with_window d b w) replaced good still_spread in
        subst (λ (s : ℕ). IsEdited d (with_window d b w) b s (splice elements i j new)) array.sized
        (subst (λ (xs : BranchPiece). IsEdited d (with_window d b w) b r.size xs) same_elements edited)

    -- branches that change and stay are of the window, before and after
    pub window-changed : (hs : List ℕ) → all_distinct hs ≡ true → ((h : ℕ) → Contains hs h → HasOtherBytes d (with_window d b w) b h)
        → (length hs ≤ behind - first) × (length hs ≤ length placed)
    window-changed hs once changed =
        let few = changed-few d b r pieces first behind w.news (freed_handles w) placed valid has named (with_window d b w) replaced good hs once changed in
        let from_old = few.0 in
        let from_new = few.1 in
        let olds_long = length-take (behind - first) (drop first r.branches) in
        let news_long = named.as_many in
        (omega arith, omega arith)

  -- there are three at most, where the run is in one piece, or nothing is new
  pub window-few : MayReplace d b i j new → ((first_place (map length pieces) i j).0 ≡ (end_place (map length pieces) j).0) ⊎ (length new ≡ 0) → FewChange d (with_window d b w) b
  window-few may cases hs once changed =
      let few = window-changed may hs once changed in
      let from_old = few.0 in
      let from_new = few.1 in
      elim cases [
        | inl one ↦ spread_run (left_joins r.size pieces i j new) (right_joins r.size pieces i j new) one from_old
        | inr none ↦ (let placed_few = win.few in let mid = middle-few r.size pieces i j new has.fit in omega arith)
      ]
    where
      spread_run : (lj rj : Bool) → (first_place (map length pieces) i j).0 ≡ (end_place (map length pieces) j).0
          → length hs ≤ (end_place (map length pieces) j).0 + (if rj then 2 else 1) - ((first_place (map length pieces) i j).0 - (if lj then 1 else 0)) → length hs ≤ 3
      spread_run true true one few = omega arith
      spread_run true false one few = omega arith
      spread_run false true one few = omega arith
      spread_run false false one few = omega arith

-- An edit of nothing.
pub unchanged : (d : Document) (b size : ℕ) (elements : BranchPiece) → IsValid d → IsLargeArray d b size elements → IsEdited d d b size elements
unchanged d b size elements valid array = record {
  valid = valid;
  array = array;
  stays = λ h is other. refl;
  comes = λ h free is. absurd (true≢false (sym is ∙ free));
  goes = λ h there absent. absurd (absent there);
  map_block = refl;
  attributes = refl;
  spread = λ spread. spread;
}

splice_nothing : (xs : BranchPiece) (i : ℕ) → splice xs i i [] ≡ xs
splice_nothing xs i = take-append-drop i xs

no_elements : (new : BranchPiece) → length new ≡ 0 → new ≡ []
no_elements [] none = refl
no_elements (x ∷ new) none = absurd (let never : suc (length new) ≡ 0 = none in omega arith)

-- Elements in the place of others.
pub elements-replaced : (d : Document) (b size : ℕ) (elements : BranchPiece) (i j : ℕ) (new : BranchPiece) → IsValid d → IsLargeArray d b size elements → i ≤ j
    → IsAccepted d b i j new
    → IsEdited d (elements_replaced d b i j new) b size (splice elements i j new)
unfolding elements_replaced
elements-replaced d b size elements i j new valid array order accepted =
    let nothing = (i == j) && (length new == 0) in
    elim (cases_Bool nothing) [
      | inl none ↦
          (let parts = and_parts (i == j) (length new == 0) none in
          let same : i ≡ j = eqb-true i j parts.0 in
          let empty = no_elements new (eqb-true (length new) 0 parts.1) in
          let still : elements ≡ splice elements i j new = sym (splice_nothing elements i) ∙ ap₂ (λ (k : ℕ) (xs : BranchPiece). splice elements i k xs) same (sym empty) in
          subst (λ (e : Document). IsEdited d e b size (splice elements i j new)) (sym (cond-true nothing d (with_window d b (window d b i j new)) none))
          (subst (λ (xs : BranchPiece). IsEdited d d b size xs) still (unchanged d b size elements valid array)))
      | inr some ↦
          subst (λ (e : Document). IsEdited d e b size (splice elements i j new)) (sym (cond-false nothing d (with_window d b (window d b i j new)) some))
          (window-edited d b size elements i j new valid array order accepted (accepted.may some))
    ]

none_changed : (d : Document) (b : ℕ) → FewChange d d b
none_changed d b [] once changed = omega arith
none_changed d b (h ∷ hs) once changed = absurd ((changed h (contains_first h hs)).other refl)

pub replaced-few : (d : Document) (b size : ℕ) (elements : BranchPiece) (i j : ℕ) (new : BranchPiece) → IsValid d → IsLargeArray d b size elements → i ≤ j
    → IsAccepted d b i j new
    → ((first_place (map length (pieces_at d (root_at d b))) i j).0 ≡ (end_place (map length (pieces_at d (root_at d b))) j).0) ⊎ (length new ≡ 0)
    → FewChange d (elements_replaced d b i j new) b
unfolding elements_replaced
replaced-few d b size elements i j new valid array order accepted cases =
    let nothing = (i == j) && (length new == 0) in
    elim (cases_Bool nothing) [
      | inl none ↦ subst (λ (e : Document). FewChange d e b) (sym (cond-true nothing d (with_window d b (window d b i j new)) none)) (none_changed d b)
      | inr some ↦
          subst (λ (e : Document). FewChange d e b) (sym (cond-false nothing d (with_window d b (window d b i j new)) some))
          (window-few d b size elements i j new valid array order accepted (accepted.may some) cases)
    ]
