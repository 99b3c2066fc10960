-- What code has of a window is the window's: the blocks before and after it, those that go, and the root.
use Rattle.std.proofs.Common.{◌≡◌, ℕ, suc, ◌-◌, ◌<◌, ◌≤◌, Bool, true, false, not, nat_le, List, [], ◌∷◌, length, map, drop, filter, is_some, refl, sym, ap, ap₂, subst, ◌∙◌, arith, length-drop}
use Rattle.std.proofs.lemmas.Bool.{true≢false, not-true}
use Rattle.std.proofs.lemmas.List.{length-map, length-take}
use Rattle.std.proofs.lemmas.List.Elements.{All-contains, filter_passes}
use Rattle.std.specs.List.{Contains}
use Rattle.geos_model.specs.ElementArray.{all_distinct}
use Rattle.geos_model.specs.Document.{Document, vm_handles, is_live, raw_bytes_of}
use Rattle.geos_model.specs.Chain.{free_handles, new_handles}
use Rattle.geos_model.specs.Pieces.{BranchPiece}
use Rattle.geos_model.specs.LargeLayout.{Root, root_of}
use Rattle.geos_model.specs.Spread.{first_place, end_place}
use Rattle.geos_model.specs.LargeBlocks.{root_at, pieces_at}
use Rattle.geos_model.specs.LargeWindow.{Window, window, window_first, window_end, window_pieces, window_handles, left_joins, right_joins, are_branches, freed_handles, replaced_root}
use Rattle.geos_model.specs.LargeDocumentLaws.{replacing_looks}
use Rattle.large_arrays.specs.HandleLists.{old_handles, old_pairs, handles_outside, ShareNoHandle, AreFreed}
use Rattle.large_bodies.specs.RootEdits.{with_branches, run_between}
use Rattle.large_arrays.specs.WindowParts.{staying_pairs, window_from}
use Rattle.large_arrays.specs.declared.handles.OldBranch.{OldBranch}
use Rattle.large_arrays.specs.declared.staying.StayingBytes.{StayingBytes}
use Rattle.geos_model.proofs.DistinctHandles.{there_before}
use Rattle.large_arrays.proofs.HandlePlaces.{pairs_handles}
use Rattle.geos_model.proofs.Layouts.{root-facts, pieces-many, root-counts, raw-live}
use Rattle.geos_model.proofs.PieceLists.{root_full}
use Rattle.geos_model.proofs.SpreadPlaces.{first-end}
use Rattle.geos_model.proofs.SpreadSides.{is_full}
use Rattle.geos_model.proofs.Windows.{IsWindow, window-is}
use Rattle.geos_model.proofs.SeenBranches.{AreSeen, LooksAround, looks-around, window-seen, seen-part, seen-raw}
use Rattle.large_arrays.proofs.WindowParts.{Stays, window-from}

staying_handles : (hs : List ℕ) (k start end : ℕ) (s : StayingBytes) → map (λ p. p.0) (staying_pairs hs k start end s) ≡ hs
staying_handles [] k start end s = refl
staying_handles (h ∷ hs) k start end s = ap (λ (xs : List ℕ). h ∷ xs) (staying_handles hs (suc k) start end s)

-- a handle that is free isn't live
pub new-free : (d : Document) (n h : ℕ) → Contains (new_handles d n) h → is_live d h ≡ false
new-free d n h there =
    let free : ℕ → Bool = λ x. not (is_live d x) in
    not-true (is_live d h) (All-contains (λ x. free x ≡ true) (filter free vm_handles) h (filter_passes free vm_handles) (there_before n (free_handles d) h there))

module _ (d : Document) (b i j : ℕ) (new : BranchPiece) (found : is_some (root_of (raw_bytes_of d b)) ≡ true) (order : i ≤ j) where
  abbrev r : Root
  r = root_at d b

  abbrev pieces : List BranchPiece
  pieces = pieces_at d r

  abbrev first : ℕ
  first = window_first r.size pieces i j new

  abbrev behind : ℕ
  behind = window_end r.size pieces i j new

  whole : (0 < length pieces) × (is_full pieces ≡ true)
  whole = root_full r pieces (root-facts d b found).0 (root-counts d b found)

  win : IsWindow r.size pieces i j new
  win = window-is r.size pieces i j new whole.0 whole.1 order

  -- The window is of branches that there are.
  pub planned-places : (first < behind) × (behind ≤ length r.branches)
  planned-places = (win.order, (let many = pieces-many d b found in let within = win.within in omega arith))

  -- Where the branches that are looked at are, those of the window are each there once.
  planned_seen : are_branches d b r (replacing_looks d b i j new) ≡ true → AreSeen d b first behind
  planned_seen are =
      let around : LooksAround r.size pieces i j new = looks-around r.size pieces i j new whole.0 in
      let low = win.order in
      let all = window-seen d b i j new (pieces-many d b found) whole.0 (first-end (map length pieces) i j order) are in
      seen-part d b _ _ first behind around.from (omega arith) around.to all

  module _ (s : StayingBytes) (placed : List BranchPiece) (stays : Stays r.size pieces i j new s) (come : window_pieces r.size pieces i j new ≡ placed)
      (olds : List OldBranch)
      (are : old_pairs olds ≡ staying_pairs (run_between r.branches first behind) first (first_place r.counts i j).0 (end_place r.counts j).0 s) where
    abbrev w : Window
    w = window d b i j new

    abbrev cs : List ℕ
    cs = map length pieces

    -- the same window by the numbers of elements
    abbrev made : Window
    made = window_from r (first_place cs i j) (end_place cs j) (left_joins r.size pieces i j new) (right_joins r.size pieces i j new) s placed (new_handles d)

    is_made : w ≡ made
    is_made =
        window-from d b i j new found order s placed stays come
        ∙ ap (λ (ns : List ℕ). window_from r (first_place ns i j) (end_place ns j) (left_joins r.size pieces i j new) (right_joins r.size pieces i j new) s placed (new_handles d)) (root-counts d b found)

    -- its branches with what stays of each
    abbrev pairs : List (ℕ × ℕ)
    pairs = staying_pairs (run_between r.branches first behind) first (first_place cs i j).0 (end_place cs j).0 s

    pairs_are : old_pairs olds ≡ pairs
    pairs_are = are ∙ ap (λ (ns : List ℕ). staying_pairs (run_between r.branches first behind) first (first_place ns i j).0 (end_place ns j).0 s) (root-counts d b found)

    pub planned-handles : old_handles olds ≡ run_between r.branches first behind
    planned-handles =
        sym (pairs_handles olds) ∙ ap (map (λ (p : ℕ × ℕ). p.0)) pairs_are
        ∙ staying_handles (run_between r.branches first behind) first (first_place cs i j).0 (end_place cs j).0 s

    -- as many as the window has branches
    pub planned-many : length olds ≡ behind - first
    planned-many =
        let mapped = length-map olds (λ (o : OldBranch). o.handle.0) in
        let same = ap (λ (hs : List ℕ). length hs) planned-handles in
        let long = length-take (behind - first) (drop first r.branches) in
        let left = length-drop first r.branches in
        let places = planned-places in
        let low = places.0 in
        let high = places.1 in
        omega arith

    -- The fields of the window.

    pub planned-first : w.first ≡ first
    planned-first = ap (λ (x : Window). x.first) is_made

    pub planned-behind : w.behind ≡ behind
    planned-behind = ap (λ (x : Window). x.behind) is_made

    pub planned-pieces : w.pieces ≡ placed
    planned-pieces = ap (λ (x : Window). x.pieces) is_made

    pub planned-olds : w.olds ≡ old_handles olds
    planned-olds = ap (λ (x : Window). x.olds) is_made ∙ ap (map (λ (p : ℕ × ℕ). p.0)) (sym pairs_are) ∙ pairs_handles olds

    pub planned-news : (fresh : List ℕ) → fresh ≡ new_handles d (length placed - length olds)
        → w.news ≡ window_handles (old_pairs olds) (nat_le s.tail s.head) (length placed) fresh
    planned-news fresh is =
        ap (λ (x : Window). x.news) is_made
        ∙ ap₂ (λ (xs : List (ℕ × ℕ)) (hs : List ℕ). window_handles xs (nat_le s.tail s.head) (length placed) hs) (sym pairs_are)
        (ap (λ (n : ℕ). new_handles d (length placed - n)) (sym planned-many) ∙ sym is)

    -- The blocks that go.
    pub planned-freed : (freed : List ℕ) → AreFreed (old_pairs olds) (length placed) freed → ((h : ℕ) → Contains (old_handles olds) h → is_live d h ≡ true)
        → freed_handles w ≡ freed
    planned-freed freed go live =
        let n : ℕ = length placed - length olds in
        let fresh : List ℕ = new_handles d n in
        let all : List ℕ = map (λ (p : ℕ × ℕ). p.0) (old_pairs olds) in
        let apart : ShareNoHandle all fresh =
        λ h old free. true≢false (sym (live h (subst (λ (hs : List ℕ). Contains hs h) (pairs_handles olds) old)) ∙ new-free d n h free) in
        ap₂ handles_outside (planned-news fresh refl) (planned-olds ∙ sym (pairs_handles olds)) ∙ go (nat_le s.tail s.head) fresh apart

    -- The root.
    pub planned-root : (counts news : List ℕ) → counts ≡ map length placed → news ≡ w.news → replaced_root r w ≡ with_branches r first behind counts news
    planned-root counts news count named =
        ap₂ (λ (x : Window) (hs : List ℕ). with_branches r x.first x.behind (map length x.pieces) hs) is_made (sym named)
        ∙ ap (λ (ns : List ℕ). with_branches r first behind ns news) (sym count)

    -- Where the branches that are looked at are, these are there each once, and none is the root.
    pub planned-once : are_branches d b r (replacing_looks d b i j new) ≡ true → all_distinct (b ∷ old_handles olds) ≡ true
    planned-once seen = ap (λ (hs : List ℕ). all_distinct (b ∷ hs)) planned-handles ∙ (planned_seen seen).once

    pub planned-live : are_branches d b r (replacing_looks d b i j new) ≡ true → (h : ℕ) → Contains (old_handles olds) h → is_live d h ≡ true
    planned-live seen h there =
        raw-live d h (seen-raw d b first behind (planned_seen seen) h (subst (λ (hs : List ℕ). Contains hs h) planned-handles there))
