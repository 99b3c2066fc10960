-- The edit of a window in any document: of the branches only those that are looked at have to be there.
use Rattle.std.proofs.Common.{◌≡◌, ℕ, ◌-◌, ◌<◌, ◌≤◌, Bool, true, false, not, ◌==◌, nat_le, nat_lt, List, [], ◌∷◌, ◌++◌, length, take, drop, map, get_or, is_some, refl, sym, ap, subst, ◌∙◌, inl, inr, arith, ltb-false}
use Rattle.std.proofs.lemmas.Bool.{eq-eqb, true≢false}
use Rattle.std.proofs.lemmas.List.{length-map}
use Rattle.std.proofs.lemmas.List.FromFn.{length-map-range_with_len}
use Rattle.std.proofs.lemmas.Simd.{map-map}
use Rattle.std.specs.List.{Contains, list_any, range_with_len}
use Rattle.std.specs.Option.{option_map}
use Rattle.geos_model.specs.ElementArray.{all_distinct}
use Rattle.geos_model.specs.Document.{Block, Document, IsValid, is_live, is_raw, raw_bytes_of}
use Rattle.geos_model.specs.Chain.{free_handles, new_handles}
use Rattle.geos_model.specs.ChainLaws.{AreNew}
use Rattle.geos_model.proofs.Chains.{contains_first, contains_later, contains_cases}
use Rattle.geos_model.proofs.BlockLists.{none_passes, distinct-first, distinct-rest}
use Rattle.geos_model.proofs.ChainCopies.{new-new}
use Rattle.geos_model.specs.Pieces.{BranchPiece, piece_weight, all_fit, fits_branch, each_fits}
use Rattle.geos_model.specs.LargeLayout.{Root, most_branches, root_bytes, is_root, root_of}
use Rattle.geos_model.specs.Spread.{first_place, end_place}
use Rattle.geos_model.specs.LargeBlocks.{root_at, pieces_at}
use Rattle.geos_model.specs.LargeWindow.{Window, window, window_first, window_end, window_pieces, window_handles, staying, freed_handles, are_branches, replaced_root, with_window}
use Rattle.geos_model.specs.LargeBlocks.{handles_at}
use Rattle.geos_model.specs.LargeDocumentLaws.{ChangesArray, replacing_looks}
use Rattle.geos_model.proofs.SpreadFits.{middle-fits}
use Rattle.geos_model.proofs.SpreadSides.{is_full}
use Rattle.geos_model.proofs.SpreadPlaces.{first-end}
use Rattle.geos_model.proofs.RootBytes.{length-root_bytes}
use Rattle.geos_model.proofs.Layouts.{root-facts, root-counts, pieces-many, branch-fits, raw-live, raw-attributes}
use Rattle.geos_model.proofs.Windows.{IsWindow, window-is}
use Rattle.geos_model.proofs.WindowHandles.{handles, handles-places, window_handles-many, window_handles-from, window_handles-once}
use Rattle.geos_model.proofs.Replacing.{AreNamed, AreReplaced}
use Rattle.geos_model.proofs.DistinctHandles.{distinct-append, distinct-cons, distinct-filter}
use Rattle.geos_model.proofs.PutBranches.{put-apart, CanPut, FitsPut, new_root-many, put-map, put-root, put-elsewhere, put-replaced}
use Rattle.geos_model.proofs.PieceLists.{root_full, freed-old, freed-not, freed-all}
use Rattle.geos_model.proofs.SeenBranches.{seen_blocks, seen_first, seen_end, AreSeen, LooksAround, looks-around, window-seen, seen-part, seen-raw, part-there, seen-blocks_are}

-- A root is there.
pub record HasRoot (d : Document) (b : ℕ) : Type 0 where
  pub raw : is_raw d b ≡ true
  pub found : is_some (root_of (raw_bytes_of d b)) ≡ true

-- Nothing refuses the edit of a window.
pub record MayReplace (d : Document) (b i j : ℕ) (new : BranchPiece) : Type 0 where
  pub seen : are_branches d b (root_at d b) (replacing_looks d b i j new) ≡ true
  pub no_map : list_any (λ h. h == d.map_block) (freed_handles (window d b i j new)) ≡ false
  pub room : nat_lt (length (free_handles d)) (length (window d b i j new).pieces - length (window d b i j new).olds) ≡ false
  pub few : nat_lt most_branches (length (replaced_root (root_at d b) (window d b i j new)).branches) ≡ false

module _ (d : Document) (b i j : ℕ) (new : BranchPiece) (root : HasRoot d b) (order : i ≤ j) where
  abbrev r : Root
  r = root_at d b

  abbrev pieces : List BranchPiece
  pieces = pieces_at d r

  facts : (is_root r ≡ true) × (root_bytes r ≡ raw_bytes_of d b) × (length r.branches ≡ length r.counts)
  facts = root-facts d b root.found

  pub window-whole : (0 < length pieces) × (is_full pieces ≡ true)
  window-whole = root_full r pieces facts.0 (root-counts d b root.found)

  pub window-win : IsWindow r.size pieces i j new
  window-win = window-is r.size pieces i j new window-whole.0 window-whole.1 order

  abbrev first : ℕ
  first = window_first r.size pieces i j new

  abbrev behind : ℕ
  behind = window_end r.size pieces i j new

  abbrev placed : List BranchPiece
  placed = window_pieces r.size pieces i j new

  abbrev w : Window
  w = window d b i j new

  abbrev old_ones : List ℕ
  old_ones = take (behind - first) (drop first r.branches)

  -- the blocks that were there, with what stays in each
  abbrev old_pairs : List (ℕ × ℕ)
  old_pairs = map (λ k. (get_or r.branches k 0, staying r.size pieces i j k)) (range_with_len first (behind - first))

  olds_are : handles old_pairs ≡ old_ones
  olds_are =
      let before = window-win.order in
      let within = window-win.within in
      let all = pieces-many d b root.found in
      map-map (λ (p : ℕ × ℕ). p.0) (λ (k : ℕ). (get_or r.branches k 0, staying r.size pieces i j k)) (range_with_len first (behind - first))
      ∙ handles-places r.branches first (behind - first) (omega arith)

  olds-many : length old_pairs ≡ behind - first
  olds-many = length-map-range_with_len (λ (k : ℕ). (get_or r.branches k 0, staying r.size pieces i j k)) first (behind - first)

  module _ (may : MayReplace d b i j new) where
    around : LooksAround r.size pieces i j new
    around = looks-around r.size pieces i j new window-whole.0

    abbrev from : ℕ
    from = seen_first r.size pieces i j new

    abbrev to : ℕ
    to = seen_end r.size pieces i j new

    looked : AreSeen d b from to
    looked =
        window-seen d b i j new (pieces-many d b root.found) window-whole.0 (first-end (map length pieces) i j order) may.seen

    -- of the window
    olds_low : first ≤ behind
    olds_low = (let before = window-win.order in omega arith)

    seen : AreSeen d b first behind
    seen = seen-part d b from to first behind around.from olds_low around.to looked

    olds_live : (h : ℕ) → Contains old_ones h → is_live d h ≡ true
    olds_live h there = raw-live d h (seen-raw d b first behind seen h there)

    enough : length placed - (behind - first) ≤ length (free_handles d)
    unfolding window
    enough =
        let most = ltb-false (length (free_handles d)) (length placed - length (handles old_pairs)) may.room in
        let count = length-map old_pairs (λ (p : ℕ × ℕ). p.0) in
        let many = olds-many in
        omega arith

    abbrev fresh_ones : List ℕ
    fresh_ones = new_handles d (length placed - (behind - first))

    fresh : AreNew d (length placed - (behind - first)) fresh_ones
    fresh = new-new d (length placed - (behind - first)) enough

    olds_once : all_distinct (handles old_pairs) ≡ true
    olds_once = ap all_distinct olds_are ∙ distinct-rest b old_ones seen.once

    pub window-named : AreNamed d b r pieces first behind w.news (freed_handles w) placed
    unfolding window
    window-named =
        let start = first_place r.counts i j in
        let end = end_place r.counts j in
        let head : Bool = nat_le (piece_weight r.size (drop end.1 (get_or pieces end.0 []))) (piece_weight r.size (take start.1 (get_or pieces start.0 []))) in
        let n : ℕ = length placed in
        let news : List ℕ = window_handles old_pairs head n fresh_ones in
        let many = olds-many in
        let is_old : (h : ℕ) → Contains (handles old_pairs) h → Contains old_ones h = λ h there. subst (λ hs. Contains hs h) olds_are there in
        record {
          order = olds_low;
          within = window-win.within;
          as_many = window_handles-many old_pairs head n fresh_ones (fresh.as_many ∙ ap (λ (k : ℕ). n - k) (sym many));
          once = window_handles-once old_pairs head n fresh_ones olds_once fresh.once
              (λ h old new_one. true≢false (sym (olds_live h (is_old h old)) ∙ fresh.not_live h new_one));
          from = λ h there. elim (window_handles-from old_pairs head n fresh_ones h there) [
            | inl old ↦ inl (is_old h old)
            | inr new_one ↦ inr (fresh.handle h new_one, fresh.not_live h new_one)
          ];
          freed_old = λ h there. is_old h (freed-old (handles old_pairs) news h there);
          freed_not = freed-not (handles old_pairs) news;
          freed_all = λ h old absent. freed-all (handles old_pairs) news h (subst (λ hs. Contains hs h) (sym olds_are) old) absent;
        }

    pub window-can : CanPut d b r pieces first behind w.news (freed_handles w) placed
    window-can = record {
      raw = root.raw;
      raw_olds = seen-raw d b first behind seen;
      apart = distinct-first b old_ones seen.once;
    }

    -- each block that changes is there once: those that go, the root, and those of the new pieces
    pub window-once : all_distinct (freed_handles w ++ b ∷ w.news) ≡ true
    unfolding window
    window-once =
        let named = window-named in
        let freed : List ℕ = freed_handles w in
        let apart : Contains w.news b → ⊥ = put-apart d b r pieces first behind w.news freed placed window-can named in
        distinct-append freed (b ∷ w.news) (distinct-filter (λ h. not (list_any (λ x. x == h) w.news)) (handles old_pairs) olds_once)
        (distinct-cons b w.news apart named.once)
        (λ h gone there. elim (contains_cases b w.news h there) [
          | inl is ↦ distinct-first b old_ones seen.once (subst (Contains old_ones) (sym is) (named.freed_old h gone))
          | inr come ↦ named.freed_not h gone come
        ])

    -- the pieces of the run that stay in part were read
    run_fits : IsValid d → (k : ℕ) → from ≤ k → k < to → fits_branch r.size (get_or pieces k []) ≡ true
    run_fits valid k low more =
        let all = pieces-many d b root.found in
        let within = looked.within in
        branch-fits d b root.found valid k (omega arith) (looked.branch k low more)

    placed_fits : IsValid d → each_fits r.size new ≡ true → all_fit r.size placed ≡ true
    placed_fits valid each =
        let run = first-end (map length pieces) i j order in
        let begin = around.begin in
        let end = around.end in
        window-win.fit (middle-fits r.size pieces i j new
        (run_fits valid (first_place (map length pieces) i j).0 begin (omega arith))
        (run_fits valid (end_place (map length pieces) j).0 (omega arith) end) each)

    pub window-fits : IsValid d → each_fits r.size new ≡ true → FitsPut d b r pieces first behind w.news (freed_handles w) placed
    unfolding window
    window-fits valid each =
        let replaced : Root = replaced_root r w in
        let same = new_root-many d b r pieces first behind w.news (freed_handles w) placed facts.2 window-named.as_many in
        let most = ltb-false most_branches (length replaced.branches) may.few in
        let long = length-root_bytes replaced same in
        record {
          fit = placed_fits valid each;
          long = omega arith;
          no_map = λ there. none_passes (λ h. h == d.map_block) (freed_handles w) d.map_block may.no_map (eq-eqb d.map_block d.map_block refl) there;
        }

    -- So the document has the new blocks, and all others.
    pub window-put : IsValid d → each_fits r.size new ≡ true → AreReplaced d b r pieces first behind w.news (freed_handles w) placed (with_window d b w)
    unfolding window
    window-put valid each =
        put-replaced d b r pieces first behind w.news (freed_handles w) placed window-can window-named valid (window-fits valid each)

    looked_blocks : handles_at r (replacing_looks d b i j new) ≡ seen_blocks d b from to
    looked_blocks = seen-blocks_are d b from to looked

    pub window-stays : ChangesArray d (with_window d b w) b (replacing_looks d b i j new)
    unfolding window
    window-stays =
        let named = window-named in
        let freed : List ℕ = freed_handles w in
        let old_seen : (h : ℕ) → Contains old_ones h → Contains (b ∷ handles_at r (replacing_looks d b i j new)) h =
        λ h there. contains_later b (handles_at r (replacing_looks d b i j new)) h (subst (λ hs. Contains hs h) (sym looked_blocks)
        (part-there d b from to first behind around.from olds_low around.to h there)) in
        record {
          stays = record {
            map_block = put-map d b r pieces first behind w.news freed placed window-can named;
            blocks = λ h live other.
                put-elsewhere d b r pieces first behind w.news freed placed window-can named h
                (λ there. elim (contains_cases b w.news h there) [
                  | inl is ↦ other (subst (Contains (b ∷ handles_at r (replacing_looks d b i j new))) is (contains_first b (handles_at r (replacing_looks d b i j new))))
                  | inr come ↦ elim (named.from h come) [
                    | inl old ↦ other (old_seen h old)
                    | inr free ↦ true≢false (sym live ∙ free.1)
                  ]
                ])
                (λ gone. other (old_seen h (named.freed_old h gone)));
          };
          attributes = ap (option_map (λ (x : Block). x.attributes)) (put-root d b r pieces first behind w.news freed placed window-can named) ∙ sym (raw-attributes d b root.raw);
        }
