-- Elements of one size that are written over in any document: only the branches that have them have to be there.
use Rattle.std.proofs.Common.{◌≡◌, ℕ, suc, ◌+◌, ◌-◌, ◌<◌, ◌≤◌, true, false, not, ◌==◌, List, [], ◌++◌, length, take, drop, map, Option, Some, None, refl, sym, ap, ap₂, subst, ◌∙◌, inl, inr, arith, append_assoc, length-append, length-drop}
use Rattle.std.proofs.lemmas.Bool.{cases_Bool, and_parts, and_from, cond-false, eqb-true}
use Rattle.std.proofs.lemmas.List.{length-take, length-take-le, take-append-drop, take-take, drop-drop, get_or-drop, get_or-take, take-map, drop-map}
use Rattle.std.proofs.lemmas.List.Folds.{list_all-append}
use Rattle.std.specs.List.{Contains, range_with_len, splice}
use Rattle.std.specs.Option.{option_map, option_map_or}
use Rattle.std.specs.FinMap.{get}
use Rattle.geos_model.specs.ElementArray.{all_distinct}
use Rattle.geos_model.specs.Document.{Block, Document, IsValid, is_heap_body, bytes_of_body, no_attributes, is_raw, raw_bytes_of, attributes_of, handles_of, with_blocks}
use Rattle.geos_model.specs.declared.command.Body.{Body}
use Rattle.geos_model.specs.declared.command.Body.TheVariants.{Raw, Heap}
use Rattle.geos_model.proofs.Chains.{contains_later}
use Rattle.geos_model.proofs.BlockLists.{distinct-first, distinct-rest, put_elsewhere, put_stands, put_map_block, put_valid}
use Rattle.geos_model.specs.Pieces.{BranchPiece, fits_branch, all_fit, elements_in_pieces}
use Rattle.geos_model.specs.LargeLayout.{Root, root_bytes, is_root, total_count}
use Rattle.geos_model.specs.Spread.{start_place, end_place, overwritten}
use Rattle.geos_model.specs.LargeBlocks.{root_at, pieces_at}
use Rattle.geos_model.specs.LargeWindow.{are_branches}
use Rattle.geos_model.specs.LargeEdits.{run_places}
use Rattle.geos_model.specs.LargeBlocks.{handles_at}
use Rattle.geos_model.specs.LargeDocumentLaws.{ChangesArray}
use Rattle.geos_model.proofs.SpreadPlaces.{start-end}
use Rattle.geos_model.proofs.SpreadSides.{is_full}
use Rattle.geos_model.proofs.SpreadCount.{ends}
use Rattle.geos_model.proofs.BranchBytes.{is_sized}
use Rattle.geos_model.proofs.Layouts.{all_sized, list_all-from_at, root-facts, root-counts, pieces-many, pieces-sized, branch-fits}
use Rattle.geos_model.proofs.PieceLists.{sized_elements, sized-append, sized_part, root_full}
use Rattle.geos_model.proofs.OverwrittenPieces.{sum, sum-lengths, cut_by-elements, cut_by-lengths, overwritten-before, overwritten-behind}
use Rattle.geos_model.proofs.SameWeights.{same-fit, same-many}
use Rattle.geos_model.proofs.SeenBranches.{AreSeen, seen-from, seen-raw, seen-blocks_are}
use Rattle.geos_model.proofs.Replacing.{new_root, AreNamed, AreReplaced, counts-spliced}
use Rattle.geos_model.proofs.PutBranches.{CanPut, branch_blocks, branch_blocks-handles, branch_blocks-stand, branch_blocks-valid, can_new, put-apart}
use Rattle.geos_model.proofs.WindowPuts.{HasRoot}

-- a raw block is its attributes and its bytes
raw_is : (d : Document) (b : ℕ) (bytes : List ℕ) → is_raw d b ≡ true → raw_bytes_of d b ≡ bytes
    → get d.blocks b ≡ Some (record { attributes = attributes_of d b; body = Raw bytes })
raw_is d b bytes raw is = by_block (get d.blocks b) raw is
  where
    by_body : (block : Block) (body : Body) → block.body ≡ body → not (is_heap_body body) ≡ true → bytes_of_body body ≡ bytes
        → Some block ≡ Some (record { attributes = block.attributes; body = Raw bytes })
    by_body block (Raw xs) at raw is = ap (λ (body : Body). Some (record { attributes = block.attributes; body = body })) (at ∙ ap Raw is)
    by_body block (Heap m) at raw is = absurd (cc raw)

    by_block : (o : Option Block) → option_map_or (λ x. not (is_heap_body x.body)) o false ≡ true → option_map_or (λ x. bytes_of_body x.body) o [] ≡ bytes
        → o ≡ Some (record { attributes = option_map_or (λ x. x.attributes) o no_attributes; body = Raw bytes })
    by_block None raw is = absurd (cc raw)
    by_block (Some block) raw is = by_body block block.body refl raw is

length-over : (xs new : BranchPiece) (i j : ℕ) → j ≡ i + length new → j ≤ length xs → length (splice xs i j new) ≡ length xs
length-over xs new i j run within =
    let front = length-take-le i xs (omega arith) in
    let back = length-drop j xs in
    let inner = length-append new (drop j xs) in
    let outer = length-append (take i xs) (new ++ drop j xs) in
    omega arith

-- a run of pieces that have a size
sized_run : (size first behind : ℕ) (ps : List BranchPiece) → all_sized size ps ≡ true → all_sized size (drop first (take behind ps)) ≡ true
sized_run size first behind ps all =
    let front = halves behind ps all in (halves first (take behind ps) front.0).1
  where
    halves : (n : ℕ) (qs : List BranchPiece) → all_sized size qs ≡ true → (all_sized size (take n qs) ≡ true) × (all_sized size (drop n qs) ≡ true)
    halves n qs sized =
        and_parts (all_sized size (take n qs)) (all_sized size (drop n qs))
        (sym (list_all-append (λ (p : BranchPiece). is_sized size p) (take n qs) (drop n qs)) ∙ ap (all_sized size) (take-append-drop n qs) ∙ sized)

-- Nothing refuses it.
pub record IsRunAccepted (d : Document) (b i : ℕ) (new : BranchPiece) : Type 0 where
  pub root : HasRoot d b
  pub one : ((root_at d b).size == 0) ≡ false
  pub within : i + length new ≤ total_count (root_at d b)
  pub sized : is_sized (root_at d b).size new ≡ true
  pub seen : are_branches d b (root_at d b) (run_places (root_at d b) i (length new)) ≡ true

module _ (d : Document) (b i : ℕ) (new : BranchPiece) (is : IsRunAccepted d b i new) (some : 0 < length new) where
  abbrev r : Root
  r = root_at d b

  abbrev pieces : List BranchPiece
  pieces = pieces_at d r

  facts : (is_root r ≡ true) × (root_bytes r ≡ raw_bytes_of d b) × (length r.branches ≡ length r.counts)
  facts = root-facts d b is.root.found

  counts : r.counts ≡ map length pieces
  counts = root-counts d b is.root.found

  all-sized : all_sized r.size pieces ≡ true
  all-sized = pieces-sized d b is.root.found

  whole : (0 < length pieces) × (is_full pieces ≡ true)
  whole = root_full r pieces facts.0 counts

  abbrev pub j : ℕ
  j = i + length new

  abbrev pub first : ℕ
  first = (start_place r.counts i).0

  abbrev pub behind : ℕ
  behind = suc (end_place r.counts j).0

  abbrev over : List BranchPiece
  over = overwritten pieces i new

  abbrev pub handles : List ℕ
  handles = take (behind - first) (drop first r.branches)

  abbrev pub placed : List BranchPiece
  placed = drop first (take behind over)

  low : j ≤ length (elements_in_pieces pieces)
  low =
      let all : total_count r ≡ length (elements_in_pieces pieces) = ap sum counts ∙ sum-lengths pieces in
      let within = is.within in
      omega arith

  all-many : sum (map length pieces) ≡ length (splice (elements_in_pieces pieces) i j new)
  all-many = sum-lengths pieces ∙ sym (length-over (elements_in_pieces pieces) new i j refl low)

  pub over-elements : elements_in_pieces over ≡ splice (elements_in_pieces pieces) i j new
  unfolding overwritten
  over-elements = cut_by-elements (map length pieces) (splice (elements_in_pieces pieces) i j new) all-many

  pub over-lengths : map length over ≡ map length pieces
  unfolding overwritten
  over-lengths = cut_by-lengths (map length pieces) (splice (elements_in_pieces pieces) i j new) all-many

  pub over-sized : all_sized r.size over ≡ true
  over-sized =
      let xs : BranchPiece = elements_in_pieces pieces in
      let old : is_sized r.size xs ≡ true = sym (sized_elements r.size pieces) ∙ all-sized in
      sized_elements r.size over ∙ ap (is_sized r.size) over-elements
      ∙ sized-append r.size (take i xs) (new ++ drop j xs)
      ∙ and_from (is_sized r.size (take i xs)) (is_sized r.size (new ++ drop j xs)) (sized_part r.size i xs old).0
      (sized-append r.size new (drop j xs) ∙ and_from (is_sized r.size new) (is_sized r.size (drop j xs)) is.sized (sized_part r.size j xs old).1)

  over-many : length over ≡ length pieces
  over-many = same-many r.size pieces over is.one all-sized over-sized over-lengths

  order : first ≤ behind
  order = (let run = start-end r.counts i j (omega arith) in omega arith)

  end_within : behind ≤ length pieces
  end_within =
      let place : (end_place r.counts j).0 ≡ (end_place (map length pieces) j).0 = ap (λ (cs : List ℕ). (end_place cs j).0) counts in
      let last = ends pieces j whole.0 in
      omega arith

  -- only the pieces of the run are others
  pub over_is : splice pieces first behind placed ≡ over
  unfolding overwritten
  over_is =
      let start : first ≡ (start_place (map length pieces) i).0 = ap (λ (cs : List ℕ). (start_place cs i).0) counts in
      let end : behind ≡ suc (end_place (map length pieces) j).0 = ap (λ (cs : List ℕ). suc (end_place cs j).0) counts in
      let left : take first pieces ≡ take first over =
      ap (λ (n : ℕ). take n pieces) start ∙ sym (overwritten-before pieces i j new refl low) ∙ ap (λ (n : ℕ). take n over) (sym start) in
      let right : drop behind pieces ≡ drop behind over =
      ap (λ (n : ℕ). drop n pieces) end ∙ sym (overwritten-behind pieces i j new refl low) ∙ ap (λ (n : ℕ). drop n over) (sym end) in
      let before = order in
      ap₂ (λ (xs ys : List BranchPiece). xs ++ (placed ++ ys)) left right
      ∙ sym (append_assoc (take first over) placed (drop behind over))
      ∙ ap (λ (xs : List BranchPiece). (xs ++ placed) ++ drop behind over) (sym (take-take first behind over before))
      ∙ ap (λ (xs : List BranchPiece). xs ++ drop behind over) (take-append-drop first (take behind over))
      ∙ take-append-drop behind over

  run_are : run_places r i (length new) ≡ range_with_len first (behind - first)
  run_are = elim (cases_Bool (length new == 0)) [
    | inl none ↦ (let never = eqb-true (length new) 0 none in absurd (omega arith))
    | inr more ↦ cond-false (length new == 0) [] (range_with_len first (behind - first)) more
  ]

  seen : AreSeen d b first behind
  seen =
      let all = pieces-many d b is.root.found in
      let end = end_within in
      seen-from d b first behind order (omega arith) (ap (are_branches d b r) (sym run_are) ∙ is.seen)

  pub run-named : AreNamed d b r pieces first behind handles [] placed
  run-named =
      let before = order in
      let end = end_within in
      let many = pieces-many d b is.root.found in
      let all = over-many in
      let here = length-take (behind - first) (drop first r.branches) in
      let rest = length-drop first r.branches in
      let there = length-drop first (take behind over) in
      let front = length-take behind over in
      record {
        order = before;
        within = end;
        as_many = omega arith;
        once = distinct-rest b handles seen.once;
        from = λ h there. inl there;
        freed_old = λ h gone. absurd (let none = gone.1 in omega arith);
        freed_not = λ h gone. absurd (let none = gone.1 in omega arith);
        freed_all = λ h old absent. absurd (absent old);
      }

  can : CanPut d b r pieces first behind handles [] placed
  can = record {
    raw = is.root.raw;
    raw_olds = seen-raw d b first behind seen;
    apart = distinct-first b handles seen.once;
  }

  abbrev pub run_root : Root
  run_root = new_root d b r pieces first behind handles [] placed

  -- the root stays
  pub root_is : run_root ≡ r
  root_is =
      let sum : first + (behind - first) ≡ behind = (let before = order in omega arith) in
      let counts_are : run_root.counts ≡ r.counts =
      counts-spliced r.counts first behind pieces placed counts ∙ ap (map length) over_is ∙ over-lengths ∙ sym counts in
      let branches : splice r.branches first behind handles ≡ r.branches =
      ap (λ (xs : List ℕ). take first r.branches ++ (handles ++ xs)) (ap (λ (n : ℕ). drop n r.branches) (sym sum) ∙ sym (drop-drop (behind - first) first r.branches))
      ∙ ap (λ (xs : List ℕ). take first r.branches ++ xs) (take-append-drop (behind - first) (drop first r.branches))
      ∙ take-append-drop first r.branches in
      ap₂ (λ (cs hs : List ℕ). record { size = r.size; counts = cs; branches = hs }) counts_are branches

  -- the pieces of the run weigh what they did
  old_fit : IsValid d → all_fit r.size (drop first (take behind pieces)) ≡ true
  old_fit valid =
      let run : List BranchPiece = drop first (take behind pieces) in
      let many = pieces-many d b is.root.found in
      let all = end_within in
      let there = length-drop first (take behind pieces) in
      let front = length-take behind pieces in
      list_all-from_at (λ p. fits_branch r.size p) run [] (λ k less.
      ap (fits_branch r.size) (get_or-drop first (take behind pieces) k [] ∙ get_or-take behind pieces (first + k) [] (omega arith))
      ∙ branch-fits d b is.root.found valid (first + k) (omega arith) (seen.branch (first + k) (omega arith) (omega arith)))

  run_lengths : map length placed ≡ map length (drop first (take behind pieces))
  run_lengths =
      let size : BranchPiece → ℕ = λ p. length p in
      let turned : (ps : List BranchPiece) → map size (drop first (take behind ps)) ≡ drop first (take behind (map size ps)) =
      λ ps. sym (drop-map size first (take behind ps)) ∙ ap (drop first) (sym (take-map size behind ps)) in
      turned over ∙ ap (λ (ns : List ℕ). drop first (take behind ns)) over-lengths ∙ sym (turned pieces)

  placed_fits : IsValid d → all_fit r.size placed ≡ true
  placed_fits valid =
      same-fit r.size (drop first (take behind pieces)) placed is.one (sized_run r.size first behind pieces all-sized) (sized_run r.size first behind over over-sized) run_lengths
      ∙ old_fit valid

  abbrev pub run_blocks : List (ℕ × Block)
  run_blocks = branch_blocks d r.size handles placed

  pub run-handles : handles_of run_blocks ≡ handles
  run-handles = branch_blocks-handles d r.size handles placed run-named.as_many

  elsewhere : (h : ℕ) → (Contains handles h → ⊥) → get (with_blocks d run_blocks).blocks h ≡ get d.blocks h
  elsewhere h other = put_elsewhere d run_blocks h (λ there. other (subst (λ xs. Contains xs h) run-handles there))

  pub run-valid : IsValid d → IsValid (with_blocks d run_blocks)
  run-valid valid =
      put_valid d run_blocks valid
      (branch_blocks-valid d r.size handles placed valid (can_new d b r pieces first behind handles [] placed can run-named valid) (placed_fits valid))

  -- So the document has these blocks, and all others.
  pub run-put : IsValid d → AreReplaced d b r pieces first behind handles [] placed (with_blocks d run_blocks)
  run-put valid = record {
    valid = run-valid valid;
    map_block = put_map_block d run_blocks;
    root =
        elsewhere b (put-apart d b r pieces first behind handles [] placed can run-named)
        ∙ raw_is d b (root_bytes run_root) is.root.raw (sym facts.1 ∙ ap root_bytes (sym root_is));
    put = branch_blocks-stand d (with_blocks d run_blocks) r.size handles placed run-named.as_many (put_stands d run_blocks (ap all_distinct run-handles ∙ run-named.once));
    elsewhere = λ h other _. elsewhere h (λ there. other (contains_later b handles h there));
    gone = λ h there. absurd (let none = there.1 in omega arith);
  }

  pub run-looked : handles_at r (run_places r i (length new)) ≡ handles
  run-looked = ap (handles_at r) run_are ∙ seen-blocks_are d b first behind seen

  pub run-stays : ChangesArray d (with_blocks d run_blocks) b (run_places r i (length new))
  run-stays = record {
    stays = record {
      map_block = put_map_block d run_blocks;
      blocks = λ h live other. elsewhere h (λ there.
          other (contains_later b (handles_at r (run_places r i (length new))) h (subst (λ hs. Contains hs h) (sym run-looked) there)));
    };
    attributes = ap (option_map (λ (x : Block). x.attributes)) (elsewhere b (put-apart d b r pieces first behind handles [] placed can run-named));
  }
