-- The documents after edits of large arrays, their refusals, and look-ups.
use Rattle.std.specs.Prelude.{◌+◌, ◌-◌, ◌*◌, ◌/◌, ◌%◌, ◌++◌, ◌∷◌, ℕ, suc, List, [], Bool, not, ◌==◌, ◌&&◌, ◌||◌, nat_le, nat_lt, length, take, drop, get_or, if◌then◌else◌, is_none}
use Rattle.std.specs.List.{flat_map, list_any, range_with_len}
use Rattle.geos_model.specs.Refusal.{Conditions}
use Rattle.geos_model.specs.Array.{cut_evenly}
use Rattle.geos_model.specs.Heap.{capacity}
use Rattle.geos_model.specs.Document.{Block, Document, is_live, is_raw, raw_bytes_of, with_blocks}
use Rattle.geos_model.specs.Chain.{free_handles, new_handles}
use Rattle.geos_model.specs.declared.fault.Fault.TheVariants.{NoBlock, WrongKind, NotArray, NoElement, BadChain, IsMap, Range, TooBig, NoHandles}
use Rattle.geos_model.specs.declared.command.Body.TheVariants.{Raw}
use Rattle.geos_model.specs.Pieces.{BranchPiece, branch_room, elements_in_pieces}
use Rattle.geos_model.specs.LargeLayout.{Root, greatest_element_size, most_branches, total_count, root_bytes, root_of, branch_bytes}
use Rattle.geos_model.specs.Spread.{start_place, end_place}
use Rattle.geos_model.specs.LargeBlocks.{root_at, pieces_at}
use Rattle.geos_model.specs.LargeWindow.{looked_at, are_branches, window, freed_handles, replaced_root, raw_block, elements_replaced, elements_overwritten}

-- Bytes as elements.

-- one element where sizes vary, as many as fit into the bytes where they don't
abbrev pub cut_elements : ℕ → List ℕ → BranchPiece
cut_elements size bytes = if size == 0 then bytes ∷ [] else cut_evenly (length bytes / size) size bytes

-- the bytes are no whole number of elements
abbrev pub ends_within_element : ℕ → List ℕ → Bool
ends_within_element size bytes = not (size == 0) && not (length bytes % size == 0)

-- how many elements they are, one begun counted
abbrev pub element_count : ℕ → List ℕ → ℕ
element_count size bytes = if size == 0 then 1 else (length bytes + (size - 1)) / size

-- they are one element that fits into no branch
abbrev pub is_too_long : ℕ → List ℕ → Bool
is_too_long size bytes = size == 0 && nat_lt branch_room (length bytes + 2)

-- The documents after the edits.

-- an array that is made: its root, and its branch
abbrev pub new_array_blocks : Document → ℕ → ℕ → List (ℕ × Block)
new_array_blocks d uid size =
    let hs = new_handles d 2 in
    let h = get_or hs 1 0 in (
      get_or hs 0 0,
      record {
        attributes = record { user_id = uid; heap_type = 0 };
        body = Raw (root_bytes (record { size = size; counts = 0 ∷ []; branches = h ∷ [] }));
      },
    ) ∷ raw_block d h (branch_bytes size []) ∷ []

unfoldable pub large_created : Document → ℕ → ℕ → Document
large_created d uid size = with_blocks d (new_array_blocks d uid size)

abbrev pub large_inserted : Document → ℕ → ℕ → List ℕ → Document
large_inserted d b i bytes = elements_replaced d b i i (cut_elements (root_at d b).size bytes)

abbrev pub large_set : Document → ℕ → ℕ → List ℕ → Document
large_set d b i bytes =
    if (root_at d b).size == 0 then elements_replaced d b i (i + 1) (bytes ∷ [])
    else elements_overwritten d b i (cut_elements (root_at d b).size bytes)

abbrev pub large_deleted : Document → ℕ → ℕ → ℕ → Document
large_deleted d b i n = elements_replaced d b i (i + n) []

-- Refusals of edits and look-ups. Where an earlier one applies, a later one may be anything; but those of branches hold
-- only where the root and what is given refuse nothing, so that no branch is looked at before.

abbrev pub on_root : Document → ℕ → Conditions
on_root d b =
    (NoBlock, not (is_live d b)) ∷ (WrongKind, not (is_raw d b))
    ∷ (NotArray, is_none (root_of (raw_bytes_of d b))) ∷ []

abbrev pub create_large_conditions : Document → ℕ → Conditions
create_large_conditions d size =
    (Range, nat_lt greatest_element_size size) ∷ (NoHandles, nat_lt (length (free_handles d)) 2) ∷ []

-- of the branches, where nothing before refuses the edit
abbrev pub on_window : Bool → Document → ℕ → ℕ → ℕ → BranchPiece → Conditions
on_window accepted d b i j new =
    let r = root_at d b in
    let w = window d b i j new in
    let there = accepted && not ((i == j) && (length new == 0)) in
    (BadChain, there && not (are_branches d b r (looked_at r.size (pieces_at d r) i j new)))
    ∷ (IsMap, there && list_any (λ h. h == d.map_block) (freed_handles w))
    ∷ (NoHandles, there && nat_lt (length (free_handles d)) (length w.pieces - length w.olds))
    ∷ (NoHandles, there && nat_lt most_branches (length (replaced_root r w).branches)) ∷ []

abbrev pub insert_large_conditions : Document → ℕ → ℕ → List ℕ → Conditions
insert_large_conditions d b i bytes =
    let r = root_at d b in
    let range = nat_lt (total_count r) i || ends_within_element r.size bytes in
    let long = is_too_long r.size bytes in
    on_root d b ++ (Range, range) ∷ (TooBig, long)
    ∷ on_window (not (range || long)) d b i i (cut_elements r.size bytes)

-- the branches that have the elements of a run
abbrev pub run_places : Root → ℕ → ℕ → List ℕ
run_places r i n =
    let first = (start_place r.counts i).0 in
    if n == 0 then [] else range_with_len first (suc (end_place r.counts (i + n)).0 - first)

abbrev pub on_run : Bool → Document → ℕ → ℕ → ℕ → Conditions
on_run accepted d b i n =
    let r = root_at d b in (BadChain, accepted && not (are_branches d b r (run_places r i n))) ∷ []

abbrev pub set_large_conditions : Document → ℕ → ℕ → List ℕ → Conditions
set_large_conditions d b i bytes =
    let r = root_at d b in
    let past = nat_lt (total_count r) (i + element_count r.size bytes) in
    let uneven = ends_within_element r.size bytes in
    let long = is_too_long r.size bytes in
    on_root d b ++ (NoElement, past) ∷ (Range, uneven) ∷ (TooBig, long)
    ∷ (if r.size == 0 then on_window (not (past || long)) d b i (i + 1) (bytes ∷ [])
    else on_run (not (past || uneven)) d b i (element_count r.size bytes))

abbrev pub delete_large_conditions : Document → ℕ → ℕ → ℕ → Conditions
delete_large_conditions d b i n =
    let past = nat_lt (total_count (root_at d b)) (i + n) in
    on_root d b ++ (NoElement, past) ∷ on_window (not past) d b i (i + n) []

abbrev pub get_large_conditions : Document → ℕ → ℕ → Conditions
get_large_conditions d b i =
    let past = nat_le (total_count (root_at d b)) i in
    on_root d b ++ (NoElement, past) ∷ on_run (not past) d b i 1

abbrev pub read_large_conditions : Document → ℕ → ℕ → ℕ → Conditions
read_large_conditions d b i n =
    let r = root_at d b in
    let past = nat_lt (total_count r) (i + n) in
    let long = (r.size == 0) || nat_lt capacity (n * r.size) in
    on_root d b ++ (NoElement, past) ∷ (Range, long) ∷ on_run (not (past || long)) d b i n

-- What look-ups answer.

abbrev pub large_count : Document → ℕ → ℕ
large_count d b = total_count (root_at d b)

abbrev pub large_element : Document → ℕ → ℕ → List ℕ
large_element d b i = get_or (elements_in_pieces (pieces_at d (root_at d b))) i []

abbrev pub large_run : Document → ℕ → ℕ → ℕ → List ℕ
large_run d b i n = flat_map (λ x. x) (take n (drop i (elements_in_pieces (pieces_at d (root_at d b)))))
