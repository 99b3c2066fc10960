-- The blocks of a large array, by their bytes: from the array to them and back.
use Rattle.std.proofs.Common.{◌≡◌, ℕ, zero, suc, ◌+◌, ◌<◌, ◌≤◌, Bool, true, false, not, ◌&&◌, ◌||◌, ◌==◌, if◌then◌else◌, nat_le, nat_lt, List, [], ◌∷◌, length, map, get_or, filter, replicate, Option, Some, None, is_some, unwrap_or, refl, sym, ap, ap₂, subst, ◌∙◌, inl, inr, arith, zero-add, append-nil, leb-true, le-leb, lt-ltb}
use Rattle.std.proofs.lemmas.Bool.{and_parts, and_from, cond-true, eq-eqb, ne_eqb}
use Rattle.std.proofs.lemmas.List.{length-map, length-replicate, get_or-map, ext_get_or}
use Rattle.std.proofs.lemmas.List.FromFn.{length-map-range_with_len, get_or-map-range_with_len}
use Rattle.std.specs.List.{AllZip, Contains, list_all, range_with_len}
use Rattle.std.specs.Option.{option_map, option_map_or}
use Rattle.std.specs.FinMap.{get}
use Rattle.geos_model.specs.ElementArray.{all_distinct}
use Rattle.geos_model.specs.Document.{Block, Document, IsValid, most_blocks, no_attributes, is_live, is_raw, raw_bytes_of, attributes_of}
use Rattle.geos_model.specs.Places.{attributes_under}
use Rattle.geos_model.specs.Chain.{is_linked, links, is_member, chain}
use Rattle.geos_model.specs.ChainLaws.{IsForest, nothing, block, AreMembers}
use Rattle.geos_model.proofs.Arrays.{are_words}
use Rattle.geos_model.proofs.Validity.{raw_bytes-few}
use Rattle.geos_model.proofs.Chains.{contains_cases, contains_first, contains_later, raw_block, member-handle, walk-chain, chain-members}
use Rattle.geos_model.specs.Pieces.{BranchPiece, piece_weight, branch_room, fits_branch, all_fit, elements_in_pieces}
use Rattle.geos_model.specs.LargeLayout.{Root, greatest_element_size, root_bytes, is_root, root_of, branch_bytes, branch_of}
use Rattle.geos_model.specs.LargeBlocks.{root_at, branch_at, pieces_at, IsLargeArray}
use Rattle.geos_model.proofs.RootBytes.{FitsRoot, root-again, root_linked, root_links, root_of-is}
use Rattle.geos_model.proofs.BranchBytes.{FitsBranch, is_sized, branch-again, branch_linked, branch_links, branch-few, branch_of-is, length-branch_bytes}
use Rattle.geos_model.proofs.Pairs.{pairs-length, pairs-at, pairs-from_at}
use Rattle.geos_model.proofs.DistinctHandles.{distinct-few}

-- the block under a handle is a branch with these elements
abbrev pub HasBranch : Document → ℕ → ℕ → BranchPiece → Type 0
HasBranch d size h piece = (is_raw d h ≡ true) × (raw_bytes_of d h ≡ branch_bytes size piece)

abbrev pub all_sized : ℕ → List BranchPiece → Bool
all_sized size pieces = list_all (λ x. is_sized size x) pieces

-- The blocks from a root on have these pieces.
pub record HasLayout (d : Document) (b : ℕ) (r : Root) (pieces : List BranchPiece) : Type 0 where
  pub raw : is_raw d b ≡ true
  pub bytes : raw_bytes_of d b ≡ root_bytes r
  pub is : is_root r ≡ true
  pub counts : r.counts ≡ map length pieces
  pub once : all_distinct (b ∷ r.branches) ≡ true
  pub branches : AllZip (HasBranch d r.size) r.branches pieces
  pub fit : all_fit r.size pieces ≡ true
  pub sized : all_sized r.size pieces ≡ true

-- the size of a root's elements
pub root-small : (r : Root) → is_root r ≡ true → r.size < 65536
root-small r is =
    let parts = and_parts (nat_lt 0 (length r.counts) && nat_le r.size greatest_element_size) (length r.counts == 1 || list_all (λ c. nat_lt 0 c) r.counts) is in
    let small = leb-true r.size greatest_element_size (and_parts (nat_lt 0 (length r.counts)) (nat_le r.size greatest_element_size) parts.0).1 in
    omega arith

-- a piece of such
pub piece-fits : (size : ℕ) (p : BranchPiece) (ps : List BranchPiece) → size < 65536 → all_fit size (p ∷ ps) ≡ true → all_sized size (p ∷ ps) ≡ true → FitsBranch size p
piece-fits size p ps small fit sized = record {
  small = small;
  room = (and_parts (fits_branch size p) (all_fit size ps) fit).0;
  sized = (and_parts (is_sized size p) (all_sized size ps) sized).0;
}

pub piece-fits_at : (size : ℕ) (ps : List BranchPiece) (k : ℕ) → size < 65536 → all_fit size ps ≡ true → all_sized size ps ≡ true → k < length ps → FitsBranch size (get_or ps k [])
piece-fits_at size [] k small fit sized low = absurd (omega arith)
piece-fits_at size (p ∷ ps) zero small fit sized low = piece-fits size p ps small fit sized
piece-fits_at size (p ∷ ps) (suc k) small fit sized low =
    piece-fits_at size ps k small (and_parts (fits_branch size p) (all_fit size ps) fit).1 (and_parts (is_sized size p) (all_sized size ps) sized).1 (omega arith)

-- how many elements each has is a word
pub counts-words : (size : ℕ) (ps : List BranchPiece) → size < 65536 → all_fit size ps ≡ true → all_sized size ps ≡ true → are_words (map length ps) ≡ true
counts-words size [] small fit sized = refl
counts-words size (p ∷ ps) small fit sized =
    let few = branch-few size p (piece-fits size p ps small fit sized) in
    and_from (nat_lt (length p) 65536) (are_words (map length ps)) (lt-ltb (length p) 65536 (omega arith))
    (counts-words size ps small (and_parts (fits_branch size p) (all_fit size ps) fit).1 (and_parts (is_sized size p) (all_sized size ps) sized).1)

handles-words : (hs : List ℕ) → ((h : ℕ) → Contains hs h → (1 ≤ h) × (h ≤ most_blocks)) → are_words hs ≡ true
handles-words [] low = refl
handles-words (h ∷ hs) low =
    let here = low h (contains_first h hs) in
    let most = here.1 in
    and_from (nat_lt h 65536) (are_words hs) (lt-ltb h 65536 (omega arith)) (handles-words hs (λ x there. low x (contains_later h hs x there)))

-- no link is 0, so all are there
all_links : (hs : List ℕ) → ((h : ℕ) → Contains hs h → (1 ≤ h) × (h ≤ most_blocks)) → filter (λ h. not (h == 0)) hs ≡ hs
all_links [] low = refl
all_links (h ∷ hs) low =
    let here = low h (contains_first h hs) in
    let some = here.0 in
    let keep : ℕ → Bool = λ x. not (x == 0) in
    cond-true (keep h) (h ∷ filter keep hs) (filter keep hs) (ap not (ne_eqb h 0 (λ is. omega arith)))
    ∙ ap (λ (xs : List ℕ). h ∷ xs) (all_links hs (λ x there. low x (contains_later h hs x there)))

-- a branch is a block of a chain, and links to none
branch_member : (d : Document) (size h : ℕ) (p : BranchPiece) → HasBranch d size h p → is_member d h ≡ true
branch_member d size h p has =
    and_from (is_raw d h) (is_linked (raw_bytes_of d h)) has.0 (ap is_linked has.1 ∙ branch_linked size p)

branches_forest : (d : Document) (size : ℕ) (hs : List ℕ) (ps : List BranchPiece) → AllZip (HasBranch d size) hs ps → IsForest d hs hs
branches_forest d size [] [] all = nothing
branches_forest d size [] (p ∷ ps) all = absurd all
branches_forest d size (h ∷ hs) [] all = absurd all
branches_forest d size (h ∷ hs) (p ∷ ps) all =
    let leaf : links (raw_bytes_of d h) ≡ [] = ap links (all.0).1 ∙ branch_links size p in
    block h hs [] hs (branch_member d size h p all.0) (subst (λ (xs : List ℕ). IsForest d xs []) (sym leaf) nothing) (branches_forest d size hs ps all.1)

branches_members : (d : Document) (size : ℕ) (hs : List ℕ) (ps : List BranchPiece) → AllZip (HasBranch d size) hs ps → (h : ℕ) → Contains hs h → is_member d h ≡ true
branches_members d size [] ps all h there = absurd (let low = there.1 in omega arith)
branches_members d size (x ∷ hs) [] all h there = absurd all
branches_members d size (x ∷ hs) (p ∷ ps) all h there = elim (contains_cases x hs h there) [
  | inl is ↦ subst (λ (y : ℕ). is_member d y ≡ true) is (branch_member d size x p all.0)
  | inr later ↦ branches_members d size hs ps all.1 h later
]

pub raw-handle : (d : Document) → IsValid d → (h : ℕ) → is_raw d h ≡ true → (1 ≤ h) × (h ≤ most_blocks)
raw-handle d valid h raw =
    let there = raw_block (get d.blocks h) raw in
    let parts = and_parts (nat_le 1 h) (nat_le h most_blocks) (valid.blocks h there.0 there.1).handle in
    (leb-true 1 h parts.0, leb-true h most_blocks parts.1)

pub raw-live : (d : Document) (h : ℕ) → is_raw d h ≡ true → is_live d h ≡ true
raw-live d h raw = let there = raw_block (get d.blocks h) raw in ap is_some there.1

-- it has attributes
pub raw-attributes : (d : Document) (h : ℕ) → is_raw d h ≡ true → attributes_under d h ≡ Some (attributes_of d h)
raw-attributes d h raw =
    let there = raw_block (get d.blocks h) raw in
    ap (λ (o : Option Block). option_map (λ x. x.attributes) o) there.1
    ∙ sym (ap (λ (o : Option Block). Some (option_map_or (λ x. x.attributes) o no_attributes)) there.1)

-- From the blocks to the array.
module _ (d : Document) (b : ℕ) (r : Root) (pieces : List BranchPiece) (valid : IsValid d) (has : HasLayout d b r pieces) where
  abbrev n : ℕ
  n = length pieces

  small : r.size < 65536
  small = root-small r has.is

  branch_handle : (h : ℕ) → Contains r.branches h → (1 ≤ h) × (h ≤ most_blocks)
  branch_handle h there = member-handle d valid h (branches_members d r.size r.branches pieces has.branches h there)

  handle : (h : ℕ) → Contains (b ∷ r.branches) h → (1 ≤ h) × (h ≤ most_blocks)
  handle h there = elim (contains_cases b r.branches h there) [
    | inl is ↦ subst (λ (x : ℕ). (1 ≤ x) × (x ≤ most_blocks)) is (raw-handle d valid b has.raw)
    | inr later ↦ branch_handle h later
  ]

  as_many : length r.branches ≡ n
  as_many = pairs-length (HasBranch d r.size) r.branches pieces has.branches

  count : length r.counts ≡ n
  count = ap length has.counts ∙ length-map pieces (λ (p : BranchPiece). length p)

  pub layout_root : FitsRoot r
  layout_root =
      let many = as_many in
      let counted = count in
      let few = distinct-few most_blocks (b ∷ r.branches) has.once (λ h there. (handle h there).1) in record {
        is = has.is;
        as_many = omega arith;
        few = omega arith;
        counts = ap are_words has.counts ∙ counts-words r.size pieces small has.fit has.sized;
        branches = handles-words r.branches branch_handle;
      }

  -- Reading the root gives it.
  pub layout-root_of : root_of (raw_bytes_of d b) ≡ Some r
  layout-root_of = ap root_of has.bytes ∙ root-again r layout_root

  pub layout-root : root_at d b ≡ r
  layout-root = ap (λ (o : Option Root). unwrap_or o (record { size = 0; counts = []; branches = [] })) layout-root_of

  -- And reading each branch gives its piece.
  pub layout-branch : (k : ℕ) → k < n → branch_at d r k ≡ Some (get_or pieces k [])
  layout-branch k low =
      let piece : BranchPiece = get_or pieces k [] in
      let h : ℕ = get_or r.branches k 0 in
      let here = pairs-at (HasBranch d r.size) r.branches pieces k 0 [] has.branches low in
      let length_here : get_or r.counts k 0 ≡ length piece =
      ap (λ (cs : List ℕ). get_or cs k 0) has.counts ∙ get_or-map (λ (p : BranchPiece). length p) pieces k [] 0 low in
      cond-true (is_raw d h) (branch_of r.size (get_or r.counts k 0) (raw_bytes_of d h)) None here.0
      ∙ ap₂ (λ (c : ℕ) (bytes : List ℕ). branch_of r.size c bytes) length_here here.1
      ∙ branch-again r.size piece (piece-fits_at r.size pieces k small has.fit has.sized low)

  pub layout-pieces : pieces_at d r ≡ pieces
  layout-pieces =
      let read : ℕ → BranchPiece = λ k. unwrap_or (branch_at d r k) (replicate (get_or r.counts k 0) (replicate r.size 0)) in
      let many = length-map-range_with_len read 0 (length r.branches) in
      let all = as_many in
      ext_get_or [] (map read (range_with_len 0 (length r.branches))) pieces (many ∙ all) (λ k low.
      let within : k < n = omega arith in
      get_or-map-range_with_len read 0 (length r.branches) k k [] (omega arith) (zero-add k)
      ∙ ap (λ (o : Option BranchPiece). unwrap_or o (replicate (get_or r.counts k 0) (replicate r.size 0))) (layout-branch k within))

  -- The blocks are a chain.
  root_member : is_member d b ≡ true
  root_member =
      and_from (is_raw d b) (is_linked (raw_bytes_of d b)) has.raw (ap is_linked has.bytes ∙ root_linked r layout_root)

  pub layout-chain : chain d b ≡ Some (b ∷ r.branches)
  layout-chain =
      let linked : links (raw_bytes_of d b) ≡ r.branches = ap links has.bytes ∙ root_links r layout_root ∙ all_links r.branches branch_handle in
      let below : IsForest d (links (raw_bytes_of d b)) r.branches =
      subst (λ (hs : List ℕ). IsForest d hs r.branches) (sym linked) (branches_forest d r.size r.branches pieces has.branches) in
      let forest : IsForest d (b ∷ []) (b ∷ r.branches) =
      subst (λ (hs : List ℕ). IsForest d (b ∷ []) (b ∷ hs)) (append-nil r.branches) (block b [] r.branches [] root_member below nothing) in
      walk-chain d b (b ∷ r.branches) valid (record { forest = forest; once = has.once })

  pub layout-array : IsLargeArray d b r.size (elements_in_pieces pieces)
  layout-array =
      let is = layout-root in
      let all = as_many in record {
        root = ap is_some layout-root_of;
        sized = ap (λ (q : Root). q.size) is;
        linked = layout-chain ∙ ap (λ (q : Root). Some (b ∷ q.branches)) (sym is);
        branch = λ k low.
            (let branches = ap (λ (q : Root). length q.branches) is in
            ap (λ (q : Root). is_some (branch_at d q k)) is ∙ ap is_some (layout-branch k (omega arith)));
        same = ap (λ (q : Root). elements_in_pieces (pieces_at d q)) is ∙ ap elements_in_pieces layout-pieces;
      }

-- From bytes to a root and to branches, whatever else there is.

pub list_all-from_at : {X : Type 0} (p : X → Bool) (xs : List X) (x : X) → ((k : ℕ) → k < length xs → p (get_or xs k x) ≡ true) → list_all p xs ≡ true
list_all-from_at p [] x each = refl
list_all-from_at p (y ∷ xs) x each =
    and_from (p y) (list_all p xs) (each zero (omega arith)) (list_all-from_at p xs x (λ k low. each (suc k) (omega arith)))

some_is : {X : Type 0} (o : Option X) (x : X) → is_some o ≡ true → o ≡ Some (unwrap_or o x)
some_is None x there = absurd (cc there)
some_is (Some y) x there = refl

if_found : (c : Bool) (o : Option BranchPiece) (p : BranchPiece) → (if c then o else None) ≡ Some p → (c ≡ true) × (o ≡ Some p)
if_found true o p is = (refl, is)
if_found false o p is = absurd (cc is)

-- a branch is a raw block
pub branch-raw : (d : Document) (b k : ℕ) → is_some (branch_at d (root_at d b) k) ≡ true → is_raw d (get_or (root_at d b).branches k 0) ≡ true
branch-raw d b k there =
    let r : Root = root_at d b in
    let h : ℕ = get_or r.branches k 0 in
    (if_found (is_raw d h) (branch_of r.size (get_or r.counts k 0) (raw_bytes_of d h)) (unwrap_or (branch_at d r k) []) (some_is (branch_at d r k) [] there)).0

-- elements of a size, where nothing was read
abbrev zeros : ℕ → ℕ → BranchPiece
zeros size count = replicate count (replicate size 0)

zeros-sized : (size count : ℕ) → is_sized size (zeros size count) ≡ true
zeros-sized size count = by_test (size == 0)
  where
    each : (k : ℕ) → list_all (λ x. length x == size) (zeros size k) ≡ true
    each zero = refl
    each (suc k) =
        let row : List ℕ = replicate size 0 in
        and_from (length row == size) (list_all (λ x. length x == size) (zeros size k)) (eq-eqb (length row) size (length-replicate {A = ℕ} size 0)) (each k)

    by_test : (c : Bool) → (c || list_all (λ x. length x == size) (zeros size count)) ≡ true
    by_test true = refl
    by_test false = each count

module _ (d : Document) (b : ℕ) (found : is_some (root_of (raw_bytes_of d b)) ≡ true) where
  abbrev r : Root
  r = root_at d b

  abbrev pieces : List BranchPiece
  pieces = pieces_at d r

  root_found : root_of (raw_bytes_of d b) ≡ Some r
  root_found = some_is (root_of (raw_bytes_of d b)) (record { size = 0; counts = []; branches = [] }) found

  pub root-facts : (is_root r ≡ true) × (root_bytes r ≡ raw_bytes_of d b) × (length r.branches ≡ length r.counts)
  root-facts = root_of-is (raw_bytes_of d b) r root_found

  abbrev read : ℕ → BranchPiece
  read k = unwrap_or (branch_at d r k) (zeros r.size (get_or r.counts k 0))

  pub pieces-many : length pieces ≡ length r.branches
  pieces-many = length-map-range_with_len read 0 (length r.branches)

  pub read-here : (k : ℕ) → k < length pieces → get_or pieces k [] ≡ read k
  read-here k low =
      let all = pieces-many in
      get_or-map-range_with_len read 0 (length r.branches) k k [] (omega arith) (zero-add k)

  -- what was read of a branch
  pub record IsBranchAt (k : ℕ) : Type 0 where
    pub has : HasBranch d r.size (get_or r.branches k 0) (get_or pieces k [])
    pub long : length (get_or pieces k []) ≡ get_or r.counts k 0
    pub sized : is_sized r.size (get_or pieces k []) ≡ true

  pub branch-read : (k : ℕ) → k < length pieces → is_some (branch_at d r k) ≡ true → IsBranchAt k
  branch-read k low there =
      let h : ℕ = get_or r.branches k 0 in
      let here : branch_at d r k ≡ Some (get_or pieces k []) =
      some_is (branch_at d r k) (zeros r.size (get_or r.counts k 0)) there ∙ ap Some (sym (read-here k low)) in
      let parts = if_found (is_raw d h) (branch_of r.size (get_or r.counts k 0) (raw_bytes_of d h)) (get_or pieces k []) here in
      let is = branch_of-is r.size (get_or r.counts k 0) (raw_bytes_of d h) (get_or pieces k []) (root-small r root-facts.0) parts.1 in
      record { has = (parts.0, sym is.1); long = is.0; sized = is.2 }

  -- such a piece has room in a branch
  pub branch-fits : IsValid d → (k : ℕ) → k < length pieces → is_some (branch_at d r k) ≡ true → fits_branch r.size (get_or pieces k []) ≡ true
  branch-fits valid k low there =
      let piece : BranchPiece = get_or pieces k [] in
      let few = raw_bytes-few d (get_or r.branches k 0) valid in
      let long : length (raw_bytes_of d (get_or r.branches k 0)) ≡ 10 + piece_weight r.size piece = ap length ((branch-read k low there).has).1 ∙ length-branch_bytes r.size piece in
      le-leb (piece_weight r.size piece) branch_room (omega arith)

  -- each piece, also one that wasn't read, has as many elements as the root says, of its size
  pub piece_is : (k : ℕ) → k < length pieces → (length (get_or pieces k []) ≡ get_or r.counts k 0) × (is_sized r.size (get_or pieces k []) ≡ true)
  piece_is k low = by_branch (branch_at d r k) refl
    where
      by_branch : (o : Option BranchPiece) → branch_at d r k ≡ o → (length (get_or pieces k []) ≡ get_or r.counts k 0) × (is_sized r.size (get_or pieces k []) ≡ true)
      by_branch None is =
          let count : ℕ = get_or r.counts k 0 in
          let row : List ℕ = replicate r.size 0 in
          let here : get_or pieces k [] ≡ zeros r.size count = read-here k low ∙ ap (λ (o : Option BranchPiece). unwrap_or o (zeros r.size count)) is in
          (ap (λ (p : BranchPiece). length p) here ∙ length-replicate {A = List ℕ} count row, ap (is_sized r.size) here ∙ zeros-sized r.size count)
      by_branch (Some p) is = (let here = branch-read k low (ap is_some is) in (here.long, here.sized))

  pub root-counts : r.counts ≡ map length pieces
  root-counts =
      let mapped = length-map pieces (λ (p : BranchPiece). length p) in
      let all = pieces-many in
      let as_many = root-facts.2 in
      ext_get_or 0 r.counts (map length pieces) (omega arith) (λ k low.
      let within : k < length pieces = omega arith in
      sym (piece_is k within).0 ∙ sym (get_or-map (λ (p : BranchPiece). length p) pieces k [] 0 within))

  pub pieces-sized : all_sized r.size pieces ≡ true
  pieces-sized = list_all-from_at (λ p. is_sized r.size p) pieces [] (λ k low. (piece_is k low).1)

-- From the array to its blocks.
module _ (d : Document) (b size : ℕ) (elements : BranchPiece) (valid : IsValid d) (array : IsLargeArray d b size elements) where
  abbrev root : Root
  root = root_at d b

  abbrev placed : List BranchPiece
  placed = pieces_at d root

  members : AreMembers d b (b ∷ root.branches)
  members = chain-members d b (b ∷ root.branches) array.linked

  branch_there : (k : ℕ) → k < length placed → is_some (branch_at d root k) ≡ true
  branch_there k low = (let all = pieces-many d b array.root in array.branch k (omega arith))

  pub array-layout : HasLayout d b root placed
  array-layout =
      let all = pieces-many d b array.root in
      let facts = root-facts d b array.root in record {
        raw = members.raw b (contains_first b root.branches);
        bytes = sym facts.1;
        is = facts.0;
        counts = root-counts d b array.root;
        once = members.once;
        branches = pairs-from_at (HasBranch d root.size) root.branches placed 0 [] (sym all) (λ k low. (branch-read d b array.root k low (branch_there k low)).has);
        fit = list_all-from_at (λ p. fits_branch root.size p) placed [] (λ k low. branch-fits d b array.root valid k low (branch_there k low));
        sized = pieces-sized d b array.root;
      }
