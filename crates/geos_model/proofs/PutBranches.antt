-- The document in which a root and some branches are put in, and others taken out.
use Rattle.std.proofs.Common.{◌≡◌, ℕ, suc, ◌≤◌, true, false, nat_le, List, [], ◌∷◌, ◌++◌, length, take, drop, map, Option, Some, None, is_some, refl, sym, ap, subst, ◌∙◌, inl, inr, arith, length-append, length-drop, leb-true, le-leb}
use Rattle.std.proofs.lemmas.Bool.{and_parts, and_from, true≢false}
use Rattle.std.proofs.lemmas.List.{length-map, length-take}
use Rattle.std.proofs.lemmas.List.Elements.{All-nil, All-cons, All-head, All-tail}
use Rattle.std.specs.List.{All, AllZip, Contains, zip}
use Rattle.std.specs.Option.{option_map_or}
use Rattle.std.specs.FinMap.{get}
use Rattle.geos_model.specs.Heap.{capacity}
use Rattle.geos_model.specs.ElementArray.{all_distinct}
use Rattle.geos_model.specs.Document.{Block, Document, IsValid, IsValidBlock, most_blocks, is_vm_handle, is_live, is_raw, no_attributes, attributes_of, handles_of, with_blocks, without_blocks}
use Rattle.geos_model.proofs.Validity.{attributes-fit, raw-typed}
use Rattle.geos_model.proofs.Chains.{contains_cases, contains_first, contains_later}
use Rattle.geos_model.proofs.BlockLists.{put_elsewhere, put_stands, put_map_block, put_valid, taken_elsewhere, taken_gone, taken_map_block, taken_valid}
use Rattle.geos_model.specs.Pieces.{BranchPiece, piece_weight, branch_room, fits_branch, all_fit}
use Rattle.geos_model.specs.LargeLayout.{Root, root_bytes, branch_bytes}
use Rattle.geos_model.specs.LargeWindow.{raw_block}
use Rattle.geos_model.proofs.BranchBytes.{length-branch_bytes}
use Rattle.geos_model.proofs.Layouts.{HasBranch, raw-handle, raw-live}
use Rattle.geos_model.proofs.DistinctHandles.{distinct-cons}
use Rattle.geos_model.proofs.Replacing.{raw-there, olds, new_root, AreNamed, AreReplaced}

-- branches under their handles
abbrev pub branch_blocks : Document → ℕ → List ℕ → List BranchPiece → List (ℕ × Block)
branch_blocks d size news placed = map (λ p. raw_block d p.0 (branch_bytes size p.1)) (zip news placed)

pub branch_blocks-handles : (d : Document) (size : ℕ) (news : List ℕ) (placed : List BranchPiece) → length news ≡ length placed → handles_of (branch_blocks d size news placed) ≡ news
branch_blocks-handles d size [] [] long = refl
branch_blocks-handles d size [] (p ∷ ps) long = absurd (let none : 0 ≡ suc (length ps) = long in omega arith)
branch_blocks-handles d size (h ∷ hs) [] long = absurd (let none : suc (length hs) ≡ 0 = long in omega arith)
branch_blocks-handles d size (h ∷ hs) (p ∷ ps) long =
    let same : suc (length hs) ≡ suc (length ps) = long in ap (λ (xs : List ℕ). h ∷ xs) (branch_blocks-handles d size hs ps (omega arith))

-- where they stand there are these branches
pub branch_blocks-stand : (d new : Document) (size : ℕ) (news : List ℕ) (placed : List BranchPiece) → length news ≡ length placed
    → All (λ p. get new.blocks p.0 ≡ Some p.1) (branch_blocks d size news placed) → AllZip (HasBranch new size) news placed
branch_blocks-stand d new size [] [] long stand = tt
branch_blocks-stand d new size [] (p ∷ ps) long stand = absurd (let none : 0 ≡ suc (length ps) = long in omega arith)
branch_blocks-stand d new size (h ∷ hs) [] long stand = absurd (let none : suc (length hs) ≡ 0 = long in omega arith)
branch_blocks-stand d new size (h ∷ hs) (p ∷ ps) long stand =
    let same : suc (length hs) ≡ suc (length ps) = long in
    let block : ℕ × Block = raw_block d h (branch_bytes size p) in (
      raw-there new h block.1 (branch_bytes size p) (All-head (λ q. get new.blocks q.0 ≡ Some q.1) block (branch_blocks d size hs ps) stand) refl,
      branch_blocks-stand d new size hs ps (omega arith) (All-tail (λ q. get new.blocks q.0 ≡ Some q.1) block (branch_blocks d size hs ps) stand),
    )

-- A handle under which a raw block can be put with the attributes that it has.
pub record CanHave (d : Document) (h : ℕ) : Type 0 where
  pub handle : is_vm_handle h ≡ true
  pub typed : (attributes_of d h).heap_type ≡ 0

pub can_put : (d : Document) (h : ℕ) (bytes : List ℕ) → IsValid d → CanHave d h → length bytes ≤ capacity → IsValidBlock h (raw_block d h bytes).1
can_put d h bytes valid can few = record {
  handle = can.handle;
  attributes = attributes-fit d h valid;
  body = le-leb (length bytes) capacity few;
  typed = λ _. can.typed;
}

pub branch_blocks-valid : (d : Document) (size : ℕ) (news : List ℕ) (placed : List BranchPiece) → IsValid d → ((h : ℕ) → Contains news h → CanHave d h) → all_fit size placed ≡ true
    → All (λ p. IsValidBlock p.0 p.1) (branch_blocks d size news placed)
branch_blocks-valid d size [] placed valid can fit = All-nil (λ p. IsValidBlock p.0 p.1)
branch_blocks-valid d size (h ∷ hs) [] valid can fit = All-nil (λ p. IsValidBlock p.0 p.1)
branch_blocks-valid d size (h ∷ hs) (p ∷ ps) valid can fit =
    let parts = and_parts (fits_branch size p) (all_fit size ps) fit in
    let most = leb-true (piece_weight size p) branch_room parts.0 in
    let long = length-branch_bytes size p in
    All-cons (λ q. IsValidBlock q.0 q.1) (raw_block d h (branch_bytes size p)) (branch_blocks d size hs ps)
    (can_put d h (branch_bytes size p) valid (can h (contains_first h hs)) (omega arith))
    (branch_blocks-valid d size hs ps valid (λ x there. can x (contains_later h hs x there)) parts.1)

-- a block that isn't live has the attributes of none
pub no_type : (d : Document) (h : ℕ) → is_live d h ≡ false → (attributes_of d h).heap_type ≡ 0
no_type d h free = by_block (get d.blocks h) free
  where
    by_block : (o : Option Block) → is_some o ≡ false → (option_map_or (λ b. b.attributes) o no_attributes).heap_type ≡ 0
    by_block None free = refl
    by_block (Some b) free = absurd (cc free)

-- a root has as many counts as branches, with others in the place of some
pub new_root-many : (d : Document) (b : ℕ) (r : Root) (pieces : List BranchPiece) (first behind : ℕ) (news freed : List ℕ) (placed : List BranchPiece)
    → length r.branches ≡ length r.counts → length news ≡ length placed
    → let root = new_root d b r pieces first behind news freed placed in length root.branches ≡ length root.counts
new_root-many d b r pieces first behind news freed placed same as_many =
    let mapped = length-map placed (λ (p : BranchPiece). length p) in
    let front_counts = length-take first r.counts in
    let front_branches = length-take first r.branches in
    let back_counts = length-drop behind r.counts in
    let back_branches = length-drop behind r.branches in
    let inner_counts = length-append (map (λ p. length p) placed) (drop behind r.counts) in
    let inner_branches = length-append news (drop behind r.branches) in
    let all_counts = length-append (take first r.counts) (map (λ p. length p) placed ++ drop behind r.counts) in
    let all_branches = length-append (take first r.branches) (news ++ drop behind r.branches) in
    omega arith

-- a raw block can have other bytes
raw-can : (d : Document) (h : ℕ) → IsValid d → is_raw d h ≡ true → CanHave d h
raw-can d h valid raw =
    let low = raw-handle d valid h raw in record {
      handle = and_from (nat_le 1 h) (nat_le h most_blocks) (le-leb 1 h low.0) (le-leb h most_blocks low.1);
      typed = raw-typed d h valid raw;
    }

module _ (d : Document) (b : ℕ) (r : Root) (pieces : List BranchPiece) (first behind : ℕ) (news freed : List ℕ) (placed : List BranchPiece) where
  abbrev root : Root
  root = new_root d b r pieces first behind news freed placed

  abbrev old_ones : List ℕ
  old_ones = olds d b r pieces first behind news freed placed

  abbrev pub put_in : List (ℕ × Block)
  put_in = raw_block d b (root_bytes root) ∷ branch_blocks d r.size news placed

  abbrev taken : Document
  taken = without_blocks d freed

  abbrev pub replaced : Document
  replaced = with_blocks taken put_in

  -- The root and the branches that others replace stand there.
  pub record CanPut : Type 0 where
    pub raw : is_raw d b ≡ true
    pub raw_olds : (h : ℕ) → Contains old_ones h → is_raw d h ≡ true
    pub apart : Contains old_ones b → ⊥

  -- What comes has room in blocks, and the map block doesn't go.
  pub record FitsPut : Type 0 where
    pub fit : all_fit r.size placed ≡ true
    pub long : length (root_bytes root) ≤ capacity
    pub no_map : Contains freed d.map_block → ⊥

  module _ (can : CanPut) (named : AreNamed d b r pieces first behind news freed placed) where
    pub put-apart : Contains news b → ⊥
    put-apart fresh = elim (named.from b fresh) [
      | inl old ↦ can.apart old
      | inr free ↦ true≢false (sym (raw-live d b can.raw) ∙ free.1)
    ]

    pub can_new : IsValid d → (h : ℕ) → Contains news h → CanHave d h
    can_new valid h fresh = elim (named.from h fresh) [
      | inl old ↦ raw-can d h valid (can.raw_olds h old)
      | inr free ↦ record { handle = free.0; typed = no_type d h free.1 }
    ]

    pub put-handles : handles_of put_in ≡ b ∷ news
    put-handles = ap (λ (hs : List ℕ). b ∷ hs) (branch_blocks-handles d r.size news placed named.as_many)

    stand : All (λ p. get replaced.blocks p.0 ≡ Some p.1) put_in
    stand = put_stands taken put_in (ap all_distinct put-handles ∙ distinct-cons b news put-apart named.once)

    -- what is no block that is put in is what it was, or gone
    beside : (h : ℕ) → (Contains (b ∷ news) h → ⊥) → get replaced.blocks h ≡ get taken.blocks h
    beside h other = put_elsewhere taken put_in h (λ there. other (subst (λ xs. Contains xs h) put-handles there))

    pub put-map : replaced.map_block ≡ d.map_block
    put-map = put_map_block taken put_in ∙ taken_map_block d freed

    pub put-root : get replaced.blocks b ≡ Some (raw_block d b (root_bytes root)).1
    put-root = All-head (λ p. get replaced.blocks p.0 ≡ Some p.1) (raw_block d b (root_bytes root)) (branch_blocks d r.size news placed) stand

    pub put-elsewhere : (h : ℕ) → (Contains (b ∷ news) h → ⊥) → (Contains freed h → ⊥) → get replaced.blocks h ≡ get d.blocks h
    put-elsewhere h other not_gone = beside h other ∙ taken_elsewhere d freed h not_gone

    pub put-valid : IsValid d → FitsPut → IsValid replaced
    put-valid valid fits =
        put_valid taken put_in (taken_valid d freed valid fits.no_map)
        (All-cons (λ p. IsValidBlock p.0 p.1) (raw_block d b (root_bytes root)) (branch_blocks d r.size news placed)
        (can_put d b (root_bytes root) valid (raw-can d b valid can.raw) fits.long)
        (branch_blocks-valid d r.size news placed valid (can_new valid) fits.fit))

    pub put-replaced : IsValid d → FitsPut → AreReplaced d b r pieces first behind news freed placed replaced
    put-replaced valid fits = record {
      valid = put-valid valid fits;
      map_block = put-map;
      root = put-root;
      put = branch_blocks-stand d replaced r.size news placed named.as_many (All-tail (λ p. get replaced.blocks p.0 ≡ Some p.1) (raw_block d b (root_bytes root)) (branch_blocks d r.size news placed) stand);
      elsewhere = put-elsewhere;
      gone = λ h free.
          beside h (λ there. elim (contains_cases b news h there) [
            | inl is ↦ can.apart (subst (Contains old_ones) (sym is) (named.freed_old h free))
            | inr fresh ↦ named.freed_not h free fresh
          ]) ∙ taken_gone d freed h free;
    }
