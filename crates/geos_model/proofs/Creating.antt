-- An array that is made.
use Rattle.std.proofs.Common.{◌≡◌, ℕ, suc, ◌<◌, ◌≤◌, Bool, true, ◌&&◌, nat_le, nat_lt, List, [], ◌∷◌, length, get_or, Option, Some, None, unwrap_or, refl, sym, ap, subst, ◌∙◌, arith, ltb-false, le-leb}
use Rattle.std.proofs.lemmas.Bool.{and_from}
use Rattle.std.proofs.lemmas.List.Elements.{All-nil, All-cons, All-head, All-tail}
use Rattle.std.specs.List.{All, Contains}
use Rattle.std.specs.Option.{option_map_or}
use Rattle.std.specs.FinMap.{get}
use Rattle.geos_model.specs.Refusal.{Conditions, first_refusal}
use Rattle.geos_model.specs.Heap.{capacity}
use Rattle.geos_model.specs.ElementArray.{all_distinct}
use Rattle.geos_model.specs.Document.{Block, Document, IsValid, IsValidBlock, no_attributes, with_blocks}
use Rattle.geos_model.specs.Chain.{chain_blocks, free_handles, new_handles}
use Rattle.geos_model.specs.ChainLaws.{AreNew}
use Rattle.geos_model.specs.declared.fault.Fault.TheVariants.{Range, NoHandles}
use Rattle.geos_model.specs.declared.command.Body.TheVariants.{Raw}
use Rattle.geos_model.proofs.Refusals.{none_applies, or_none}
use Rattle.geos_model.proofs.Chains.{contains_first, contains_later}
use Rattle.geos_model.proofs.BlockLists.{put_elsewhere, put_stands, put_map_block, put_valid}
use Rattle.geos_model.proofs.ChainCopies.{new-new}
use Rattle.geos_model.specs.Pieces.{are_spread}
use Rattle.geos_model.specs.LargeLayout.{Root, greatest_element_size, root_bytes, branch_bytes}
use Rattle.geos_model.specs.LargeBlocks.{pieces_at}
use Rattle.geos_model.specs.LargeWindow.{raw_block}
use Rattle.geos_model.specs.LargeEdits.{new_array_blocks, large_created, create_large_conditions}
use Rattle.geos_model.specs.LargeEditLaws.{IsCreated}
use Rattle.geos_model.proofs.RootBytes.{length-root_bytes}
use Rattle.geos_model.proofs.BranchBytes.{length-branch_bytes}
use Rattle.geos_model.proofs.Layouts.{HasLayout, layout-root, layout-pieces, layout-chain, layout-array}
use Rattle.geos_model.proofs.PieceLists.{sized-none}
use Rattle.geos_model.proofs.Replacing.{raw-there}
use Rattle.geos_model.proofs.PutBranches.{no_type, can_put}

-- a list of two by its elements
pub two_of : (hs : List ℕ) → length hs ≡ 2 → hs ≡ get_or hs 0 0 ∷ get_or hs 1 0 ∷ []
two_of [] two = absurd (let never : 0 ≡ 2 = two in omega arith)
two_of (x ∷ []) two = absurd (let never : 1 ≡ 2 = two in omega arith)
two_of (x ∷ y ∷ []) two = refl
two_of (x ∷ y ∷ z ∷ hs) two = absurd (let never : suc (suc (suc (length hs))) ≡ 2 = two in omega arith)

-- the root of an array that is made
abbrev pub made_root : Document → ℕ → Root
made_root d size = record { size = size; counts = 0 ∷ []; branches = get_or (new_handles d 2) 1 0 ∷ [] }

module _ (d : Document) (uid size : ℕ) (valid : IsValid d) (word : uid < 65536) (small : size ≤ greatest_element_size) (enough : 2 ≤ length (free_handles d)) where
  abbrev hs : List ℕ
  hs = new_handles d 2

  abbrev b : ℕ
  b = get_or hs 0 0

  abbrev h : ℕ
  h = get_or hs 1 0

  abbrev r : Root
  r = made_root d size

  abbrev root_block : Block
  root_block = record { attributes = record { user_id = uid; heap_type = 0 }; body = Raw (root_bytes r) }

  abbrev blocks : List (ℕ × Block)
  blocks = new_array_blocks d uid size

  abbrev made : Document
  made = with_blocks d blocks

  fresh : AreNew d 2 hs
  fresh = new-new d 2 enough

  hs_are : hs ≡ b ∷ h ∷ []
  hs_are = two_of hs fresh.as_many

  of_new : (x : ℕ) → Contains (b ∷ h ∷ []) x → Contains hs x
  of_new x there = subst (λ xs. Contains xs x) (sym hs_are) there

  b_there : Contains hs b
  b_there = of_new b (contains_first b (h ∷ []))

  h_there : Contains hs h
  h_there = of_new h (contains_later b (h ∷ []) h (contains_first h []))

  once : all_distinct (b ∷ h ∷ []) ≡ true
  once = ap all_distinct (sym hs_are) ∙ fresh.once

  stand : All (λ p. get made.blocks p.0 ≡ Some p.1) blocks
  stand = put_stands d blocks once

  root_there : get made.blocks b ≡ Some root_block
  root_there = All-head (λ p. get made.blocks p.0 ≡ Some p.1) (b, root_block) (raw_block d h (branch_bytes size []) ∷ []) stand

  branch_there : get made.blocks h ≡ Some (raw_block d h (branch_bytes size [])).1
  branch_there =
      All-head (λ p. get made.blocks p.0 ≡ Some p.1) (raw_block d h (branch_bytes size [])) []
      (All-tail (λ p. get made.blocks p.0 ≡ Some p.1) (b, root_block) (raw_block d h (branch_bytes size []) ∷ []) stand)

  made_valid : IsValid made
  made_valid =
      let root_long = length-root_bytes r refl in
      let branch_long = length-branch_bytes size [] in
      put_valid d blocks valid
      (All-cons (λ p. IsValidBlock p.0 p.1) (b, root_block) (raw_block d h (branch_bytes size []) ∷ []) (record {
        handle = fresh.handle b b_there;
        attributes = record { user_id = word; heap_type = omega arith };
        body = le-leb (length (root_bytes r)) capacity (omega arith);
        typed = λ _. refl;
      })
      (All-cons (λ p. IsValidBlock p.0 p.1) (raw_block d h (branch_bytes size [])) []
      (can_put d h (branch_bytes size []) valid (record { handle = fresh.handle h h_there; typed = no_type d h (fresh.not_live h h_there) }) (omega arith))
      (All-nil (λ p. IsValidBlock p.0 p.1))))

  layout : HasLayout made b r ([] ∷ [])
  layout =
      let root = raw-there made b root_block (root_bytes r) root_there refl in record {
        raw = root.0;
        bytes = root.1;
        is = and_from (nat_lt 0 1 && nat_le size greatest_element_size) true (and_from (nat_lt 0 1) (nat_le size greatest_element_size) refl (le-leb size greatest_element_size small)) refl;
        counts = refl;
        once = once;
        branches = (raw-there made h (raw_block d h (branch_bytes size [])).1 (branch_bytes size []) branch_there refl, tt);
        fit = refl;
        sized = ap (λ (c : Bool). c && true) (sized-none size);
      }

  chain_is : chain_blocks made b ≡ b ∷ h ∷ []
  chain_is = ap (λ (o : Option (List ℕ)). unwrap_or o []) (layout-chain made b r ([] ∷ []) made_valid layout)

  pub made-created : IsCreated d made b uid size
  made-created = record {
    valid = made_valid;
    array = layout-array made b r ([] ∷ []) made_valid layout;
    fresh = λ x there. fresh.not_live x (of_new x (subst (λ xs. Contains xs x) chain_is there));
    others = λ x other. put_elsewhere d blocks x (λ there. other (subst (λ xs. Contains xs x) (sym chain_is) there));
    map_block = put_map_block d blocks;
    attributes = ap (λ (o : Option Block). option_map_or (λ x. x.attributes) o no_attributes) root_there;
    spread = ap (are_spread size) (ap (pieces_at made) (layout-root made b r ([] ∷ []) made_valid layout) ∙ layout-pieces made b r ([] ∷ []) made_valid layout);
  }

pub array-created : (d : Document) (uid size : ℕ) → IsValid d → uid < 65536 → first_refusal (create_large_conditions d size) ≡ None
    → IsCreated d (large_created d uid size) (get_or (new_handles d 2) 0 0) uid size
unfolding large_created
array-created d uid size valid word none =
    let cs : Conditions = create_large_conditions d size in
    let small = ltb-false greatest_element_size size (or_none (none_applies cs none Range refl)).0 in
    let enough = ltb-false (length (free_handles d)) 2 (or_none (none_applies cs none NoHandles refl)).0 in
    made-created d uid size valid word small enough
