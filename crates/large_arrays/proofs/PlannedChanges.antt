-- Changes that are planned one block after another make what they are planned to.
use Rattle.std.proofs.Common.{◌≡◌, ◌≤◌, ◌++◌, ◌∷◌, ◌∙◌, ◌+◌, ℕ, Bool, true, false, not, reverse, sum_by, List, [], length, map, if◌then◌else◌, Option, Some, None, is_some, refl, sym, ap, ap₂, subst, inl, inr, arith}
use Rattle.std.proofs.lemmas.Bool.{cases_eq}
use Rattle.std.proofs.lemmas.List.{append-nil, append_assoc, map-append, reverse-reverse}
use Rattle.std.proofs.lemmas.List.Concat.{flat_map-append}
use Rattle.std.proofs.lemmas.List.Sums.{sum_by-append}
use Rattle.std.proofs.lemmas.List.Elements.{All-nil, All-cons, All-head, All-tail}
use Rattle.std.specs.List.{All, Contains, flat_map, zip}
use Rattle.std.specs.Option.{option_map_or}
use Rattle.std.specs.FinMap.{get}
use Rattle.geos_model.specs.Cost.{image_length, images_length}
use Rattle.geos_model.specs.Heap.{capacity}
use Rattle.geos_model.specs.Document.{Block, Document, is_live, is_raw, is_heap_body, bytes_of_body, raw_bytes_of, attributes_of, no_attributes, handles_of, with_block, with_blocks, without_block, without_blocks}
use Rattle.geos_model.specs.Image.{image}
use Rattle.geos_model.specs.Places.{block_place}
use Rattle.geos_model.specs.declared.block.Attributes.{Attributes}
use Rattle.geos_model.specs.declared.command.Body.{Body}
use Rattle.geos_model.specs.declared.command.Body.TheVariants.{Raw, Heap}
use Rattle.geos_model.specs.declared.handle.VmHandle.{VmHandle}
use Rattle.geos_model.specs.declared.place.Place.{Place}
use Rattle.geos_model.proofs.BlockLists.{put_elsewhere, put_map_block, taken_elsewhere, taken_map_block}
use Rattle.geos_model.proofs.HeapEdits.{get-put_same, get-put_other, get-taken_same, get-taken_other}
use Rattle.document_file.specs.Members.{imaged_blocks}
use Rattle.chunk_edits.specs.Patching.{PatchPiece, ArePiecesOf, patched, peak, total_given, total_taken}
use Rattle.chunk_edits.proofs.PatchingLemmas.{pieces_length, patched_length}
use Rattle.vm_blocks.specs.ChangeCosts.{change_cost}
use Rattle.vm_blocks.specs.ChangePlaces.{change_places}
use Rattle.vm_blocks.specs.Changes.{directed, directed_all, after_change, after_part, AreFree, IsFreeHandle, CanRemove, CanRemoveAll}
use Rattle.vm_blocks.specs.Preparing.{after_changes, CanApplyAll, CanApplyAllByHandle, CanRemoveByHandle}
use Rattle.vm_blocks.proofs.Preparing.{all_listed_on, applies_listed}
use Rattle.vm_blocks.proofs.ChangingAll.{made_all_on}
use Rattle.document_file.specs.Disk.{SameUnlessCorrupt}
use Rattle.chunk_edits.specs.declared.direction.Direction.TheVariants.{Forwards}
use Rattle.vm_blocks.specs.declared.change.Change.{Change}
use Rattle.vm_blocks.specs.declared.change.Change.TheVariants as changes
use Rattle.vm_blocks.specs.declared.change.PartChange.TheVariants as parts
use Rattle.vm_blocks.specs.declared.member.Members.{Members}
use Rattle.vm_blocks.proofs.InMemory.{AreAlike}
use Rattle.geos_model.specs.Pieces.{BranchPiece}
use Rattle.geos_model.specs.LargeLayout.{root_bytes, branch_bytes}
use Rattle.geos_model.specs.LargeBlocks.{root_at}
use Rattle.geos_model.specs.LargeWindow.{Window, raw_block, freed_handles, replaced_root, with_window}
use Rattle.large_arrays.specs.ChangePlans.{piece_bodies, window_bodies, with_bodies, body_cost, planned_places, planned_cost, ArePlanned, ArePlannedByHandle, IsUntouched}
use Rattle.geos_model.proofs.Layouts.{raw-live}

-- ---- changes behind others

after-append : (cs ds : List Change) (d : Document) → after_changes (cs ++ ds) d ≡ after_changes ds (after_changes cs d)
after-append [] ds d = refl
after-append (c ∷ cs) ds d = after-append cs ds (after_change c d)

can-append : (cs ds : List Change) (d : Document) → CanApplyAll cs d → CanApplyAll ds (after_changes cs d) → CanApplyAll (cs ++ ds) d
can-append [] ds d first next = next
can-append (c ∷ cs) ds d first next = (first.0, can-append cs ds (after_change c d) first.1 next)

listed-append : (cs ds : List Change) (d : Document) → CanApplyAllByHandle cs d → CanApplyAllByHandle ds (after_changes cs d) → CanApplyAllByHandle (cs ++ ds) d
listed-append [] ds d first next = next
listed-append (c ∷ cs) ds d first next = (first.0, listed-append cs ds (after_change c d) first.1 next)

-- ---- one block

images_one : (ms : Members) (h : ℕ) (bytes : List ℕ) → imaged_blocks ms.list.items ≡ (h, record { attributes = no_attributes; body = Raw bytes }) ∷ []
    → images_length (imaged_blocks ms.list.items) ≡ length (image (Raw bytes))
images_one ms h bytes one = ap images_length one ∙ omega arith

alike_put : (a b : Document) (h : ℕ) (x y : Block) → AreAlike a b → AreAlike (with_block a h x) (with_block b h y)
alike_put a b h x y alike k = elim (cases_eq k h) as (λ _. is_live (with_block a h x) k ≡ is_live (with_block b h y) k) [
  | inl same ↦ ap is_some (get-put_same a.blocks h x k same) ∙ sym (ap is_some (get-put_same b.blocks h y k same))
  | inr other ↦ ap is_some (get-put_other a.blocks h x k other) ∙ (alike k ∙ sym (ap is_some (get-put_other b.blocks h y k other)))
]

-- put where one is live
live_put : (d : Document) (h : ℕ) (x : Block) → is_live d h ≡ true → AreAlike (with_block d h x) d
live_put d h x live k = elim (cases_eq k h) as (λ _. is_live (with_block d h x) k ≡ is_live d k) [
  | inl same ↦ ap is_some (get-put_same d.blocks h x k same) ∙ sym (ap (is_live d) same ∙ live)
  | inr other ↦ ap is_some (get-put_other d.blocks h x k other)
]

-- a raw block, by what is said of it
pub raw_there : (d : Document) (h : ℕ) → is_raw d h ≡ true → get d.blocks h ≡ Some (raw_block d h (raw_bytes_of d h)).1
raw_there d h raw = by_block (get d.blocks h) refl raw
  where
    by_body : (b : Block) (body : Body) → b.body ≡ body → not (is_heap_body body) ≡ true → Some b ≡ Some (record { attributes = b.attributes; body = Raw (bytes_of_body body) })
    by_body b (Raw bytes) is raw = ap (λ (x : Body). Some (record { attributes = b.attributes; body = x })) is
    by_body b (Heap m) is raw = absurd (cc raw)

    by_block : (o : Option Block) → get d.blocks h ≡ o → option_map_or (λ (b : Block). not (is_heap_body b.body)) o false ≡ true
        → get d.blocks h ≡ Some (raw_block d h (raw_bytes_of d h)).1
    by_block None is raw = absurd (cc raw)
    by_block (Some b) is raw = rw is (by_body b b.body refl raw)

-- a handle that none has
pub none_there : (d : Document) (h : ℕ) → is_live d h ≡ false → get d.blocks h ≡ None
none_there d h dead = by_block (get d.blocks h) dead
  where
    by_block : (o : Option Block) → is_some o ≡ false → o ≡ None
    by_block None dead = refl
    by_block (Some b) dead = absurd (cc dead)

-- ---- what is planned so far

blocks-append : (ps qs : List (ℕ × Block)) (d : Document) → with_blocks d (ps ++ qs) ≡ with_blocks (with_blocks d ps) qs
blocks-append [] qs d = refl
blocks-append (p ∷ ps) qs d = blocks-append ps qs (with_block d p.0 p.1)

module _ (d : Document) (freed : List ℕ) where
  abbrev blocks_of : List (ℕ × List ℕ) → List (ℕ × Block)
  blocks_of bodies = map (λ p. raw_block d p.0 p.1) bodies

  bodies-more : (bodies : List (ℕ × List ℕ)) (h : ℕ) (new : List ℕ) → with_bodies d freed (bodies ++ (h, new) ∷ []) ≡ with_block (with_bodies d freed bodies) h (raw_block d h new).1
  bodies-more bodies h new =
      ap (with_blocks (without_blocks d freed)) (map-append (λ (p : ℕ × List ℕ). raw_block d p.0 p.1) bodies ((h, new) ∷ []))
      ∙ blocks-append (blocks_of bodies) (raw_block d h new ∷ []) (without_blocks d freed)

  handles-same : (bodies : List (ℕ × List ℕ)) → handles_of (blocks_of bodies) ≡ map (λ p. p.0) bodies
  handles-same [] = refl
  handles-same (p ∷ ps) = ap (λ (hs : List ℕ). p.0 ∷ hs) (handles-same ps)

  bodies-map : (bodies : List (ℕ × List ℕ)) → (with_bodies d freed bodies).map_block ≡ d.map_block
  bodies-map bodies = put_map_block (without_blocks d freed) (blocks_of bodies) ∙ taken_map_block d freed

  -- one body more is one place more
  places-more : (cs : List Change) (bodies : List (ℕ × List ℕ)) (c : Change) (h : ℕ) (new : List ℕ) → flat_map change_places (c ∷ []) ≡ block_place h ∷ []
      → flat_map change_places cs ≡ planned_places freed bodies → flat_map change_places (cs ++ c ∷ []) ≡ planned_places freed (bodies ++ (h, new) ∷ [])
  places-more cs bodies c h new one before =
      flat_map-append change_places cs (c ∷ []) ∙ ap₂ (λ (xs ys : List Place). xs ++ ys) before one
      ∙ sym (ap (λ (hs : List ℕ). map block_place (freed ++ hs)) (map-append (λ (p : ℕ × List ℕ). p.0) bodies ((h, new) ∷ []))
      ∙ ap (map block_place) (sym (append_assoc freed (map (λ (p : ℕ × List ℕ). p.0) bodies) (h ∷ [])))
      ∙ map-append block_place (freed ++ map (λ (p : ℕ × List ℕ). p.0) bodies) (h ∷ []))

  -- and costs what it does
  cost-more : (cs : List Change) (bodies : List (ℕ × List ℕ)) (c : Change) (h : ℕ) (new : List ℕ) → change_cost c ≡ body_cost d (h, new)
      → sum_by change_cost cs ≡ planned_cost d freed bodies → sum_by change_cost (cs ++ c ∷ []) ≡ planned_cost d freed (bodies ++ (h, new) ∷ [])
  cost-more cs bodies c h new one before =
      let first = sum_by-append change_cost cs (c ∷ []) in
      let next = sum_by-append (body_cost d) bodies ((h, new) ∷ []) in
      let end : sum_by change_cost (c ∷ []) ≡ change_cost c = omega arith in
      let last : sum_by (body_cost d) ((h, new) ∷ []) ≡ body_cost d (h, new) = omega arith in
      omega arith

  body_cost-live : (h : ℕ) (new : List ℕ) → is_live d h ≡ true → body_cost d (h, new) ≡ length (raw_bytes_of d h) + length new
  body_cost-live h new live = ap (λ (b : Bool). if b then length (raw_bytes_of d h) + length new else length (image (Raw new))) live

  body_cost-new : (h : ℕ) (new : List ℕ) → is_live d h ≡ false → body_cost d (h, new) ≡ length (image (Raw new))
  body_cost-new h new dead = ap (λ (b : Bool). if b then length (raw_bytes_of d h) + length new else length (image (Raw new))) dead

  module _ (bodies : List (ℕ × List ℕ)) (h : ℕ) (untouched : IsUntouched freed bodies h) where
    as_before : get (with_bodies d freed bodies).blocks h ≡ get d.blocks h
    as_before =
        put_elsewhere (without_blocks d freed) (blocks_of bodies) h (λ there. untouched.other (subst (λ (hs : List ℕ). Contains hs h) (handles-same bodies) there))
        ∙ taken_elsewhere d freed h untouched.stays

    module _ (cs : List Change) where
      -- a patch of its body
      module _ (b : VmHandle) (ps : List PatchPiece) (same : b.0 ≡ h) where
        abbrev change : Change
        change = changes.Part b (parts.RawPatch ps)

        pub patch_planned : (from : List ℕ) → ArePlanned cs d freed bodies → is_raw d h ≡ true → raw_bytes_of d h ≡ from → ArePiecesOf ps from → peak ps ≤ capacity
            → ArePlanned (cs ++ change ∷ []) d freed (bodies ++ (h, patched ps from) ∷ [])
        patch_planned from planned raw reads stands fits =
            let e : Document = with_bodies d freed bodies in
            let u : Attributes = attributes_of d h in
            let there : get (after_changes cs d).blocks b.0 ≡ Some (record { attributes = u; body = Raw from }) =
            ap (λ (x : Document). get x.blocks b.0) planned.makes ∙ ap (get e.blocks) same ∙ as_before ∙ raw_there d h raw
            ∙ ap (λ (x : List ℕ). Some (raw_block d h x).1) reads in
            let made : after_part b.0 (parts.RawPatch ps) (after_changes cs d) ≡ with_block (after_changes cs d) b.0 (record { attributes = u; body = Raw (patched ps from) }) =
            rw there refl in
            let long : total_taken ps + total_given ps ≡ length from + length (patched ps from) =
            (let taken = pieces_length ps from stands in let given = patched_length ps from stands in omega arith) in
            record {
              applies = can-append cs (change ∷ []) d planned.applies (record { raw = rw there refl; stands = rw there stands; fits = fits }, tt);
              makes =
                  after-append cs (change ∷ []) d ∙ made
                  ∙ (λ i. with_block (planned.makes i) (same i) (record { attributes = u; body = Raw (patched ps from) }))
                  ∙ sym (bodies-more bodies h (patched ps from));
              places = places-more cs bodies change h (patched ps from) (ap (λ (k : ℕ). block_place k ∷ []) same) planned.places;
              cost = cost-more cs bodies change h (patched ps from)
                  (long ∙ sym (body_cost-live h (patched ps from) (raw-live d h raw) ∙ ap (λ (x : List ℕ). length x + length (patched ps from)) reads)) planned.cost;
            }

        pub patch_listed : (to : List ℕ) → ArePlannedByHandle cs d freed bodies → is_live d h ≡ true → ArePlannedByHandle (cs ++ change ∷ []) d freed (bodies ++ (h, to) ∷ [])
        patch_listed to planned live =
            let e : Document = with_bodies d freed bodies in
            let x : Document = after_changes cs d in
            let here : is_live e h ≡ true = ap is_some as_before ∙ live in
            let now : is_live x b.0 ≡ true = ap (is_live x) same ∙ planned.live h ∙ here in
            record {
              applies = listed-append cs (change ∷ []) d planned.applies (now, tt);
              live = λ k.
                  ap (λ (y : Document). is_live y k) (after-append cs (change ∷ []) d) ∙ live_put x b.0 _ now k ∙ planned.live k
                  ∙ sym (ap (λ (y : Document). is_live y k) (bodies-more bodies h to) ∙ live_put e h (raw_block d h to).1 here k);
              map_block = ap (λ (y : Document). y.map_block) (after-append cs (change ∷ []) d) ∙ planned.map_block;
            }

      module _ (ms : Members) (bytes : List ℕ) (one : imaged_blocks ms.list.items ≡ (h, record { attributes = no_attributes; body = Raw bytes }) ∷ []) (free : IsFreeHandle d h) where
        came : (x : Document) → with_blocks x (imaged_blocks ms.list.items) ≡ with_block x h (raw_block d h bytes).1
        came x =
            ap (with_blocks x) one
            ∙ ap (λ (u : Attributes). with_block x h (record { attributes = u; body = Raw bytes }))
            (sym (ap (λ (o : Option Block). option_map_or (λ (b : Block). b.attributes) o no_attributes) free.free))

        can_come : (x : Document) → get x.blocks h ≡ None → AreFree x (handles_of (imaged_blocks ms.list.items))
        can_come x none =
            subst (λ (ps : List (ℕ × Block)). AreFree x (handles_of ps)) (sym one)
            (record { free = All-cons (IsFreeHandle x) h [] (record { handle = free.handle; free = none }) (All-nil (IsFreeHandle x)); distinct = refl })

        pub block_planned : ArePlanned cs d freed bodies → ArePlanned (cs ++ changes.BlocksIn ms ∷ []) d freed (bodies ++ (h, bytes) ∷ [])
        block_planned planned =
            let none : get (after_changes cs d).blocks h ≡ None = ap (λ (x : Document). get x.blocks h) planned.makes ∙ as_before ∙ free.free in
            record {
              applies = can-append cs (changes.BlocksIn ms ∷ []) d planned.applies (can_come (after_changes cs d) none, tt);
              makes =
                  after-append cs (changes.BlocksIn ms ∷ []) d ∙ came (after_changes cs d) ∙ ap (λ (x : Document). with_block x h (raw_block d h bytes).1) planned.makes
                  ∙ sym (bodies-more bodies h bytes);
              places = places-more cs bodies (changes.BlocksIn ms) h bytes (ap (λ (ps : List (ℕ × Block)). map block_place (handles_of ps) ++ []) one) planned.places;
              cost = cost-more cs bodies (changes.BlocksIn ms) h bytes
                  (images_one ms h bytes one ∙ sym (body_cost-new h bytes (ap is_some free.free))) planned.cost;
            }

        pub block_listed : ArePlannedByHandle cs d freed bodies → ArePlannedByHandle (cs ++ changes.BlocksIn ms ∷ []) d freed (bodies ++ (h, bytes) ∷ [])
        block_listed planned =
            let dead : is_live (after_changes cs d) h ≡ false = planned.live h ∙ ap is_some (as_before ∙ free.free) in
            let e : Document = with_bodies d freed bodies in
            record {
              applies = listed-append cs (changes.BlocksIn ms ∷ []) d planned.applies (can_come (after_changes cs d) (none_there (after_changes cs d) h dead), tt);
              live = λ k.
                  ap (λ (x : Document). is_live x k) (after-append cs (changes.BlocksIn ms ∷ []) d ∙ came (after_changes cs d))
                  ∙ alike_put (after_changes cs d) e h (raw_block d h bytes).1 (raw_block d h bytes).1 planned.live k
                  ∙ sym (ap (λ (x : Document). is_live x k) (bodies-more bodies h bytes));
              map_block = ap (λ (x : Document). x.map_block) (after-append cs (changes.BlocksIn ms ∷ []) d ∙ came (after_changes cs d)) ∙ planned.map_block;
            }

-- ---- blocks that go

-- the images of blocks that stand there are as long as theirs
images_there : (d : Document) (ps : List (ℕ × Block)) → All (λ p. CanRemove d p.0 p.1) ps → images_length ps ≡ sum_by (image_length d) (handles_of ps)
images_there d [] go = refl
images_there d (p ∷ ps) go =
    let here : image_length d p.0 ≡ length (image p.1.body) =
    ap (λ (o : Option Block). option_map_or (λ (b : Block). length (image b.body)) o 0) (All-head (λ q. CanRemove d q.0 q.1) p ps go).stands in
    let rest = images_there d ps (All-tail (λ q. CanRemove d q.0 q.1) p ps go) in
    let first = sum_by-append (λ (q : ℕ × Block). length (image q.1.body)) (p ∷ []) ps in
    let next = sum_by-append (image_length d) (p.0 ∷ []) (handles_of ps) in
    let one : sum_by (λ (q : ℕ × Block). length (image q.1.body)) (p ∷ []) ≡ length (image p.1.body) = omega arith in
    let other : sum_by (image_length d) (p.0 ∷ []) ≡ image_length d p.0 = omega arith in
    omega arith

pub freeing_planned : (ms : Members) (d : Document) → CanRemoveAll d (imaged_blocks ms.list.items)
    → ArePlanned (changes.BlocksOut ms ∷ []) d (handles_of (imaged_blocks ms.list.items)) []
freeing_planned ms d can =
    let hs : List ℕ = handles_of (imaged_blocks ms.list.items) in
    record {
      applies = (can, tt);
      makes = refl;
      places = append-nil (map block_place hs) ∙ ap (map block_place) (sym (append-nil hs));
      cost = (let there = images_there d (imaged_blocks ms.list.items) can.go in omega arith);
    }

-- none
pub none_planned : (d : Document) → ArePlanned [] d [] []
none_planned d = record { applies = tt; makes = refl; places = refl; cost = refl }

pub freeing_listed : (ms : Members) (d : Document) → CanRemoveByHandle d (handles_of (imaged_blocks ms.list.items))
    → ArePlannedByHandle (changes.BlocksOut ms ∷ []) d (handles_of (imaged_blocks ms.list.items)) []
freeing_listed ms d can = record { applies = (can, tt); live = λ h. refl; map_block = taken_map_block d (handles_of (imaged_blocks ms.list.items)) }

-- ---- what holds of the whole

-- documents that differ by what bodies have, if the store doesn't give back what it has

alike_taken : (hs : List ℕ) (a b : Document) → AreAlike a b → AreAlike (without_blocks a hs) (without_blocks b hs)
alike_taken [] a b alike = alike
alike_taken (h ∷ hs) a b alike = alike_taken hs (without_block a h) (without_block b h) (λ k. elim (cases_eq k h) as (λ _. is_live (without_block a h) k ≡ is_live (without_block b h) k) [
  | inl same ↦ ap is_some (get-taken_same a.blocks h k same) ∙ sym (ap is_some (get-taken_same b.blocks h k same))
  | inr other ↦ ap is_some (get-taken_other a.blocks h k other) ∙ (alike k ∙ sym (ap is_some (get-taken_other b.blocks h k other)))
])

alike_bodies : (bodies : List (ℕ × List ℕ)) (x y a b : Document) → AreAlike a b → AreAlike (with_blocks a (map (λ p. raw_block x p.0 p.1) bodies)) (with_blocks b (map (λ p. raw_block y p.0 p.1) bodies))
alike_bodies [] x y a b alike = alike
alike_bodies (p ∷ ps) x y a b alike =
    alike_bodies ps x y (with_block a p.0 (raw_block x p.0 p.1).1) (with_block b p.0 (raw_block y p.0 p.1).1) (alike_put a b p.0 (raw_block x p.0 p.1).1 (raw_block y p.0 p.1).1 alike)

pub drifted : (honest : Bool) (cs : List Change) (d e : Document) (freed : List ℕ) (bodies : List (ℕ × List ℕ)) → SameUnlessCorrupt honest d e
    → ArePlannedByHandle cs d freed bodies → ArePlannedByHandle cs e freed bodies
drifted honest cs d e freed bodies drift planned =
    let after = made_all_on cs honest d e drift in
    record {
      applies = all_listed_on honest cs d e drift planned.applies;
      live = λ h.
          after.live h ∙ planned.live h
          ∙ alike_bodies bodies d e (without_blocks d freed) (without_blocks e freed) (alike_taken freed d e (λ k. sym (drift.live k))) h;
      map_block = after.map_block ∙ planned.map_block ∙ sym drift.map_block;
    }

-- what can be made as it stands is known by handles
listed_all : (cs : List Change) (d : Document) → CanApplyAll cs d → CanApplyAllByHandle cs d
listed_all [] d can = tt
listed_all (c ∷ cs) d can = (applies_listed c d can.0, listed_all cs (after_change c d) can.1)

pub planned_listed : (cs : List Change) (d : Document) (freed : List ℕ) (bodies : List (ℕ × List ℕ)) → ArePlanned cs d freed bodies → ArePlannedByHandle cs d freed bodies
planned_listed cs d freed bodies planned = record {
  applies = listed_all cs d planned.applies;
  live = λ h. ap (λ (x : Document). is_live x h) planned.makes;
  map_block = ap (λ (x : Document). x.map_block) planned.makes ∙ bodies-map d freed bodies;
}

-- the changes of a window make its document

piece_blocks : (d : Document) (size : ℕ) (ps : List (ℕ × BranchPiece)) → map (λ p. raw_block d p.0 p.1) (piece_bodies size ps) ≡ map (λ p. raw_block d p.0 (branch_bytes size p.1)) ps
piece_blocks d size [] = refl
piece_blocks d size (p ∷ ps) = ap (λ (bs : List (ℕ × Block)). raw_block d p.0 (branch_bytes size p.1) ∷ bs) (piece_blocks d size ps)

pub window_made : (cs : List Change) (d : Document) (b : ℕ) (w : Window) → ArePlanned cs d (freed_handles w) (window_bodies d b w) → after_changes cs d ≡ with_window d b w
window_made cs d b w planned =
    planned.makes
    ∙ ap (λ (bs : List (ℕ × Block)). with_blocks (without_blocks d (freed_handles w)) (raw_block d b (root_bytes (replaced_root (root_at d b) w)) ∷ bs)) (piece_blocks d (root_at d b).size (zip w.news w.pieces))

pub overwritten_made : (cs : List Change) (d : Document) (size : ℕ) (ps : List (ℕ × BranchPiece)) → ArePlanned cs d [] (piece_bodies size ps)
    → after_changes cs d ≡ with_blocks d (map (λ p. raw_block d p.0 (branch_bytes size p.1)) ps)
overwritten_made cs d size ps planned = planned.makes ∙ ap (with_blocks d) (piece_blocks d size ps)

-- as a stack, on which the first lies uppermost, they are carried out in order
pub as_stack : (cs : List Change) → directed_all Forwards (reverse cs) ≡ cs
as_stack cs = ap (map (directed Forwards)) (reverse-reverse cs) ∙ unturned cs
  where
    unturned : (cs : List Change) → map (directed Forwards) cs ≡ cs
    unturned [] = refl
    unturned (c ∷ cs) = ap (λ (x : List Change). c ∷ x) (unturned cs)
