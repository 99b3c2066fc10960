-- What is known of a change by handles alone, and what its body has to have.
use Rattle.std.proofs.Common.{◌≡◌, ◌≢◌, ℕ, Bool, true, false, List, [], ◌∷◌, Option, Some, None, is_some, inl, inr, refl, sym, ap, subst, ◌∙◌}
use Rattle.std.specs.Prelude.{unwrap_or, Result, Ok, Err, IfErr, OnOk}
use Rattle.std.specs.Option.{option_map, option_map_or}
use Rattle.std.proofs.lemmas.Bool.{and_parts, cases_eq, true≢false}
use Rattle.std.proofs.lemmas.List.Elements.{All-map}
use Rattle.std.specs.FinMap.{get}
use Rattle.geos_model.specs.Document.{Block, Document, is_heap, is_heap_body, block_at, is_live, with_block, without_block, with_blocks, without_blocks, with_attributes, handles_of, no_attributes, no_block}
use Rattle.geos_model.specs.declared.command.Body.{Body}
use Rattle.geos_model.proofs.HeapEdits.{get-put_same, get-put_other, get-taken_same, get-taken_other}
use Rattle.geos_model.specs.declared.fault.Fault.{Fault}
use Rattle.geos_model.specs.declared.fault.Fault.TheVariants.{Memory}
use Rattle.vm_store.specs.Facts.{StoreFacts}
use Rattle.document_file.specs.Disk.{SameUnlessCorrupt}
use Rattle.vm_blocks.specs.State.{CacheState, is_resident}
use Rattle.document_file.specs.Members.{imaged_blocks}
use Rattle.vm_blocks.specs.Changes.{attributes_for_kind, directed, directed_part, after_change, after_part, CanApply, CanApplyPart, CanRemoveAll}
use Rattle.vm_blocks.specs.Keeping.{KeepsBlocks, IsHonest, IsEnvironmentFault, is_loaded}
use Rattle.vm_blocks.specs.Parts.{AllowsPart}
use Rattle.vm_blocks.specs.Preparing.{CanRemoveByHandle, CanApplyByHandle, AllowsChange, IsInMemory, CanCarryOut, CantPrepare, IsApplied, CanApplyAllByHandle, HalvesLaw, ByHandleLaw}
use Rattle.vm_blocks.specs.declared.change.Change.{Change}
use Rattle.vm_blocks.specs.declared.change.Change.TheVariants as changes
use Rattle.geos_model.specs.declared.handle.VmHandle.{VmHandle}
use Rattle.geos_model.specs.declared.block.Attributes.{Attributes}
use Rattle.chunk_edits.specs.declared.direction.Direction.{Direction}
use Rattle.chunk_edits.specs.declared.direction.Direction.TheVariants.{Forwards, Backwards}
use Rattle.vm_blocks.specs.declared.change.PartChange.{PartChange}
use Rattle.vm_blocks.specs.declared.change.PartChange.TheVariants as parts
use Rattle.vm_blocks.proofs.KeepingLaws.{keeps-unless_corrupt, keeps-frames, keeps-locks, keeps-passes, keeps-same, lacks-memory}
use Rattle.vm_blocks.proofs.Residents.{both}
use Rattle.vm_blocks.proofs.PartLemmas.{part_live, part_takes}

some_block : (o : Option Block) → is_some o ≡ true → (block : Block) × (o ≡ Some block)
some_block None h = absurd (true≢false (sym h))
some_block (Some block) h = (block, refl)

-- the block that stands under a handle
pub block_there : (d : Document) (h : ℕ) (block : Block) → get d.blocks h ≡ Some block → block_at d h ≡ block
block_there d h block is = ap (λ (o : Option Block). unwrap_or o no_block) is

pub live_there : (d : Document) (h : ℕ) → is_live d h ≡ true → get d.blocks h ≡ Some (block_at d h)
live_there d h live = let found = some_block (get d.blocks h) live in found.1 ∙ ap (λ (b : Block). Some b) (sym (block_there d h found.0 found.1))

pub takes_there : (p : PartChange) (d : Document) (h : ℕ) (block : Block) → get d.blocks h ≡ Some block → AllowsPart p (block_at d h).body → AllowsPart p block.body
takes_there p d h block is takes = subst (λ (b : Block). AllowsPart p b.body) (block_there d h block is) takes

-- A change that applies.

pub part_body : (b : ℕ) (p : PartChange) (d : Document) → CanApplyPart b p d → AllowsPart p (block_at d b).body
part_body b p d applies = part_takes b p d (block_at d b) (live_there d b (part_live b p d applies)) applies

can_leave : (d : Document) (ps : List (ℕ × Block)) → CanRemoveAll d ps → CanRemoveByHandle d (handles_of ps)
can_leave d ps can = record {
  live = All-map (λ h. is_live d h ≡ true) (λ p. p.0) ps (λ i p within. ap is_some (can.go i p within).stands);
  others = All-map (λ h. d.map_block ≢ h) (λ p. p.0) ps (λ i p within. (can.go i p within).other);
  distinct = can.distinct;
}

pub halves : HalvesLaw
halves (changes.BlocksIn ms) d applies = (applies, tt)
halves (changes.BlocksOut ms) d applies = (can_leave d (imaged_blocks ms.list.items) applies, tt)
halves (changes.Part b part) d applies = (part_live b.0 part d applies, part_body b.0 part d applies)
halves (changes.Attributes b old new) d applies = (applies.live, tt)
halves (changes.Map old new) d applies = (applies, tt)

pub applies_listed : (c : Change) (d : Document) → CanApply c d → CanApplyByHandle c d
applies_listed c d applies = (halves c d applies).0

pub applies_takes : (c : Change) (d : Document) → CanApply c d → AllowsChange c d
applies_takes c d applies = (halves c d applies).1

-- Documents with the same handles, attributes, kinds and map block, over any store.

abbrev Alike : Document → Document → Type 0
Alike a b = SameUnlessCorrupt false a b

alike : (honest : Bool) (a b : Document) → SameUnlessCorrupt honest a b → Alike a b
alike honest a b unless_corrupt = record { live = unless_corrupt.live; attributes = unless_corrupt.attributes; kinds = unless_corrupt.kinds; map_block = unless_corrupt.map_block; same = λ no. absurd (true≢false (sym no)) }

abbrev attributes_in : Option Block → Attributes
attributes_in o = option_map_or (λ (b : Block). b.attributes) o no_attributes

abbrev heap : Option Block → Bool
heap o = option_map_or (λ (b : Block). is_heap_body b.body) o false

-- the same block but for what its body has, put under a handle
put_alike : (a b : Document) (h : ℕ) (x y : Block) → y.attributes ≡ x.attributes → is_heap_body y.body ≡ is_heap_body x.body → Alike a b → Alike (with_block a h x) (with_block b h y)
put_alike a b h x y same kind unless_corrupt = record {
  live = λ k. elim (cases_eq k h) [
    | inl e ↦ ap is_some (get-put_same b.blocks h y k e) ∙ sym (ap is_some (get-put_same a.blocks h x k e))
    | inr other ↦ ap is_some (get-put_other b.blocks h y k other) ∙ (unless_corrupt.live k ∙ sym (ap is_some (get-put_other a.blocks h x k other)))
  ];
  attributes = λ k. elim (cases_eq k h) [
    | inl e ↦ ap attributes_in (get-put_same b.blocks h y k e) ∙ (same ∙ sym (ap attributes_in (get-put_same a.blocks h x k e)))
    | inr other ↦ ap attributes_in (get-put_other b.blocks h y k other) ∙ (unless_corrupt.attributes k ∙ sym (ap attributes_in (get-put_other a.blocks h x k other)))
  ];
  kinds = λ k. elim (cases_eq k h) [
    | inl e ↦ ap heap (get-put_same b.blocks h y k e) ∙ (kind ∙ sym (ap heap (get-put_same a.blocks h x k e)))
    | inr other ↦ ap heap (get-put_other b.blocks h y k other) ∙ (unless_corrupt.kinds k ∙ sym (ap heap (get-put_other a.blocks h x k other)))
  ];
  map_block = unless_corrupt.map_block;
  same = λ no. absurd (true≢false (sym no));
}

taken_alike : (a b : Document) (h : ℕ) → Alike a b → Alike (without_block a h) (without_block b h)
taken_alike a b h unless_corrupt = record {
  live = λ k. elim (cases_eq k h) [
    | inl e ↦ ap is_some (get-taken_same b.blocks h k e) ∙ sym (ap is_some (get-taken_same a.blocks h k e))
    | inr other ↦ ap is_some (get-taken_other b.blocks h k other) ∙ (unless_corrupt.live k ∙ sym (ap is_some (get-taken_other a.blocks h k other)))
  ];
  attributes = λ k. elim (cases_eq k h) [
    | inl e ↦ ap attributes_in (get-taken_same b.blocks h k e) ∙ sym (ap attributes_in (get-taken_same a.blocks h k e))
    | inr other ↦ ap attributes_in (get-taken_other b.blocks h k other) ∙ (unless_corrupt.attributes k ∙ sym (ap attributes_in (get-taken_other a.blocks h k other)))
  ];
  kinds = λ k. elim (cases_eq k h) [
    | inl e ↦ ap heap (get-taken_same b.blocks h k e) ∙ sym (ap heap (get-taken_same a.blocks h k e))
    | inr other ↦ ap heap (get-taken_other b.blocks h k other) ∙ (unless_corrupt.kinds k ∙ sym (ap heap (get-taken_other a.blocks h k other)))
  ];
  map_block = unless_corrupt.map_block;
  same = λ no. absurd (true≢false (sym no));
}

put_all_alike : (a b : Document) (ps : List (ℕ × Block)) → Alike a b → Alike (with_blocks a ps) (with_blocks b ps)
put_all_alike a b [] unless_corrupt = unless_corrupt
put_all_alike a b (p ∷ ps) unless_corrupt = put_all_alike (with_block a p.0 p.1) (with_block b p.0 p.1) ps (put_alike a b p.0 p.1 p.1 refl refl unless_corrupt)

taken_all_alike : (a b : Document) (hs : List ℕ) → Alike a b → Alike (without_blocks a hs) (without_blocks b hs)
taken_all_alike a b [] unless_corrupt = unless_corrupt
taken_all_alike a b (h ∷ hs) unless_corrupt = taken_all_alike (without_block a h) (without_block b h) hs (taken_alike a b h unless_corrupt)

-- whatever bodies they have, and whatever the change makes of them
part_alike : (a b : Document) (h : ℕ) (p : PartChange) → Alike a b → Alike (after_part h p a) (after_part h p b)
part_alike a b h (parts.Raw s) unless_corrupt = put_alike a b h _ _ (unless_corrupt.attributes h) refl unless_corrupt
part_alike a b h (parts.RawPatch ps) unless_corrupt = put_alike a b h _ _ (unless_corrupt.attributes h) refl unless_corrupt
part_alike a b h (parts.Chunk c s) unless_corrupt = put_alike a b h _ _ (unless_corrupt.attributes h) refl unless_corrupt
part_alike a b h (parts.Patch c ps runs) unless_corrupt = put_alike a b h _ _ (unless_corrupt.attributes h) refl unless_corrupt
part_alike a b h (parts.ChunkIn c content) unless_corrupt = put_alike a b h _ _ (unless_corrupt.attributes h) refl unless_corrupt
part_alike a b h (parts.ChunkOut c content) unless_corrupt = put_alike a b h _ _ (unless_corrupt.attributes h) refl unless_corrupt

attributes_alike : (a b : Document) (h : ℕ) (attributes : Attributes) → Alike a b → Alike (with_attributes a h attributes) (with_attributes b h attributes)
attributes_alike a b h attributes unless_corrupt = of (get a.blocks h) (get b.blocks h) (unless_corrupt.live h) (unless_corrupt.kinds h)
  where
    of : (x y : Option Block) → is_some y ≡ is_some x → heap y ≡ heap x
        → Alike (option_map_or (λ (o : Block). with_block a h (record o { attributes = attributes })) x a) (option_map_or (λ (o : Block). with_block b h (record o { attributes = attributes })) y b)
    of None None same kind = unless_corrupt
    of None (Some y) same kind = absurd (true≢false same)
    of (Some x) None same kind = absurd (true≢false (sym same))
    of (Some x) (Some y) same kind = put_alike a b h (record x { attributes = attributes }) (record y { attributes = attributes }) refl kind unless_corrupt

made_alike : (c : Change) (a b : Document) → Alike a b → Alike (after_change c a) (after_change c b)
made_alike (changes.BlocksIn ms) a b unless_corrupt = put_all_alike a b (imaged_blocks ms.list.items) unless_corrupt
made_alike (changes.BlocksOut ms) a b unless_corrupt = taken_all_alike a b (handles_of (imaged_blocks ms.list.items)) unless_corrupt
made_alike (changes.Part h part) a b unless_corrupt = part_alike a b h.0 part unless_corrupt
made_alike (changes.Attributes h old new) a b unless_corrupt =
    let given = attributes_for_kind (is_heap a h.0) new in
    subst (λ (x : Attributes). Alike (with_attributes a h.0 given) (with_attributes b h.0 x)) (ap (λ (k : Bool). attributes_for_kind k new) (sym (unless_corrupt.kinds h.0))) (attributes_alike a b h.0 given unless_corrupt)
made_alike (changes.Map old new) a b unless_corrupt = record { live = unless_corrupt.live; attributes = unless_corrupt.attributes; kinds = unless_corrupt.kinds; map_block = refl; same = λ no. absurd (true≢false (sym no)) }

pub none_there : (o : Option Block) → is_some o ≡ false → o ≡ None
none_there None free = refl
none_there (Some block) free = absurd (true≢false free)

removable_alike : (hs : List ℕ) (a b : Document) → Alike a b → CanRemoveByHandle a hs → CanRemoveByHandle b hs
removable_alike hs a b unless_corrupt can = record {
  live = λ i h within. unless_corrupt.live _ ∙ can.live i h within;
  others = λ i h within same. can.others i h within (sym unless_corrupt.map_block ∙ same);
  distinct = can.distinct;
}

listed_alike : (c : Change) (a b : Document) → Alike a b → CanApplyByHandle c a → CanApplyByHandle c b
listed_alike (changes.BlocksIn ms) a b unless_corrupt are = record {
  free = λ i h within. record { handle = (are.free i h within).handle; free = none_there _ (unless_corrupt.live _ ∙ ap is_some (are.free i h within).free) };
  distinct = are.distinct;
}
listed_alike (changes.BlocksOut ms) a b unless_corrupt can = removable_alike (handles_of (imaged_blocks ms.list.items)) a b unless_corrupt can
listed_alike (changes.Part h part) a b unless_corrupt live = unless_corrupt.live h.0 ∙ live
listed_alike (changes.Attributes h old new) a b unless_corrupt live = unless_corrupt.live h.0 ∙ live
listed_alike (changes.Map old new) a b unless_corrupt has = record { stands = unless_corrupt.map_block ∙ has.stands; live = λ some. unless_corrupt.live new.0 ∙ has.live some }

all_listed_alike : (cs : List Change) (a b : Document) → Alike a b → CanApplyAllByHandle cs a → CanApplyAllByHandle cs b
all_listed_alike [] a b unless_corrupt listed = tt
all_listed_alike (c ∷ cs) a b unless_corrupt listed = (listed_alike c a b unless_corrupt listed.0, all_listed_alike cs (after_change c a) (after_change c b) (made_alike c a b unless_corrupt) listed.1)

pub listed_on : (c : Change) (honest : Bool) (old new : Document) → SameUnlessCorrupt honest old new → CanApplyByHandle c old → CanApplyByHandle c new
listed_on c honest old new unless_corrupt listed = listed_alike c old new (alike honest old new unless_corrupt) listed

pub all_listed_on : ByHandleLaw
all_listed_on honest cs old new unless_corrupt listed = all_listed_alike cs old new (alike honest old new unless_corrupt) listed

pub turned_of_part : (direction : Direction) (h : VmHandle) (p : PartChange) → directed direction (changes.Part h p) ≡ changes.Part h (directed_part direction p)
turned_of_part Forwards h p = refl
turned_of_part Backwards h p = refl

-- What a call that makes a change ready leaves, and one that makes it.

pub body_of_option : (o : Option Block) (body : Body) → option_map (λ x. x.body) o ≡ Some body → (unwrap_or o no_block).body ≡ body
body_of_option None body is = absurd (cc is)
body_of_option (Some block) body is = cc is

pub takes_body : (d : Document) (h : ℕ) (p : PartChange) (body : Body) → option_map (λ x. x.body) (get d.blocks h) ≡ Some body → AllowsPart p (block_at d h).body → AllowsPart p body
takes_body d h p body is takes = subst (AllowsPart p) (body_of_option (get d.blocks h) body is) takes

-- a block that was put is there
part_live_made : (h : ℕ) (p : PartChange) (d : Document) → is_live (after_part h p d) h ≡ true
part_live_made h (parts.Raw s) d = ap is_some (get-put_same d.blocks h _ h refl)
part_live_made h (parts.RawPatch ps) d = ap is_some (get-put_same d.blocks h _ h refl)
part_live_made h (parts.Chunk c s) d = ap is_some (get-put_same d.blocks h _ h refl)
part_live_made h (parts.Patch c ps runs) d = ap is_some (get-put_same d.blocks h _ h refl)
part_live_made h (parts.ChunkIn c content) d = ap is_some (get-put_same d.blocks h _ h refl)
part_live_made h (parts.ChunkOut c content) d = ap is_some (get-put_same d.blocks h _ h refl)

-- and each one that was there still is
pub put_live : (d : Document) (h : ℕ) (block : Block) (k : ℕ) → is_live d k ≡ true → is_live (with_block d h block) k ≡ true
put_live d h block k live = elim (cases_eq k h) as (λ _. is_live (with_block d h block) k ≡ true) [
  | inl here ↦ ap is_some (get-put_same d.blocks h block k here)
  | inr other ↦ ap is_some (get-put_other d.blocks h block k other) ∙ live
]

pub part_live_on : (h : ℕ) (p : PartChange) (d : Document) (k : ℕ) → is_live d k ≡ true → is_live (after_part h p d) k ≡ true
part_live_on h (parts.Raw s) d k live = put_live d h _ k live
part_live_on h (parts.RawPatch ps) d k live = put_live d h _ k live
part_live_on h (parts.Chunk c s) d k live = put_live d h _ k live
part_live_on h (parts.Patch c ps runs) d k live = put_live d h _ k live
part_live_on h (parts.ChunkIn c content) d k live = put_live d h _ k live
part_live_on h (parts.ChunkOut c content) d k live = put_live d h _ k live

pub made_on : (c : Change) (honest : Bool) (old new : Document) → SameUnlessCorrupt honest old new → SameUnlessCorrupt honest (after_change c old) (after_change c new)
made_on c honest old new unless_corrupt = let same = made_alike c old new (alike honest old new unless_corrupt) in record {
  live = same.live;
  attributes = same.attributes;
  kinds = same.kinds;
  map_block = same.map_block;
  same = λ so. ap (after_change c) (unless_corrupt.same so);
}

-- so are blocks that are put in or taken out

module _ (honest : Bool) (old new : Document) (unless_corrupt : SameUnlessCorrupt honest old new) where
  pub put_on : (ps : List (ℕ × Block)) → SameUnlessCorrupt honest (with_blocks old ps) (with_blocks new ps)
  put_on ps = let same = put_all_alike old new ps (alike honest old new unless_corrupt) in record {
    live = same.live;
    attributes = same.attributes;
    kinds = same.kinds;
    map_block = same.map_block;
    same = λ so. ap (λ (d : Document). with_blocks d ps) (unless_corrupt.same so);
  }

  pub taken_on : (hs : List ℕ) → SameUnlessCorrupt honest (without_blocks old hs) (without_blocks new hs)
  taken_on hs = let same = taken_all_alike old new hs (alike honest old new unless_corrupt) in record {
    live = same.live;
    attributes = same.attributes;
    kinds = same.kinds;
    map_block = same.map_block;
    same = λ so. ap (λ (d : Document). without_blocks d hs) (unless_corrupt.same so);
  }

  pub removable_on : (hs : List ℕ) → CanRemoveByHandle old hs → CanRemoveByHandle new hs
  removable_on hs can = removable_alike hs old new (alike honest old new unless_corrupt) can

abbrev pub with_document : {S : Type 0} → CacheState S → Document → CacheState S
with_document state d = record state { document = d }

-- the block whose body was changed is still in memory
pub at_hand_made : {S : Type 0} (c : Change) (state : CacheState S) → IsInMemory c state → IsInMemory c (with_document state (after_change c state.document))
unfolding is_loaded
at_hand_made (changes.BlocksIn ms) state in_memory = tt
at_hand_made (changes.BlocksOut ms) state in_memory = tt
at_hand_made (changes.Part b part) state in_memory =
    both _ _ (and_parts (is_resident state.resident b.0) (is_live state.document b.0) in_memory).0 (part_live_made b.0 part state.document)
at_hand_made (changes.Attributes b old new) state in_memory = tt
at_hand_made (changes.Map old new) state in_memory = tt

module _ {S : Type 0} (facts : S → StoreFacts) (old new : CacheState S) (keeps : KeepsBlocks facts old new) where
  -- a body that doesn't take a change of a part, so that the one before didn't
  pub unfit : (h : ℕ) (p : PartChange) (body : Body) → option_map (λ x. x.body) (get new.document.blocks h) ≡ Some body → (AllowsPart p body → ⊥) → IsHonest facts old.disk.store → AllowsPart p (block_at old.document h).body → ⊥
  unfit h p body is refuses steady takes =
      let now : AllowsPart p (block_at new.document h).body = subst (λ (d : Document). AllowsPart p (block_at d h).body) (sym (keeps-same facts old new keeps steady)) takes in
      refuses (subst (AllowsPart p) (body_of_option (get new.document.blocks h) body is) now)

  -- it wasn't tested otherwise before
  pub fit : (h : ℕ) (p : PartChange) (body : Body) → option_map (λ x. x.body) (get new.document.blocks h) ≡ Some body → AllowsPart p body → AllowsPart p (block_at new.document h).body
  fit h p body is takes = subst (AllowsPart p) (sym (body_of_option (get new.document.blocks h) body is)) takes

  pub ready_part : {A : Type 0} (h : VmHandle) (p : PartChange) (result : Result A Fault) → is_live old.document h.0 ≡ true
      → OnOk result (is_loaded new h.0 ≡ true) → OnOk result (AllowsPart p (block_at new.document h.0).body) → OnOk result (CanCarryOut (changes.Part h p) new)
  ready_part h p (Ok done) live loaded takes = record { listed = (keeps-unless_corrupt facts old new keeps).live h.0 ∙ live; takes = takes; in_memory = loaded }
  ready_part h p (Err fault) live loaded takes = tt

  module _ (c : Change) where
    pub listed_still : CanApplyByHandle c old.document → CanApplyByHandle c new.document
    listed_still listed = listed_on c (facts old.disk.store).honest old.document new.document (keeps-unless_corrupt facts old new keeps) listed

    -- memory ran out
    pub unready : {A : Type 0} (result : Result A Fault) → IfErr result (λ fault. fault ≡ Memory) → IfErr result (CantPrepare facts c old new)
    unready (Ok done) memory = tt
    unready (Err fault) memory = inl (subst (IsEnvironmentFault facts old.disk.store new.disk.store) (sym memory) (lacks-memory facts old.disk.store new.disk.store))

    -- what was made ready is carried out
    pub makes : (made_one : CacheState S) → IsInMemory c new → made_one ≡ with_document new (after_change c new.document) → IsApplied facts c old made_one
    makes made_one in_memory is = subst (IsApplied facts c old) (sym is) (record {
      passes = keeps-passes facts old new keeps;
      document = made_on c (facts old.disk.store).honest old.document new.document (keeps-unless_corrupt facts old new keeps);
      in_memory = at_hand_made c new in_memory;
      frames = keeps-frames facts old new keeps;
      locks = keeps-locks facts old new keeps;
    })
