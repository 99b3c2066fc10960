-- What is known of changes by handles alone: it stays known along them, in either direction, over any store.
use Rattle.std.proofs.Common.{◌≡◌, ◌≢◌, ◌⊎◌, ℕ, suc, Bool, true, false, List, [], ◌∷◌, ◌++◌, map, reverse, get_or, Option, Some, None, is_some, inl, inr, refl, sym, ap, subst, ◌∙◌, arith}
use Rattle.std.specs.Option.{option_map_or}
use Rattle.std.specs.List.{All}
use Rattle.std.specs.FinMap.{get}
use Rattle.std.proofs.lemmas.Bool.{cases_eq, true≢false}
use Rattle.std.proofs.lemmas.List.{append-nil}
use Rattle.std.proofs.lemmas.List.Elements.{All-map}
use Rattle.geos_model.specs.Document.{Block, Document, block_at, is_heap, is_live, is_vm_handle, with_block, without_block, with_blocks, without_blocks, with_attributes, handles_of}
use Rattle.geos_model.specs.ElementArray.{all_distinct}
use Rattle.geos_model.proofs.BlockLists.{put_stands, put_map_block}
use Rattle.geos_model.proofs.HeapEdits.{get-put_same, get-put_other, get-taken_same, get-taken_other}
use Rattle.geos_model.specs.declared.block.Attributes.{Attributes}
use Rattle.document_file.specs.Disk.{SameUnlessCorrupt, IsFileDocument}
use Rattle.vm_blocks.specs.Changes.{attributes_for_kind, after_change, reversed, after_part, directed, AreFree, HasMap, IsFreeHandle}
use Rattle.document_file.specs.Members.{imaged_blocks}
use Rattle.vm_blocks.specs.Preparing.{CanApplyAllByHandle, CanRemoveByHandle, CanApplyByHandle}
use Rattle.vm_blocks.specs.declared.change.Change.{Change}
use Rattle.vm_blocks.specs.declared.change.Change.TheVariants as changes
use Rattle.chunk_edits.specs.declared.direction.Direction.{Direction}
use Rattle.chunk_edits.specs.declared.direction.Direction.TheVariants.{Forwards, Backwards}
use Rattle.vm_blocks.specs.declared.change.PartChange.{PartChange}
use Rattle.vm_blocks.specs.declared.change.PartChange.TheVariants as parts
use Rattle.vm_blocks.proofs.ChangeLaws.{flip_twice}
use Rattle.vm_blocks.proofs.ManyBlocks.{All-from_map, taken_gone, in_and_out, out_and_in}
use Rattle.vm_blocks.proofs.Preparing.{live_there}
use Rattle.undo_log.specs.Logging.{after_all, after_entry, all_changes, changes_in, reversed_entry}
use Rattle.undo_log.specs.Sessions.{opposite, CanApplyBothByHandle}
use Rattle.undo_log.specs.Entries.{LogEntry}
use Rattle.undo_log.specs.Entries as entries
use Rattle.undo_log.proofs.Lists.{reverse_onto}

-- Documents with the same handles and the same map block.
pub record Alike (a b : Document) : Type 0 where
  pub live : (h : ℕ) → is_live b h ≡ is_live a h
  pub map_block : b.map_block ≡ a.map_block

pub drifted : (honest : Bool) (a b : Document) → SameUnlessCorrupt honest a b → Alike a b
drifted honest a b unless_corrupt = record { live = unless_corrupt.live; map_block = unless_corrupt.map_block }

alike-refl : (d : Document) → Alike d d
alike-refl d = record { live = λ _. refl; map_block = refl }

alike-trans : (a b c : Document) → Alike a b → Alike b c → Alike a c
alike-trans a b c p q = record { live = λ h. q.live h ∙ p.live h; map_block = q.map_block ∙ p.map_block }

same_alike : (a b : Document) → b ≡ a → Alike a b
same_alike a b is = record { live = λ h. ap (λ (d : Document). is_live d h) is; map_block = ap (λ (d : Document). d.map_block) is }

-- Any block is put under a handle, or what is there taken out.

put_alike : (a b : Document) (h : ℕ) (x y : Block) → Alike a b → Alike (with_block a h x) (with_block b h y)
put_alike a b h x y same = record {
  live = λ k. elim (cases_eq k h) [
    | inl e ↦ ap is_some (get-put_same b.blocks h y k e) ∙ sym (ap is_some (get-put_same a.blocks h x k e))
    | inr other ↦ ap is_some (get-put_other b.blocks h y k other) ∙ (same.live k ∙ sym (ap is_some (get-put_other a.blocks h x k other)))
  ];
  map_block = same.map_block;
}

-- where a block is already
put_there : (d : Document) (h : ℕ) (x : Block) → is_live d h ≡ true → Alike d (with_block d h x)
put_there d h x live = record {
  live = λ k. elim (cases_eq k h) [
    | inl e ↦ ap is_some (get-put_same d.blocks h x k e) ∙ sym (ap (λ (i : ℕ). is_live d i) e ∙ live)
    | inr other ↦ ap is_some (get-put_other d.blocks h x k other)
  ];
  map_block = refl;
}

taken_alike : (a b : Document) (h : ℕ) → Alike a b → Alike (without_block a h) (without_block b h)
taken_alike a b h same = record {
  live = λ k. elim (cases_eq k h) [
    | inl e ↦ ap is_some (get-taken_same b.blocks h k e) ∙ sym (ap is_some (get-taken_same a.blocks h k e))
    | inr other ↦ ap is_some (get-taken_other b.blocks h k other) ∙ (same.live k ∙ sym (ap is_some (get-taken_other a.blocks h k other)))
  ];
  map_block = same.map_block;
}

put_all_alike : (a b : Document) (ps : List (ℕ × Block)) → Alike a b → Alike (with_blocks a ps) (with_blocks b ps)
put_all_alike a b [] same = same
put_all_alike a b (p ∷ ps) same = put_all_alike (with_block a p.0 p.1) (with_block b p.0 p.1) ps (put_alike a b p.0 p.1 p.1 same)

taken_all_alike : (a b : Document) (hs : List ℕ) → Alike a b → Alike (without_blocks a hs) (without_blocks b hs)
taken_all_alike a b [] same = same
taken_all_alike a b (h ∷ hs) same = taken_all_alike (without_block a h) (without_block b h) hs (taken_alike a b h same)

part_alike : (a b : Document) (h : ℕ) (p : PartChange) → Alike a b → Alike (after_part h p a) (after_part h p b)
part_alike a b h (parts.Raw s) same = put_alike a b h _ _ same
part_alike a b h (parts.RawPatch ps) same = put_alike a b h _ _ same
part_alike a b h (parts.Chunk c s) same = put_alike a b h _ _ same
part_alike a b h (parts.Patch c ps runs) same = put_alike a b h _ _ same
part_alike a b h (parts.ChunkIn c content) same = put_alike a b h _ _ same
part_alike a b h (parts.ChunkOut c content) same = put_alike a b h _ _ same

-- a body or attributes change, and no handle
part_keeps : (d : Document) (h : ℕ) (p : PartChange) → is_live d h ≡ true → Alike d (after_part h p d)
part_keeps d h (parts.Raw s) live = put_there d h _ live
part_keeps d h (parts.RawPatch ps) live = put_there d h _ live
part_keeps d h (parts.Chunk c s) live = put_there d h _ live
part_keeps d h (parts.Patch c ps runs) live = put_there d h _ live
part_keeps d h (parts.ChunkIn c content) live = put_there d h _ live
part_keeps d h (parts.ChunkOut c content) live = put_there d h _ live

attributes_keeps : (d : Document) (h : ℕ) (attributes : Attributes) → Alike d (with_attributes d h attributes)
attributes_keeps d h attributes = of (get d.blocks h) refl
  where
    of : (o : Option Block) → get d.blocks h ≡ o → Alike d (option_map_or (λ (b : Block). with_block d h (record b { attributes = attributes })) o d)
    of None is = alike-refl d
    of (Some b) is = put_there d h _ (ap is_some is)

pub alike-back : (a b : Document) → Alike a b → Alike b a
alike-back a b same = record { live = λ h. sym (same.live h); map_block = sym same.map_block }

-- what a change makes of documents with the same handles
made_alike : (c : Change) (a b : Document) → Alike a b → Alike (after_change c a) (after_change c b)
made_alike (changes.BlocksIn ms) a b same = put_all_alike a b (imaged_blocks ms.list.items) same
made_alike (changes.BlocksOut ms) a b same = taken_all_alike a b (handles_of (imaged_blocks ms.list.items)) same
made_alike (changes.Part h part) a b same = part_alike a b h.0 part same
made_alike (changes.Attributes h old new) a b same =
    let c = after_change (changes.Attributes h old new) a in
    let d = after_change (changes.Attributes h old new) b in
    alike-trans c a d (alike-back a c (attributes_keeps a h.0 (attributes_for_kind (is_heap a h.0) new))) (alike-trans a b d same (attributes_keeps b h.0 (attributes_for_kind (is_heap b h.0) new)))
made_alike (changes.Map old new) a b same = record { live = same.live; map_block = refl }

-- What is known by handles alone stays known.

none_there : (o : Option Block) → is_some o ≡ false → o ≡ None
none_there None free = refl
none_there (Some block) free = absurd (true≢false free)

listed_alike : (c : Change) (a b : Document) → Alike a b → CanApplyByHandle c a → CanApplyByHandle c b
listed_alike (changes.BlocksIn ms) a b same are = record {
  free = λ i h within. record { handle = (are.free i h within).handle; free = none_there _ (same.live _ ∙ ap is_some (are.free i h within).free) };
  distinct = are.distinct;
}
listed_alike (changes.BlocksOut ms) a b same can = record {
  live = λ i h within. same.live _ ∙ can.live i h within;
  others = λ i h within is. can.others i h within (sym same.map_block ∙ is);
  distinct = can.distinct;
}
listed_alike (changes.Part h part) a b same live = same.live h.0 ∙ live
listed_alike (changes.Attributes h old new) a b same live = same.live h.0 ∙ live
listed_alike (changes.Map old new) a b same has = record { stands = same.map_block ∙ has.stands; live = λ some. same.live new.0 ∙ has.live some }

-- and was so before
pub listed_before : (c : Change) (honest : Bool) (a b : Document) → SameUnlessCorrupt honest a b → CanApplyByHandle c b → CanApplyByHandle c a
listed_before c honest a b unless_corrupt listed = listed_alike c b a (alike-back a b (drifted honest a b unless_corrupt)) listed

pub all_listed_alike : (cs : List Change) (a b : Document) → Alike a b → CanApplyAllByHandle cs a → CanApplyAllByHandle cs b
all_listed_alike [] a b same listed = tt
all_listed_alike (c ∷ cs) a b same listed = (listed_alike c a b same listed.0, all_listed_alike cs (after_change c a) (after_change c b) (made_alike c a b same) listed.1)

pub are_listed_alike : (direction : Direction) (a b : Document) (from to : List Change) → Alike a b → CanApplyBothByHandle direction a from to → CanApplyBothByHandle direction b from to
are_listed_alike direction a b from to same are = record {
  first = all_listed_alike (map (directed direction) from) a b same are.first;
  second = all_listed_alike (map (directed (opposite direction)) to) a b same are.second;
}

-- The same change the other way round, after a change.

-- handles that blocks can have, and a map block that is none or live
pub record Known (d : Document) : Type 0 where
  pub handles : (h : ℕ) → is_live d h ≡ true → is_vm_handle h ≡ true
  pub map_block : (d.map_block ≡ 0) ⊎ (is_live d d.map_block ≡ true)

pub listed_known : (honest : Bool) (d : Document) → IsFileDocument honest d → Known d
listed_known honest d listed = record { handles = listed.handles; map_block = listed.map_block }

module _ (d : Document) (known : Known d) where
  free_not_map : (h : ℕ) → IsFreeHandle d h → d.map_block ≢ h
  free_not_map h free same = elim known.map_block as (λ _. ⊥) [
    | inl none ↦ let no : is_vm_handle 0 ≡ true = ap is_vm_handle (sym none ∙ same) ∙ free.handle in cc
    | inr live ↦ true≢false (sym live ∙ (ap (λ (h : ℕ). is_live d h) same ∙ ap is_some free.free))
  ]

  in_listed : (ps : List (ℕ × Block)) → AreFree d (handles_of ps) → CanRemoveByHandle (with_blocks d ps) (handles_of ps)
  in_listed ps are = let stands = put_stands d ps are.distinct in record {
    live = All-map (λ h. is_live (with_blocks d ps) h ≡ true) (λ p. p.0) ps (λ i p within. ap is_some (stands i p within));
    others = λ i h within is. free_not_map (get_or (handles_of ps) i h) (are.free i h within) (sym (put_map_block d ps) ∙ is);
    distinct = are.distinct;
  }

  out_listed : (hs : List ℕ) → CanRemoveByHandle d hs → AreFree (without_blocks d hs) hs
  out_listed hs can = let gone = taken_gone d hs can.distinct in record {
    free = λ i h within. record { handle = known.handles (get_or hs i h) (can.live i h within); free = gone i h within };
    distinct = can.distinct;
  }

  map_listed : (old new : ℕ) → HasMap d old new → HasMap (record d { map_block = new }) new old
  map_listed old new has = record {
    stands = refl;
    live = λ some. elim known.map_block as (λ _. is_live d old ≡ true) [
      | inl none ↦ absurd (some (sym has.stands ∙ none))
      | inr live ↦ subst (λ (h : ℕ). is_live d h ≡ true) has.stands live
    ];
  }

  back_listed : (c : Change) → CanApplyByHandle c d → CanApplyByHandle (reversed c) (after_change c d)
  back_listed (changes.BlocksIn ms) are = in_listed (imaged_blocks ms.list.items) are
  back_listed (changes.BlocksOut ms) can = out_listed (handles_of (imaged_blocks ms.list.items)) can
  back_listed (changes.Part h part) live = (part_keeps d h.0 part live).live h.0 ∙ live
  back_listed (changes.Attributes h old new) live = (attributes_keeps d h.0 (attributes_for_kind (is_heap d h.0) new)).live h.0 ∙ live
  back_listed (changes.Map old new) has = map_listed old.0 new.0 has

-- Both leave the handles and the map block as they were.

-- the same handles with blocks of the document
abbrev blocks_there : Document → List (ℕ × Block) → List (ℕ × Block)
blocks_there d ps = map (λ p. (p.0, block_at d p.0)) ps

handles_there : (d : Document) (ps : List (ℕ × Block)) → handles_of (blocks_there d ps) ≡ handles_of ps
handles_there d [] = refl
handles_there d (p ∷ ps) = ap (λ (hs : List ℕ). p.0 ∷ hs) (handles_there d ps)

put_others : (d a b : Document) (ps : List (ℕ × Block)) → Alike a b → Alike (with_blocks a (blocks_there d ps)) (with_blocks b ps)
put_others d a b [] same = same
put_others d a b (p ∷ ps) same = put_others d (with_block a p.0 (block_at d p.0)) (with_block b p.0 p.1) ps (put_alike a b p.0 (block_at d p.0) p.1 same)

out_back : (d : Document) (ps : List (ℕ × Block)) → CanRemoveByHandle d (handles_of ps) → Alike d (with_blocks (without_blocks d (handles_of ps)) ps)
out_back d ps can =
    let qs = blocks_there d ps in
    let same : handles_of qs ≡ handles_of ps = handles_there d ps in
    let live : All (λ p. is_live d p.0 ≡ true) ps = All-from_map (λ h. is_live d h ≡ true) (λ p. p.0) ps can.live in
    let stands : All (λ q. get d.blocks q.0 ≡ Some q.1) qs = All-map (λ q. get d.blocks q.0 ≡ Some q.1) (λ p. (p.0, block_at d p.0)) ps (λ i p within. live_there d (get_or ps i p).0 (live i p within)) in
    let back : with_blocks (without_blocks d (handles_of qs)) qs ≡ d = out_and_in d qs stands (subst (λ (hs : List ℕ). all_distinct hs ≡ true) (sym same) can.distinct) in
    let less = without_blocks d (handles_of ps) in
    let again : with_blocks less qs ≡ d = subst (λ (hs : List ℕ). with_blocks (without_blocks d hs) qs ≡ d) same back in
    alike-trans d (with_blocks less qs) (with_blocks less ps) (same_alike d (with_blocks less qs) again) (put_others d less less ps (alike-refl less))

in_back : (d : Document) (ps : List (ℕ × Block)) → AreFree d (handles_of ps) → Alike d (without_blocks (with_blocks d ps) (handles_of ps))
in_back d ps are =
    let free : All (λ p. IsFreeHandle d p.0) ps = All-from_map (IsFreeHandle d) (λ p. p.0) ps are.free in
    same_alike d (without_blocks (with_blocks d ps) (handles_of ps)) (in_and_out d ps (λ i p within. (free i p within).free) are.distinct)

back_alike : (c : Change) (d : Document) → CanApplyByHandle c d → Alike d (after_change (reversed c) (after_change c d))
back_alike (changes.BlocksIn ms) d are = in_back d (imaged_blocks ms.list.items) are
back_alike (changes.BlocksOut ms) d can = out_back d (imaged_blocks ms.list.items) can
back_alike (changes.Part h part) d live =
    let keeps = part_keeps d h.0 part live in
    alike-trans d (after_change (changes.Part h part) d) _ keeps (part_keeps (after_change (changes.Part h part) d) h.0 _ (keeps.live h.0 ∙ live))
back_alike (changes.Attributes h old new) d live =
    let after = after_change (changes.Attributes h old new) d in
    alike-trans d after _ (attributes_keeps d h.0 (attributes_for_kind (is_heap d h.0) new)) (attributes_keeps after h.0 (attributes_for_kind (is_heap after h.0) old))
back_alike (changes.Map old new) d has = record { live = λ _. refl; map_block = sym has.stands }

-- So it is of lists of changes: the newest of one is made, and is the newest of the other.

other_way : (direction : Direction) (c : Change) → reversed (directed direction c) ≡ directed (opposite direction) c
other_way Forwards c = refl
other_way Backwards c = flip_twice c

moved_known : (direction : Direction) (d new : Document) (c : Change) (from to : List Change) → Known d → Alike (after_change (directed direction c) d) new
    → CanApplyBothByHandle direction d (c ∷ from) to → CanApplyBothByHandle direction new from (c ∷ to)
moved_known direction d new c from to known same are =
    let t = directed direction c in
    let back : CanApplyByHandle (reversed t) new = listed_alike (reversed t) (after_change t d) new same (back_listed d known t are.first.0) in
    let again : Alike d (after_change (reversed t) new) = alike-trans d (after_change (reversed t) (after_change t d)) (after_change (reversed t) new) (back_alike t d are.first.0) (made_alike (reversed t) (after_change t d) new same) in
    record {
      first = all_listed_alike (map (directed direction) from) (after_change t d) new same are.first.1;
      second = subst (λ (x : Change). CanApplyAllByHandle (x ∷ map (directed (opposite direction)) to) new) (other_way direction c)
          (back, all_listed_alike (map (directed (opposite direction)) to) d (after_change (reversed t) new) again are.second);
    }

-- an edit is made, and nothing is left to redo
pub edited_listed : (honest : Bool) (d new : Document) (c : Change) (undo redo : List Change) → IsFileDocument honest d → Alike (after_change c d) new → CanApplyByHandle c d → CanApplyBothByHandle Backwards d undo redo → CanApplyBothByHandle Backwards new (c ∷ undo) []
edited_listed honest d new c undo redo known same listed are =
    let moved : CanApplyBothByHandle Forwards new [] (c ∷ undo) = moved_known Forwards d new c [] undo (listed_known honest d known) same (record { first = (listed, tt); second = are.first }) in
    record { first = moved.second; second = tt }

-- with nothing to undo or to redo
pub none_listed : (d : Document) → CanApplyBothByHandle Backwards d [] []
none_listed d = record { first = tt; second = tt }

-- What is known of handles stays known where a change is made.

alike_known : (a b : Document) → Alike a b → Known a → Known b
alike_known a b same known = record {
  handles = λ h live. known.handles h (sym (same.live h) ∙ live);
  map_block = elim known.map_block as (λ _. (b.map_block ≡ 0) ⊎ (is_live b b.map_block ≡ true)) [
    | inl none ↦ inl (same.map_block ∙ none)
    | inr live ↦ inr (same.live b.map_block ∙ ap (λ (h : ℕ). is_live a h) same.map_block ∙ live)
  ];
}

put_known : (d : Document) (h : ℕ) (x : Block) → is_vm_handle h ≡ true → Known d → Known (with_block d h x)
put_known d h x can known = record {
  handles = λ k live. elim (cases_eq k h) [
    | inl e ↦ ap is_vm_handle e ∙ can
    | inr other ↦ known.handles k (sym (ap is_some (get-put_other d.blocks h x k other)) ∙ live)
  ];
  map_block = elim known.map_block as (λ _. (d.map_block ≡ 0) ⊎ (is_live (with_block d h x) d.map_block ≡ true)) [
    | inl none ↦ inl none
    | inr live ↦ inr (elim (cases_eq d.map_block h) [
      | inl e ↦ ap is_some (get-put_same d.blocks h x d.map_block e)
      | inr other ↦ ap is_some (get-put_other d.blocks h x d.map_block other) ∙ live
    ])
  ];
}

put_all_known : (ps : List (ℕ × Block)) (d : Document) → All (λ p. is_vm_handle p.0 ≡ true) ps → Known d → Known (with_blocks d ps)
put_all_known [] d can known = known
put_all_known (p ∷ ps) d can known = put_all_known ps (with_block d p.0 p.1) (λ i x within. can (suc i) x (omega arith)) (put_known d p.0 p.1 (can 0 p (omega arith)) known)

taken_known : (d : Document) (h : ℕ) → d.map_block ≢ h → Known d → Known (without_block d h)
taken_known d h other known = record {
  handles = λ k live. elim (cases_eq k h) [
    | inl e ↦ absurd (true≢false (sym live ∙ ap is_some (get-taken_same d.blocks h k e)))
    | inr apart ↦ known.handles k (sym (ap is_some (get-taken_other d.blocks h k apart)) ∙ live)
  ];
  map_block = elim known.map_block as (λ _. (d.map_block ≡ 0) ⊎ (is_live (without_block d h) d.map_block ≡ true)) [
    | inl none ↦ inl none
    | inr live ↦ inr (ap is_some (get-taken_other d.blocks h d.map_block other) ∙ live)
  ];
}

taken_all_known : (hs : List ℕ) (d : Document) → All (λ h. d.map_block ≢ h) hs → Known d → Known (without_blocks d hs)
taken_all_known [] d others known = known
taken_all_known (h ∷ hs) d others known = taken_all_known hs (without_block d h) (λ i x within. others (suc i) x (omega arith)) (taken_known d h (others 0 h (omega arith)) known)

made_known : (c : Change) (d : Document) → Known d → CanApplyByHandle c d → Known (after_change c d)
made_known (changes.BlocksIn ms) d known are =
    let free : All (λ p. IsFreeHandle d p.0) (imaged_blocks ms.list.items) = All-from_map (IsFreeHandle d) (λ p. p.0) (imaged_blocks ms.list.items) are.free in
    put_all_known (imaged_blocks ms.list.items) d (λ i p within. (free i p within).handle) known
made_known (changes.BlocksOut ms) d known can = taken_all_known (handles_of (imaged_blocks ms.list.items)) d can.others known
made_known (changes.Part h part) d known live = alike_known d (after_change (changes.Part h part) d) (part_keeps d h.0 part live) known
made_known (changes.Attributes h old new) d known live = alike_known d (after_change (changes.Attributes h old new) d) (attributes_keeps d h.0 (attributes_for_kind (is_heap d h.0) new)) known
made_known (changes.Map old new) d known has = record {
  handles = known.handles;
  map_block = elim (cases_eq new.0 0) [
    | inl none ↦ inl none
    | inr some ↦ inr (has.live some)
  ];
}

-- Changes one after another are the newest of one list, and then of the other.

pub moved_all_listed : (direction : Direction) (d new : Document) (cs from to : List Change) → Known d → Alike (after_all direction cs d) new
    → CanApplyBothByHandle direction d (cs ++ from) to → CanApplyBothByHandle direction new from (reverse cs ++ to)
moved_all_listed direction d new [] from to known same are = are_listed_alike direction d new from to same are
moved_all_listed direction d new (c ∷ cs) from to known same are =
    let t = directed direction c in
    let moved : CanApplyBothByHandle direction (after_change t d) (cs ++ from) (c ∷ to) = moved_known direction d (after_change t d) c (cs ++ from) to known (alike-refl (after_change t d)) are in
    subst (λ (to' : List Change). CanApplyBothByHandle direction new from to') (sym (reverse_onto c cs to))
    (moved_all_listed direction (after_change t d) new cs from (c ∷ to) (made_known t d known are.first.0) same moved)

-- the first ones of a list are known
pub listed_front : (direction : Direction) (cs others : List Change) (d : Document) → CanApplyAllByHandle (map (directed direction) (cs ++ others)) d → CanApplyAllByHandle (map (directed direction) cs) d
listed_front direction [] others d listed = tt
listed_front direction (c ∷ cs) others d listed = (listed.0, listed_front direction cs others (after_change (directed direction c) d) listed.1)

pub listed_behind : (direction : Direction) (cs others : List Change) (d : Document) → CanApplyAllByHandle (map (directed direction) (cs ++ others)) d → CanApplyAllByHandle (map (directed direction) others) (after_all direction cs d)
listed_behind direction [] others d listed = listed
listed_behind direction (c ∷ cs) others d listed = listed_behind direction cs others (after_change (directed direction c) d) listed.1

-- changes that are made forwards
pub forwards : (cs : List Change) → map (directed Forwards) cs ≡ cs
forwards [] = refl
forwards (c ∷ cs) = ap (λ (xs : List Change). c ∷ xs) (forwards cs)

-- they are made as handles allow, and nothing is left to redo
pub edited_all_listed : (honest : Bool) (d new : Document) (cs undo redo : List Change) → IsFileDocument honest d → Alike (after_all Forwards cs d) new → CanApplyAllByHandle (map (directed Forwards) cs) d → CanApplyBothByHandle Backwards d undo redo
    → CanApplyBothByHandle Backwards new (reverse cs ++ undo) []
edited_all_listed honest d new cs undo redo known same listed are =
    let first : CanApplyAllByHandle (map (directed Forwards) (cs ++ [])) d = subst (λ (xs : List Change). CanApplyAllByHandle (map (directed Forwards) xs) d) (sym (append-nil cs)) listed in
    let moved : CanApplyBothByHandle Forwards new [] (reverse cs ++ undo) = moved_all_listed Forwards d new cs [] undo (listed_known honest d known) same (record { first = first; second = are.first }) in
    record { first = moved.second; second = tt }

-- so it is of an entry
pub entry_listed : (direction : Direction) (e : LogEntry) (others : List LogEntry) (d : Document) → CanApplyAllByHandle (map (directed direction) (all_changes (e ∷ others))) d → CanApplyAllByHandle (map (directed direction) (changes_in e)) d
entry_listed direction (entries.One c) others d listed = (listed.0, tt)
entry_listed direction (entries.Group cs) others d listed = listed_front direction cs (all_changes others) d listed

pub moved_listed : (honest : Bool) (direction : Direction) (d new : Document) (e : LogEntry) (from to : List LogEntry) → IsFileDocument honest d → Alike (after_entry direction e d) new
    → CanApplyBothByHandle direction d (all_changes (e ∷ from)) (all_changes to) → CanApplyBothByHandle direction new (all_changes from) (all_changes (reversed_entry e ∷ to))
moved_listed honest direction d new (entries.One c) from to known same are = moved_known direction d new c (all_changes from) (all_changes to) (listed_known honest d known) same are
moved_listed honest direction d new (entries.Group cs) from to known same are = moved_all_listed direction d new cs (all_changes from) (all_changes to) (listed_known honest d known) same are
