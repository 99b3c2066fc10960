-- Changes that are carried out in memory, with the blocks that go taken out last: what they make of a document is what
-- they make of it one after another.
use Rattle.std.proofs.Common.{◌≡◌, ◌≢◌, ◌++◌, ℕ, List, [], ◌∷◌, true, false, get_or, Option, Some, is_some, nat_cmp, append-nil, append_assoc, refl, sym, ap, subst, ◌∙◌, inl, inr}
use Rattle.std.specs.Prelude.{unwrap_or}
use Rattle.std.specs.Option.{option_map_or}
use Rattle.std.specs.List.{All}
use Rattle.std.specs.FinMap.{FinMap, get}
use Rattle.std.proofs.lemmas.Bool.{cases_eq, cases_Bool, true≢false}
use Rattle.std.proofs.lemmas.List.Elements.{All-nil, All-cons}
use Rattle.geos_model.specs.Document.{Block, Document, block_at, handles_of, is_heap, is_heap_body, is_live, is_vm_handle, no_attributes, no_block, with_attributes, with_block, with_blocks, without_block, without_blocks}
use Rattle.geos_model.specs.declared.block.Attributes.{Attributes}
use Rattle.geos_model.proofs.HeapEdits.{get-put_same, get-put_other, get-taken_same, get-taken_other}
use Rattle.document_file.specs.Members.{imaged_blocks}
use Rattle.vm_blocks.specs.Changes.{after_change, after_part, attributes_for_kind, incoming_blocks, CanApply, CanApplyPart}
use Rattle.vm_blocks.specs.Exactness.{IsExactPart}
use Rattle.vm_blocks.specs.InMemory.{in_place, all_in_place, outgoing, all_outgoing, CanTakeOut, IsListed, AreListed, FitsInPlace, AllFit}
use Rattle.vm_blocks.specs.Parts.{body_after_part}
use Rattle.vm_blocks.specs.Preparing.{after_changes, CanApplyAll, CanApplyAllByHandle, CanApplyByHandle, CanRemoveByHandle, NoneComesIn}
use Rattle.vm_blocks.specs.declared.change.Change.{Change}
use Rattle.vm_blocks.specs.declared.change.Change.TheVariants as changes
use Rattle.vm_blocks.specs.declared.change.PartChange.{PartChange}
use Rattle.vm_blocks.proofs.MapLemmas.{put_past_taken}
use Rattle.vm_blocks.proofs.Exactness.{holds_by}
use Rattle.vm_blocks.proofs.PartLemmas.{part_is, part_live}
use Rattle.vm_blocks.proofs.Preparing.{live_there, part_body}

-- ---- documents without some blocks

-- a block that is live without others is live, and the same
there_before : (d : Document) (h b : ℕ) → is_live (without_block d h) b ≡ true → b ≢ h
there_before d h b live = λ same. true≢false (sym live ∙ ap is_some (get-taken_same d.blocks h b same))

pub get_before : (hs : List ℕ) (d : Document) (b : ℕ) → is_live (without_blocks d hs) b ≡ true → get (without_blocks d hs).blocks b ≡ get d.blocks b
get_before [] d b live = refl
get_before (h ∷ hs) d b live =
    let on : get (without_blocks (without_block d h) hs).blocks b ≡ get (without_block d h).blocks b = get_before hs (without_block d h) b live in
    let there : is_live (without_block d h) b ≡ true = sym (ap is_some on) ∙ live in
    on ∙ get-taken_other d.blocks h b (there_before d h b there)

pub live_before : (hs : List ℕ) (d : Document) (b : ℕ) → is_live (without_blocks d hs) b ≡ true → is_live d b ≡ true
live_before hs d b live = sym (ap is_some (get_before hs d b live)) ∙ live

map_without : (hs : List ℕ) (d : Document) → (without_blocks d hs).map_block ≡ d.map_block
map_without [] d = refl
map_without (h ∷ hs) d = map_without hs (without_block d h)

pub without_append : (hs ks : List ℕ) (d : Document) → without_blocks d (hs ++ ks) ≡ without_blocks (without_blocks d hs) ks
without_append [] ks d = refl
without_append (h ∷ hs) ks d = without_append hs ks (without_block d h)

abbrev pub AreAlike : Document → Document → Type 0
AreAlike a b = (h : ℕ) → is_live a h ≡ is_live b h

alike_without_one : (a b : Document) (k : ℕ) → AreAlike a b → AreAlike (without_block a k) (without_block b k)
alike_without_one a b k alike h = elim (cases_eq h k) as (λ _. is_live (without_block a k) h ≡ is_live (without_block b k) h) [
  | inl same ↦ ap is_some (get-taken_same a.blocks k h same) ∙ sym (ap is_some (get-taken_same b.blocks k h same))
  | inr other ↦ ap is_some (get-taken_other a.blocks k h other) ∙ (alike h ∙ sym (ap is_some (get-taken_other b.blocks k h other)))
]

alike_without : (hs : List ℕ) (a b : Document) → AreAlike a b → AreAlike (without_blocks a hs) (without_blocks b hs)
alike_without [] a b alike = alike
alike_without (k ∷ hs) a b alike = alike_without hs (without_block a k) (without_block b k) (alike_without_one a b k alike)

pub dead_without : (hs : List ℕ) (d : Document) (b : ℕ) → is_live d b ≡ false → is_live (without_blocks d hs) b ≡ false
dead_without hs d b dead = elim (cases_Bool (is_live (without_blocks d hs) b)) as (λ _. is_live (without_blocks d hs) b ≡ false) [
  | inl live ↦ absurd (true≢false (sym (live_before hs d b live) ∙ dead))
  | inr gone ↦ gone
]

-- one that was taken out isn't
gone : (hs : List ℕ) (d : Document) → All (λ h. is_live (without_blocks d hs) h ≡ false) hs
gone [] d = All-nil (λ h. is_live d h ≡ false)
gone (k ∷ hs) d =
    let less : Document = without_block d k in
    All-cons (λ h. is_live (without_blocks less hs) h ≡ false) k hs (dead_without hs less k (ap is_some (get-taken_same d.blocks k k refl))) (gone hs less)

-- ---- one change in place

-- the block that it changes, and what becomes of that
pub part_with : (b : ℕ) (p : PartChange) (d : Document) (block : Block) → get d.blocks b ≡ Some block → after_part b p d ≡ with_block d b (record block { body = body_after_part p block.body })
part_with b p d block is = part_is b p d block is ∙ ap (λ (o : Option Block). option_map_or (λ (x : Block). with_block d b (record x { body = body_after_part p x.body })) o d) is

pub attributes_with : (b : ℕ) (new : Attributes) (d : Document) (block : Block) → get d.blocks b ≡ Some block
    → with_attributes d b (attributes_for_kind (is_heap d b) new) ≡ with_block d b (record block { attributes = attributes_for_kind (is_heap_body block.body) new })
attributes_with b new d block is = rw is refl

swapped : (d : Document) (h k : ℕ) (b : Block) → h ≢ k → with_block (without_block d k) h b ≡ without_block (with_block d h b) k
swapped d h k b other = ap (λ (m : FinMap nat_cmp Block). record d { blocks = m }) (put_past_taken d.blocks h k b other)

-- the same blocks are live afterwards
put_alike : (d : Document) (b : ℕ) (block : Block) → is_live d b ≡ true → AreAlike (with_block d b block) d
put_alike d b block live h = elim (cases_eq h b) as (λ _. is_live (with_block d b block) h ≡ is_live d h) [
  | inl same ↦ ap is_some (get-put_same d.blocks b block h same) ∙ sym (ap (is_live d) same ∙ live)
  | inr other ↦ ap is_some (get-put_other d.blocks b block h other)
]

pub in_place_alike : (c : Change) (d : Document) → IsListed c d → (h : ℕ) → is_live (in_place c d) h ≡ is_live d h
in_place_alike (changes.BlocksIn ms) d listed h = refl
in_place_alike (changes.BlocksOut ms) d listed h = refl
in_place_alike (changes.Part b part) d listed h =
    ap (λ (x : Document). is_live x h) (part_with b.0 part d (block_at d b.0) (live_there d b.0 listed)) ∙ put_alike d b.0 _ listed h
in_place_alike (changes.Attributes b old new) d listed h =
    ap (λ (x : Document). is_live x h) (attributes_with b.0 new d (block_at d b.0) (live_there d b.0 listed)) ∙ put_alike d b.0 _ listed h
in_place_alike (changes.Map old new) d listed h = refl

-- it can be made before some blocks are taken out as well as afterwards

module _ (b : ℕ) (made : Document → Document) (changed : Block → Block) (by : (d : Document) (block : Block) → get d.blocks b ≡ Some block → made d ≡ with_block d b (changed block)) where
  made_past_one : (d : Document) (k : ℕ) → is_live (without_block d k) b ≡ true → made (without_block d k) ≡ without_block (made d) k
  made_past_one d k live =
      let other : b ≢ k = there_before d k b live in
      let same : get (without_block d k).blocks b ≡ get d.blocks b = get-taken_other d.blocks k b other in
      let there : get d.blocks b ≡ Some (block_at (without_block d k) b) = sym same ∙ live_there (without_block d k) b live in
      by (without_block d k) (block_at (without_block d k) b) (live_there (without_block d k) b live)
      ∙ swapped d b k (changed (block_at (without_block d k) b)) other
      ∙ ap (λ (x : Document). without_block x k) (sym (by d (block_at (without_block d k) b) there))

  made_past : (hs : List ℕ) (d : Document) → is_live (without_blocks d hs) b ≡ true → made (without_blocks d hs) ≡ without_blocks (made d) hs
  made_past [] d live = refl
  made_past (k ∷ hs) d live =
      made_past hs (without_block d k) live
      ∙ ap (λ (x : Document). without_blocks x hs) (made_past_one d k (live_before hs (without_block d k) b live))

map_past : (hs : List ℕ) (d : Document) (n : ℕ) → record (without_blocks d hs) { map_block = n } ≡ without_blocks (record d { map_block = n }) hs
map_past [] d n = refl
map_past (k ∷ hs) d n = map_past hs (without_block d k) n

in_place_past : (c : Change) (hs : List ℕ) (d : Document) → IsListed c (without_blocks d hs) → in_place c (without_blocks d hs) ≡ without_blocks (in_place c d) hs
in_place_past (changes.BlocksIn ms) hs d listed = refl
in_place_past (changes.BlocksOut ms) hs d listed = refl
in_place_past (changes.Part b part) hs d listed =
    made_past b.0 (after_part b.0 part) (λ block. record block { body = body_after_part part block.body }) (λ d block is. part_with b.0 part d block is) hs d listed
in_place_past (changes.Attributes b old new) hs d listed =
    made_past b.0 (λ d. with_attributes d b.0 (attributes_for_kind (is_heap d b.0) new)) (λ block. record block { attributes = attributes_for_kind (is_heap_body block.body) new })
    (λ d block is. attributes_with b.0 new d block is) hs d listed
in_place_past (changes.Map old new) hs d listed = map_past hs d new.0

-- what is known of it by handles is known before some blocks are taken out
listed_before : (c : Change) (hs : List ℕ) (d : Document) → IsListed c (without_blocks d hs) → IsListed c d
listed_before (changes.BlocksIn ms) hs d listed = tt
listed_before (changes.BlocksOut ms) hs d listed = tt
listed_before (changes.Part b part) hs d listed = live_before hs d b.0 listed
listed_before (changes.Attributes b old new) hs d listed = live_before hs d b.0 listed
listed_before (changes.Map old new) hs d listed = record { stands = sym (map_without hs d) ∙ listed.stands; live = λ some. live_before hs d new.0 (listed.live some) }

-- ---- changes one after another

-- one that brings no block in is a change in place, and takes blocks out
after_is : (c : Change) (d : Document) → CanApplyByHandle c d → incoming_blocks c ≡ [] → IsListed c d × (after_change c d ≡ without_blocks (in_place c d) (outgoing c))
after_is (changes.BlocksIn ms) d listed none = (tt, ap (with_blocks d) none)
after_is (changes.BlocksOut ms) d listed none = (tt, refl)
after_is (changes.Part b part) d listed none = (listed, refl)
after_is (changes.Attributes b old new) d listed none = (listed, refl)
after_is (changes.Map old new) d listed none = (listed, refl)

-- Beside a document without some blocks, the changes make of the one with them the same, but for these and those that
-- go.
pub settled : (cs : List Change) (d whole : Document) (hs : List ℕ) → d ≡ without_blocks whole hs → CanApplyAllByHandle cs d → NoneComesIn cs
    → AreListed cs whole × (after_changes cs d ≡ without_blocks (all_in_place cs whole) (hs ++ all_outgoing cs))
settled [] d whole hs is listed none = (tt, is ∙ ap (without_blocks whole) (sym (append-nil hs)))
settled (c ∷ cs) d whole hs is listed none =
    let one = after_is c d listed.0 none.0 in
    let there : IsListed c (without_blocks whole hs) = subst (IsListed c) is one.0 in
    let next : after_change c d ≡ without_blocks (in_place c whole) (hs ++ outgoing c) =
    one.1 ∙ ap (λ (x : Document). without_blocks (in_place c x) (outgoing c)) is ∙ ap (λ (x : Document). without_blocks x (outgoing c)) (in_place_past c hs whole there) ∙ sym (without_append hs (outgoing c) (in_place c whole)) in
    let rest = settled cs (after_change c d) (in_place c whole) (hs ++ outgoing c) next listed.1 none.1 in
    ((listed_before c hs whole there, rest.0), rest.1 ∙ ap (without_blocks (all_in_place cs (in_place c whole))) (append_assoc hs (outgoing c) (all_outgoing cs)))

-- The map block isn't one that was taken out, whatever was made since.
map_stays_other : (cs : List Change) (d : Document) (h : ℕ) → is_live d h ≡ false → h ≢ 0 → d.map_block ≢ h → CanApplyAllByHandle cs d → NoneComesIn cs → (after_changes cs d).map_block ≢ h
map_stays_other [] d h dead some other listed none = other
map_stays_other (c ∷ cs) d h dead some other listed none =
    let one = after_is c d listed.0 none.0 in
    let gone_on : is_live (after_change c d) h ≡ false =
    ap (λ (x : Document). is_live x h) one.1 ∙ dead_without (outgoing c) (in_place c d) h (in_place_alike c d one.0 h ∙ dead) in
    map_stays_other cs (after_change c d) h gone_on some (by c listed.0 none.0) listed.1 none.1
  where
    by : (c : Change) → CanApplyByHandle c d → incoming_blocks c ≡ [] → (after_change c d).map_block ≢ h
    by (changes.BlocksIn ms) listed none = λ same. other (sym (ap (λ ps. (with_blocks d ps).map_block) none) ∙ same)
    by (changes.BlocksOut ms) listed none = λ same. other (sym (map_without (handles_of (imaged_blocks ms.list.items)) d) ∙ same)
    by (changes.Part b part) listed none =
        let is = ap (λ (x : Document). x.map_block) (part_with b.0 part d (block_at d b.0) (live_there d b.0 listed)) in
        λ same. other (sym is ∙ same)
    by (changes.Attributes b old new) listed none =
        let is = ap (λ (x : Document). x.map_block) (attributes_with b.0 new d (block_at d b.0) (live_there d b.0 listed)) in
        λ same. other (sym is ∙ same)
    by (changes.Map old new) listed none = λ same.
        let live : is_live d new.0 ≡ true = listed.live (λ none. some (sym same ∙ none)) in
        true≢false (sym live ∙ (ap (is_live d) same ∙ dead))

pub none_go : (d : Document) → CanRemoveByHandle d []
none_go d = record { live = All-nil (λ h. is_live d h ≡ true); others = All-nil (λ h. d.map_block ≢ h); distinct = refl }

-- Those that go can go at the end.

module _ (c : Change) (cs : List Change) (d now : Document) (alike : AreAlike now d) (map : now.map_block ≡ (after_changes (c ∷ cs) d).map_block) (handles : (h : ℕ) → is_live d h ≡ true → is_vm_handle h ≡ true)
    (listed : CanApplyAllByHandle cs (after_change c d)) (none : NoneComesIn cs) where
  live_not_0 : (h : ℕ) → is_live d h ≡ true → h ≢ 0
  live_not_0 h live = λ zero. let no : is_vm_handle 0 ≡ true = ap is_vm_handle (sym zero) ∙ handles h live in cc no

  first_goes : CanApplyByHandle c d → CanRemoveByHandle now (outgoing c)
  first_goes one = by c one refl
    where
      by : (x : Change) → CanApplyByHandle x d → x ≡ c → CanRemoveByHandle now (outgoing x)
      by (changes.BlocksIn ms) can is = none_go now
      by (changes.BlocksOut ms) can is = let hs : List ℕ = handles_of (imaged_blocks ms.list.items) in record {
        live = λ i h within. alike (get_or hs i h) ∙ can.live i h within;
        others = λ i h within.
            let k : ℕ = get_or hs i h in
            let left : after_change c d ≡ without_blocks d hs = ap (λ (x : Change). after_change x d) (sym is) in
            let dead : is_live (after_change c d) k ≡ false = ap (λ (x : Document). is_live x k) left ∙ gone hs d i h within in
            let other : (after_change c d).map_block ≢ k = λ same. can.others i h within (sym (ap (λ (x : Document). x.map_block) left ∙ map_without hs d) ∙ same) in
            λ same. map_stays_other cs (after_change c d) k dead (live_not_0 k (can.live i h within)) other listed none (sym map ∙ same);
        distinct = can.distinct;
      }
      by (changes.Part b part) can is = none_go now
      by (changes.Attributes b old new) can is = none_go now
      by (changes.Map old new) can is = none_go now

pub can_take_out : (cs : List Change) (d now : Document) → ((h : ℕ) → is_live now h ≡ is_live d h) → now.map_block ≡ (after_changes cs d).map_block → ((h : ℕ) → is_live d h ≡ true → is_vm_handle h ≡ true)
    → CanApplyAllByHandle cs d → NoneComesIn cs → CanTakeOut cs now
can_take_out [] d now alike map handles listed none = tt
can_take_out (c ∷ cs) d now alike map handles listed none =
    let one = after_is c d listed.0 none.0 in
    let alike_on : AreAlike (without_blocks now (outgoing c)) (after_change c d) =
    λ h. alike_without (outgoing c) now (in_place c d) (λ k. alike k ∙ sym (in_place_alike c d one.0 k)) h ∙ sym (ap (λ (x : Document). is_live x h) one.1) in
    let handles_on : (h : ℕ) → is_live (after_change c d) h ≡ true → is_vm_handle h ≡ true =
    λ h live. handles h (sym (in_place_alike c d one.0 h) ∙ live_before (outgoing c) (in_place c d) h (sym (ap (λ (x : Document). is_live x h) one.1) ∙ live)) in (
      first_goes c cs d now alike map handles listed.1 none.1 listed.0,
      can_take_out cs (after_change c d) (without_blocks now (outgoing c)) alike_on (map_without (outgoing c) now ∙ map) handles_on listed.1 none.1,
    )

-- all in place
pub all_alike : (cs : List Change) (d : Document) → AreListed cs d → (h : ℕ) → is_live (all_in_place cs d) h ≡ is_live d h
all_alike [] d listed h = refl
all_alike (c ∷ cs) d listed h = all_alike cs (in_place c d) listed.1 h ∙ in_place_alike c d listed.0 h

-- From a document, all in place and then those that go.
module _ (cs : List Change) (d : Document) (listed : CanApplyAllByHandle cs d) (none : NoneComesIn cs) where
  pub all_listed : AreListed cs d
  all_listed = (settled cs d d [] refl listed none).0

  pub all_settled : without_blocks (all_in_place cs d) (all_outgoing cs) ≡ after_changes cs d
  all_settled = sym (settled cs d d [] refl listed none).1

  pub all_can_go : ((h : ℕ) → is_live d h ≡ true → is_vm_handle h ≡ true) → CanTakeOut cs (all_in_place cs d)
  all_can_go handles =
      can_take_out cs d (all_in_place cs d) (all_alike cs d all_listed) (sym (map_without (all_outgoing cs) (all_in_place cs d)) ∙ ap (λ (x : Document). x.map_block) all_settled) handles listed none

-- ---- what goes stands there

-- Where each change can be made, each fits in place.
exact_by : (b : ℕ) (p : PartChange) (d : Document) → CanApplyPart b p d → IsExactPart p (block_at d b).body
exact_by b p d applies = record { takes = part_body b p d applies; holds = holds_by b p d (block_at d b) (live_there d b (part_live b p d applies)) applies }

fits_one : (c : Change) (d whole : Document) (hs : List ℕ) → d ≡ without_blocks whole hs → CanApply c d → FitsInPlace c whole
fits_one (changes.BlocksIn ms) d whole hs is applies = tt
fits_one (changes.BlocksOut ms) d whole hs is applies = tt
fits_one (changes.Part b part) d whole hs is applies =
    let live : is_live (without_blocks whole hs) b.0 ≡ true = sym (ap (λ (x : Document). is_live x b.0) is) ∙ part_live b.0 part d applies in
    let same : get d.blocks b.0 ≡ get whole.blocks b.0 = ap (λ (x : Document). get x.blocks b.0) is ∙ get_before hs whole b.0 live in
    subst (λ (o : Option Block). IsExactPart part (unwrap_or o no_block).body) same (exact_by b.0 part d applies)
fits_one (changes.Attributes b old new) d whole hs is applies =
    let live : is_live (without_blocks whole hs) b.0 ≡ true = sym (ap (λ (x : Document). is_live x b.0) is) ∙ applies.live in
    let same : get d.blocks b.0 ≡ get whole.blocks b.0 = ap (λ (x : Document). get x.blocks b.0) is ∙ get_before hs whole b.0 live in
    sym (ap (λ (o : Option Block). option_map_or (λ (x : Block). x.attributes) o no_attributes) same) ∙ applies.stands
fits_one (changes.Map old new) d whole hs is applies = tt

fits_all : (cs : List Change) (d whole : Document) (hs : List ℕ) → d ≡ without_blocks whole hs → CanApplyAll cs d → CanApplyAllByHandle cs d → NoneComesIn cs → AllFit cs whole
fits_all [] d whole hs is applies listed none = tt
fits_all (c ∷ cs) d whole hs is applies listed none =
    let one = after_is c d listed.0 none.0 in
    let there : IsListed c (without_blocks whole hs) = subst (IsListed c) is one.0 in
    let next : after_change c d ≡ without_blocks (in_place c whole) (hs ++ outgoing c) =
    one.1 ∙ ap (λ (x : Document). without_blocks (in_place c x) (outgoing c)) is ∙ ap (λ (x : Document). without_blocks x (outgoing c)) (in_place_past c hs whole there) ∙ sym (without_append hs (outgoing c) (in_place c whole)) in
    (fits_one c d whole hs is applies.0, fits_all cs (after_change c d) (in_place c whole) (hs ++ outgoing c) next applies.1 listed.1 none.1)

pub all_fit : (cs : List Change) (d : Document) → CanApplyAll cs d → CanApplyAllByHandle cs d → NoneComesIn cs → AllFit cs d
all_fit cs d applies listed none = fits_all cs d d [] refl applies listed none
