-- Blocks that changes bring in are put in before the other changes: what all make of a document is the same.
use Rattle.std.proofs.Common.{◌≡◌, ◌≢◌, ◌++◌, ◌<◌, ℕ, Bool, List, [], ◌∷◌, length, get_or, nat_cmp, true, false, Some, is_some, refl, sym, ap, subst, ◌∙◌, inl, inr}
use Rattle.std.specs.List.{All, Contains}
use Rattle.std.specs.FinMap.{FinMap, get}
use Rattle.std.proofs.lemmas.Bool.{cases_eq, true≢false}
use Rattle.std.proofs.lemmas.List.{get_or_default}
use Rattle.std.proofs.lemmas.List.Elements.{All-nil, All-contains, All-head, All-tail}
use Rattle.geos_model.specs.ElementArray.{all_distinct}
use Rattle.geos_model.specs.Document.{Block, Document, block_at, handles_of, is_heap, is_heap_body, is_live, with_attributes, with_block, with_blocks, without_blocks}
use Rattle.geos_model.proofs.BlockLists.{distinct-first, distinct-rest}
use Rattle.geos_model.proofs.HeapEdits.{get-put_same, get-put_other}
use Rattle.document_file.specs.Disk.{SameUnlessCorrupt}
use Rattle.document_file.specs.Members.{imaged_blocks}
use Rattle.vm_blocks.specs.State.{CacheState}
use Rattle.vm_blocks.specs.Changes.{after_change, after_part, attributes_for_kind, incoming_blocks, AreFree, IsFreeHandle}
use Rattle.vm_blocks.specs.Incoming.{CanComeIn, CanAllComeIn, others, with_incoming, with_other}
use Rattle.vm_blocks.specs.InMemory.{AllFit, AreListed, CanTakeOut, all_in_place, all_outgoing, in_place, outgoing}
use Rattle.vm_blocks.specs.Parts.{body_after_part}
use Rattle.vm_blocks.specs.Preparing.{after_changes, AreInMemory, CanApplyAll, CanApplyAllByHandle, CanApplyByHandle, NoneComesIn}
use Rattle.vm_blocks.specs.declared.change.Change.{Change}
use Rattle.vm_blocks.specs.declared.change.Change.TheVariants as changes
use Rattle.vm_blocks.proofs.InMemory.{AreAlike, attributes_with, dead_without, in_place_alike, none_go, part_with}
use Rattle.vm_blocks.proofs.ManyBlocks.{put_later}
use Rattle.vm_blocks.proofs.MapLemmas.{put_past_put}
use Rattle.vm_blocks.proofs.Preparing.{live_there, put_live, put_on}

-- ---- where the same blocks are live, the same ones can come in

alike_with_one : (a b : Document) (k : ℕ) (x : Block) → AreAlike a b → AreAlike (with_block a k x) (with_block b k x)
alike_with_one a b k x alike h = elim (cases_eq h k) as (λ _. is_live (with_block a k x) h ≡ is_live (with_block b k x) h) [
  | inl same ↦ ap is_some (get-put_same a.blocks k x h same) ∙ sym (ap is_some (get-put_same b.blocks k x h same))
  | inr other ↦ ap is_some (get-put_other a.blocks k x h other) ∙ (alike h ∙ sym (ap is_some (get-put_other b.blocks k x h other)))
]

alike_with : (ps : List (ℕ × Block)) (a b : Document) → AreAlike a b → AreAlike (with_blocks a ps) (with_blocks b ps)
alike_with [] a b alike = alike
alike_with (p ∷ ps) a b alike = alike_with ps (with_block a p.0 p.1) (with_block b p.0 p.1) (alike_with_one a b p.0 p.1 alike)

come_in_alike : (ps : List (ℕ × Block)) (a b : Document) → AreAlike a b → CanComeIn ps a → CanComeIn ps b
come_in_alike [] a b alike can = tt
come_in_alike (p ∷ ps) a b alike can =
    (sym (alike p.0) ∙ can.0, come_in_alike ps (with_block a p.0 p.1) (with_block b p.0 p.1) (alike_with_one a b p.0 p.1 alike) can.1)

pub all_come_in_alike : (cs : List Change) (a b : Document) → AreAlike a b → CanAllComeIn cs a → CanAllComeIn cs b
all_come_in_alike [] a b alike can = tt
all_come_in_alike (c ∷ cs) a b alike can = let ps = incoming_blocks c in
    (come_in_alike ps a b alike can.0, all_come_in_alike cs (with_blocks a ps) (with_blocks b ps) (alike_with ps a b alike) can.1)

-- under handles that are free, no two of them the same
free_later : (d : Document) (k : ℕ) (x : Block) (hs : List ℕ) → (Contains hs k → ⊥) → All (λ h. is_live d h ≡ false) hs → All (λ h. is_live (with_block d k x) h ≡ false) hs
free_later d k x hs absent free = λ i h within.
    let is : ℕ = get_or hs i h in
    ap is_some (get-put_other d.blocks k x is (λ same. absent (i, within, same_there hs i h k within same))) ∙ free i h within
  where
    same_there : (hs : List ℕ) (i h k : ℕ) → i < length hs → get_or hs i h ≡ k → get_or hs i k ≡ k
    same_there hs i h k within same = get_or_default hs i k h within ∙ same

come_in_dead : (ps : List (ℕ × Block)) (d : Document) → All (λ h. is_live d h ≡ false) (handles_of ps) → all_distinct (handles_of ps) ≡ true → CanComeIn ps d
come_in_dead [] d free once = tt
come_in_dead (p ∷ ps) d free once =
    let hs = handles_of ps in (
      All-head (λ h. is_live d h ≡ false) p.0 hs free,
      come_in_dead ps (with_block d p.0 p.1) (free_later d p.0 p.1 hs (distinct-first p.0 hs once) (All-tail (λ h. is_live d h ≡ false) p.0 hs free)) (distinct-rest p.0 hs once),
    )

pub can_come_in : (ps : List (ℕ × Block)) (d : Document) → AreFree d (handles_of ps) → CanComeIn ps d
can_come_in ps d are = come_in_dead ps d (λ i h within. ap is_some (are.free i h within).free) are.distinct

-- ---- a change that brings none in, past one block that comes in

put_past : (d : Document) (h k : ℕ) (x y : Block) → h ≢ k → with_block (with_block d k y) h x ≡ with_block (with_block d h x) k y
put_past d h k x y other = ap (λ (m : FinMap nat_cmp Block). record d { blocks = m }) (put_past_put d.blocks h k x y other)

module _ (d : Document) (h : ℕ) (y : Block) (dead : is_live d h ≡ false) where
  abbrev more : Document
  more = with_block d h y

  is_other : (b : ℕ) → is_live d b ≡ true → b ≢ h
  is_other b live same = true≢false (sym live ∙ (ap (is_live d) same ∙ dead))

  module _ (b : ℕ) (made : Document → Document) (changed : Block → Block) (by : (d : Document) (block : Block) → get d.blocks b ≡ Some block → made d ≡ with_block d b (changed block)) where
    made_with : is_live d b ≡ true → made more ≡ with_block (made d) h y
    made_with live =
        let other : b ≢ h = is_other b live in
        let block : Block = block_at d b in
        let there : get d.blocks b ≡ Some block = live_there d b live in
        by more block (get-put_other d.blocks h y b other ∙ there) ∙ put_past d b h (changed block) y other ∙ ap (λ (x : Document). with_block x h y) (sym (by d block there))

  abbrev Passes : Change → Type 0
  Passes c = CanApplyByHandle c more × (after_change c more ≡ with_block (after_change c d) h y) × (is_live (after_change c d) h ≡ false)

  past_one : (c : Change) → CanApplyByHandle c d → incoming_blocks c ≡ [] → Passes c
  past_one (changes.BlocksIn ms) listed none = (
    subst (λ (ps : List (ℕ × Block)). AreFree more (handles_of ps)) (sym none) (record { free = All-nil (IsFreeHandle more); distinct = refl }),
    ap (with_blocks more) none ∙ ap (λ (x : Document). with_block x h y) (sym (ap (with_blocks d) none)),
    ap (λ (ps : List (ℕ × Block)). is_live (with_blocks d ps) h) none ∙ dead,
  )
  past_one (changes.BlocksOut ms) listed none =
      let hs : List ℕ = handles_of (imaged_blocks ms.list.items) in (
        record { live = λ i k within. put_live d h y (get_or hs i k) (listed.live i k within); others = listed.others; distinct = listed.distinct },
        sym (put_later d hs h y (λ there. true≢false (sym (All-contains (λ k. is_live d k ≡ true) hs h listed.live there) ∙ dead))),
        dead_without hs d h dead,
      )
  past_one (changes.Part b part) listed none = (
    put_live d h y b.0 listed,
    made_with b.0 (after_part b.0 part) (λ block. record block { body = body_after_part part block.body }) (λ d block is. part_with b.0 part d block is) listed,
    in_place_alike (changes.Part b part) d listed h ∙ dead,
  )
  past_one (changes.Attributes b old new) listed none = (
    put_live d h y b.0 listed,
    made_with b.0 (λ d. with_attributes d b.0 (attributes_for_kind (is_heap d b.0) new)) (λ block. record block { attributes = attributes_for_kind (is_heap_body block.body) new })
        (λ d block is. attributes_with b.0 new d block is) listed,
    in_place_alike (changes.Attributes b old new) d listed h ∙ dead,
  )
  past_one (changes.Map old new) listed none = (
    record { stands = listed.stands; live = λ some. put_live d h y new.0 (listed.live some) },
    refl,
    dead,
  )

-- past several, and past all that changes bring in

past : (c : Change) (ps : List (ℕ × Block)) (d : Document) → CanComeIn ps d → CanApplyByHandle c d → incoming_blocks c ≡ []
    → CanApplyByHandle c (with_blocks d ps) × (after_change c (with_blocks d ps) ≡ with_blocks (after_change c d) ps) × CanComeIn ps (after_change c d)
past c [] d can listed none = (listed, refl, tt)
past c (p ∷ ps) d can listed none =
    let one = past_one d p.0 p.1 can.0 c listed none in
    let rest = past c ps (with_block d p.0 p.1) can.1 one.0 none in
    (rest.0, rest.1 ∙ ap (λ (x : Document). with_blocks x ps) one.1, (one.2, subst (CanComeIn ps) one.1 rest.2))

past_all : (c : Change) (cs : List Change) (d : Document) → CanAllComeIn cs d → CanApplyByHandle c d → incoming_blocks c ≡ []
    → CanApplyByHandle c (with_incoming cs d) × (after_change c (with_incoming cs d) ≡ with_incoming cs (after_change c d)) × CanAllComeIn cs (after_change c d)
past_all c [] d can listed none = (listed, refl, tt)
past_all c (x ∷ cs) d can listed none =
    let one = past c (incoming_blocks x) d can.0 listed none in
    let rest = past_all c cs (with_blocks d (incoming_blocks x)) can.1 one.0 none in
    (rest.0, rest.1 ∙ ap (with_incoming cs) one.1, (one.2, subst (CanAllComeIn cs) one.1 rest.2))

-- ---- the others after all that come in

abbrev Moves : List Change → Document → Type 0
Moves cs d = CanApplyAllByHandle (others cs) (with_incoming cs d) × (after_changes (others cs) (with_incoming cs d) ≡ after_changes cs d)

module _ (cs : List Change) (rest : (d : Document) → CanAllComeIn cs d → CanApplyAllByHandle cs d → Moves cs d) (d : Document) where
  -- one of the others
  moved_past : (c : Change) → incoming_blocks c ≡ [] → CanAllComeIn cs d → CanApplyByHandle c d → CanApplyAllByHandle cs (after_change c d)
      → CanApplyAllByHandle (c ∷ others cs) (with_incoming cs d) × (after_changes (c ∷ others cs) (with_incoming cs d) ≡ after_changes (c ∷ cs) d)
  moved_past c none can one listed =
      let p = past_all c cs d can one none in
      let q = rest (after_change c d) p.2 listed in
      ((p.0, subst (CanApplyAllByHandle (others cs)) (sym p.1) q.0), ap (after_changes (others cs)) p.1 ∙ q.1)

  moved_one : (c : Change) → CanAllComeIn (c ∷ cs) d → CanApplyAllByHandle (c ∷ cs) d → Moves (c ∷ cs) d
  moved_one (changes.BlocksIn ms) can listed = rest (after_change (changes.BlocksIn ms) d) can.1 listed.1
  moved_one (changes.BlocksOut ms) can listed = moved_past (changes.BlocksOut ms) refl can.1 listed.0 listed.1
  moved_one (changes.Part b part) can listed = moved_past (changes.Part b part) refl can.1 listed.0 listed.1
  moved_one (changes.Attributes b old new) can listed = moved_past (changes.Attributes b old new) refl can.1 listed.0 listed.1
  moved_one (changes.Map old new) can listed = moved_past (changes.Map old new) refl can.1 listed.0 listed.1

pub moved : (cs : List Change) (d : Document) → CanAllComeIn cs d → CanApplyAllByHandle cs d → Moves cs d
moved [] d can listed = (tt, refl)
moved (c ∷ cs) d can listed = moved_one cs (moved cs) d c can listed

-- as far as the store gives back what it has
pub with_incoming_on : (cs : List Change) (honest : Bool) (a b : Document) → SameUnlessCorrupt honest a b → SameUnlessCorrupt honest (with_incoming cs a) (with_incoming cs b)
with_incoming_on [] honest a b unless_corrupt = unless_corrupt
with_incoming_on (c ∷ cs) honest a b unless_corrupt =
    with_incoming_on cs honest (with_blocks a (incoming_blocks c)) (with_blocks b (incoming_blocks c)) (put_on honest a b unless_corrupt (incoming_blocks c))

-- ---- what is carried out of the others is carried out of all

-- none of the others brings blocks in
none_of_one : (c : Change) (cs : List Change) → NoneComesIn cs → NoneComesIn (with_other c cs)
none_of_one (changes.BlocksIn ms) cs none = none
none_of_one (changes.BlocksOut ms) cs none = (refl, none)
none_of_one (changes.Part b part) cs none = (refl, none)
none_of_one (changes.Attributes b old new) cs none = (refl, none)
none_of_one (changes.Map old new) cs none = (refl, none)

pub none_of_others : (cs : List Change) → NoneComesIn (others cs)
none_of_others [] = tt
none_of_others (c ∷ cs) = none_of_one c (others cs) (none_of_others cs)

in_place_one : (c : Change) (cs : List Change) (d : Document) → all_in_place (with_other c cs) d ≡ all_in_place cs (in_place c d)
in_place_one (changes.BlocksIn ms) cs d = refl
in_place_one (changes.BlocksOut ms) cs d = refl
in_place_one (changes.Part b part) cs d = refl
in_place_one (changes.Attributes b old new) cs d = refl
in_place_one (changes.Map old new) cs d = refl

pub others_in_place : (cs : List Change) (d : Document) → all_in_place (others cs) d ≡ all_in_place cs d
others_in_place [] d = refl
others_in_place (c ∷ cs) d = in_place_one c (others cs) d ∙ others_in_place cs (in_place c d)

outgoing_one : (c : Change) (cs : List Change) → all_outgoing (with_other c cs) ≡ outgoing c ++ all_outgoing cs
outgoing_one (changes.BlocksIn ms) cs = refl
outgoing_one (changes.BlocksOut ms) cs = refl
outgoing_one (changes.Part b part) cs = refl
outgoing_one (changes.Attributes b old new) cs = refl
outgoing_one (changes.Map old new) cs = refl

pub others_outgoing : (cs : List Change) → all_outgoing (others cs) ≡ all_outgoing cs
others_outgoing [] = refl
others_outgoing (c ∷ cs) = outgoing_one c (others cs) ∙ ap (λ (hs : List ℕ). outgoing c ++ hs) (others_outgoing cs)

pub others_leaving : (cs : List Change) (d : Document) → without_blocks (all_in_place cs d) (all_outgoing cs) ≡ without_blocks (all_in_place (others cs) d) (all_outgoing (others cs))
others_leaving cs d = sym (ap (λ (x : Document). without_blocks x (all_outgoing (others cs))) (others_in_place cs d) ∙ ap (without_blocks (all_in_place cs d)) (others_outgoing cs))

listed_one : (c : Change) (cs ds : List Change) (d : Document) → (AreListed cs (in_place c d) → AreListed ds (in_place c d)) → AreListed (with_other c cs) d → AreListed (c ∷ ds) d
listed_one (changes.BlocksIn ms) cs ds d rest listed = (tt, rest listed)
listed_one (changes.BlocksOut ms) cs ds d rest listed = (listed.0, rest listed.1)
listed_one (changes.Part b part) cs ds d rest listed = (listed.0, rest listed.1)
listed_one (changes.Attributes b old new) cs ds d rest listed = (listed.0, rest listed.1)
listed_one (changes.Map old new) cs ds d rest listed = (listed.0, rest listed.1)

pub others_listed : (cs : List Change) (d : Document) → AreListed (others cs) d → AreListed cs d
others_listed [] d listed = tt
others_listed (c ∷ cs) d listed = listed_one c (others cs) cs d (others_listed cs (in_place c d)) listed

fit_one : (c : Change) (cs ds : List Change) (d : Document) → (AllFit cs (in_place c d) → AllFit ds (in_place c d)) → AllFit (with_other c cs) d → AllFit (c ∷ ds) d
fit_one (changes.BlocksIn ms) cs ds d rest fit = (tt, rest fit)
fit_one (changes.BlocksOut ms) cs ds d rest fit = (fit.0, rest fit.1)
fit_one (changes.Part b part) cs ds d rest fit = (fit.0, rest fit.1)
fit_one (changes.Attributes b old new) cs ds d rest fit = (fit.0, rest fit.1)
fit_one (changes.Map old new) cs ds d rest fit = (fit.0, rest fit.1)

pub others_fit : (cs : List Change) (d : Document) → AllFit (others cs) d → AllFit cs d
others_fit [] d fit = tt
others_fit (c ∷ cs) d fit = fit_one c (others cs) cs d (others_fit cs (in_place c d)) fit

leave_one : (c : Change) (cs ds : List Change) (d : Document) → (CanTakeOut cs (without_blocks d (outgoing c)) → CanTakeOut ds (without_blocks d (outgoing c))) → CanTakeOut (with_other c cs) d → CanTakeOut (c ∷ ds) d
leave_one (changes.BlocksIn ms) cs ds d rest can = (none_go d, rest can)
leave_one (changes.BlocksOut ms) cs ds d rest can = (can.0, rest can.1)
leave_one (changes.Part b part) cs ds d rest can = (can.0, rest can.1)
leave_one (changes.Attributes b old new) cs ds d rest can = (can.0, rest can.1)
leave_one (changes.Map old new) cs ds d rest can = (can.0, rest can.1)

pub others_leave : (cs : List Change) (d : Document) → CanTakeOut (others cs) d → CanTakeOut cs d
others_leave [] d can = tt
others_leave (c ∷ cs) d can = leave_one c (others cs) cs d (others_leave cs (without_blocks d (outgoing c))) can

-- each whose body changes is in memory
module _ {S : Type 0} (state : CacheState S) where
  here_one : (c : Change) (cs ds : List Change) → (AreInMemory cs state → AreInMemory ds state) → AreInMemory (with_other c cs) state → AreInMemory (c ∷ ds) state
  here_one (changes.BlocksIn ms) cs ds rest here = (tt, rest here)
  here_one (changes.BlocksOut ms) cs ds rest here = (here.0, rest here.1)
  here_one (changes.Part b part) cs ds rest here = (here.0, rest here.1)
  here_one (changes.Attributes b old new) cs ds rest here = (here.0, rest here.1)
  here_one (changes.Map old new) cs ds rest here = (here.0, rest here.1)

  pub others_here : (cs : List Change) → AreInMemory (others cs) state → AreInMemory cs state
  others_here [] here = tt
  others_here (c ∷ cs) here = here_one c (others cs) cs (others_here cs) here

  only_here_one : (c : Change) (cs ds : List Change) → (AreInMemory ds state → AreInMemory cs state) → AreInMemory (c ∷ ds) state → AreInMemory (with_other c cs) state
  only_here_one (changes.BlocksIn ms) cs ds rest here = rest here.1
  only_here_one (changes.BlocksOut ms) cs ds rest here = (here.0, rest here.1)
  only_here_one (changes.Part b part) cs ds rest here = (here.0, rest here.1)
  only_here_one (changes.Attributes b old new) cs ds rest here = (here.0, rest here.1)
  only_here_one (changes.Map old new) cs ds rest here = (here.0, rest here.1)

  pub only_others_here : (cs : List Change) → AreInMemory cs state → AreInMemory (others cs) state
  only_others_here [] here = tt
  only_others_here (c ∷ cs) here = only_here_one c (others cs) cs (only_others_here cs) here

-- ---- where none comes in, the others are all

module _ (cs : List Change) (rest : (d : Document) → NoneComesIn cs → CanApplyAll cs d → CanApplyAll (others cs) d × (after_changes (others cs) d ≡ after_changes cs d)) (d : Document) where
  same_one : (c : Change) → NoneComesIn (c ∷ cs) → CanApplyAll (c ∷ cs) d → CanApplyAll (others (c ∷ cs)) d × (after_changes (others (c ∷ cs)) d ≡ after_changes (c ∷ cs) d)
  same_one (changes.BlocksIn ms) none applies =
      let still : after_change (changes.BlocksIn ms) d ≡ d = ap (with_blocks d) none.0 in
      let q = rest d none.1 (subst (CanApplyAll cs) still applies.1) in
      (q.0, q.1 ∙ ap (after_changes cs) (sym still))
  same_one (changes.BlocksOut ms) none applies = let q = rest (after_change (changes.BlocksOut ms) d) none.1 applies.1 in ((applies.0, q.0), q.1)
  same_one (changes.Part b part) none applies = let q = rest (after_change (changes.Part b part) d) none.1 applies.1 in ((applies.0, q.0), q.1)
  same_one (changes.Attributes b old new) none applies = let q = rest (after_change (changes.Attributes b old new) d) none.1 applies.1 in ((applies.0, q.0), q.1)
  same_one (changes.Map old new) none applies = let q = rest (after_change (changes.Map old new) d) none.1 applies.1 in ((applies.0, q.0), q.1)

pub others_same : (cs : List Change) (d : Document) → NoneComesIn cs → CanApplyAll cs d → CanApplyAll (others cs) d × (after_changes (others cs) d ≡ after_changes cs d)
others_same [] d none applies = (tt, refl)
others_same (c ∷ cs) d none applies = same_one cs (others_same cs) d c none applies
