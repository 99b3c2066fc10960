-- Changes that are carried out one after another.
use Rattle.std.proofs.Common.{◌≡◌, ◌≤◌, ◌<◌, ◌+◌, nat_lt, ℕ, Bool, List, [], ◌∷◌, map, length, reverse, get_or, drop, Option, None, Some, inl, inr, refl, sym, ap, subst, ◌∙◌}
use Rattle.std.specs.Prelude.{Result, Ok, Err, IfErr, IfSome, IsTrue, OnOk, OnErr}
use Rattle.std.proofs.lemmas.List.{drop_more, at_drop_all}
use Rattle.vm_store.specs.Facts.{StoreFacts}
use Rattle.geos_model.specs.Document.{Document, IsValid, handles_of}
use Rattle.geos_model.specs.declared.fault.Fault.{Fault}
use Rattle.document_file.specs.Disk.{Disk, SameUnlessCorrupt, MarkSameUnlessCorrupt, KeepsCommitted, unmarked}
use Rattle.document_file.specs.Effects.{Fails, NoFault}
use Rattle.document_file.specs.Members.{imaged_blocks}
use Rattle.document_file.proofs.PassingLemmas.{KeepsCommitted-refl, KeepsCommitted-trans, KeepsCommitted-unmarked, SameUnlessCorrupt-refl, SameUnlessCorrupt-trans}
use Rattle.vm_blocks.specs.State.{CacheState, ResidentBlock, locks_of, locked_count, KeepsLocks, Marks}
use Rattle.vm_blocks.proofs.Locks.{keeps_refl, none_locked}
use Rattle.vm_blocks.proofs.Marking.{none_marked}
use Rattle.vm_blocks.specs.Changes.{after_change, directed}
use Rattle.vm_blocks.specs.Keeping.{KeepsBlocks, IsHonest, IsEnvironmentFault}
use Rattle.vm_blocks.specs.Preparing.{AreUnlocked, IsShutOut, CantPrepare, IsApplied, after_changes, CanApplyAllByHandle, AllowAll, AreApplied, CantPrepareAll}
use Rattle.vm_blocks.specs.declared.change.Change.{Change}
use Rattle.vm_blocks.specs.declared.change.Change.TheVariants as changes
use Rattle.chunk_edits.specs.declared.direction.Direction.{Direction}
use Rattle.vm_blocks.proofs.KeepingLaws.{keeps-by, keeps-passes, lacks-since, none-open, shut-full, steady-honest, steady-on}
use Rattle.vm_blocks.proofs.Preparing.{all_listed_on, made_on}
use Rattle.vm_blocks.proofs.ChangeOutcomes.{lacks_of}

pub made_all_on : (cs : List Change) (honest : Bool) (a b : Document) → SameUnlessCorrupt honest a b → SameUnlessCorrupt honest (after_changes cs a) (after_changes cs b)
made_all_on [] honest a b unless_corrupt = unless_corrupt
made_all_on (c ∷ cs) honest a b unless_corrupt = made_all_on cs honest (after_change c a) (after_change c b) (made_on c honest a b unless_corrupt)

-- Of a stack of changes, those that are still to be carried out once so many were.
abbrev pub left : Direction → List Change → ℕ → List Change
left direction cs n = map (directed direction) (drop n (reverse cs))

pub left_more : (direction : Direction) (cs : List Change) (n : ℕ) (c : Change) → (n < length (reverse cs)) × (c ≡ get_or (reverse cs) n c) → left direction cs n ≡ directed direction c ∷ left direction cs (n + 1)
left_more direction cs n c (low, is) = ap (map (directed direction)) (drop_more (reverse cs) n c low) ∙ ap (λ (x : Change). directed direction x ∷ left direction cs (n + 1)) (sym is)

pub left_none : (direction : Direction) (cs : List Change) (n : ℕ) → length (reverse cs) ≤ n → left direction cs n ≡ []
left_none direction cs n all = at_drop_all (map (directed direction)) (reverse cs) n all

-- Where no block is locked, none that goes is, and each can be brought into memory.
module _ {S : Type 0} (state : CacheState S) (none : locked_count state.resident ≡ 0) where
  pub all_unlocked : (c : Change) → AreUnlocked c state.resident
  all_unlocked (changes.BlocksIn ms) = tt
  all_unlocked (changes.BlocksOut ms) = λ i h within. none_locked state.resident none (get_or (handles_of (imaged_blocks ms.list.items)) i h)
  all_unlocked (changes.Part b part) = tt
  all_unlocked (changes.Attributes b old new) = tt
  all_unlocked (changes.Map old new) = tt

  pub in_reach : 1 ≤ state.frames → (c : Change) → IsShutOut c state → ⊥
  in_reach some (changes.BlocksIn ms) far = far
  in_reach some (changes.BlocksOut ms) far = far
  in_reach some (changes.Part b part) far = cc (shut-full state b.0 far, none-open state some (ap (nat_lt 0) none))
  in_reach some (changes.Attributes b old new) far = far
  in_reach some (changes.Map old new) far = far

-- Some of the changes were carried out: what is left of them makes the document that all make, is known by handles, and
-- is taken by the bodies where all are.
pub record Carries {S : Type 0} (facts : S → StoreFacts) (all left : List Change) (old new : CacheState S) : Type 0 where
  pub passes : KeepsCommitted facts old.disk new.disk
  pub listed : CanApplyAllByHandle left new.document
  pub document : SameUnlessCorrupt (facts old.disk.store).honest (after_changes all old.document) (after_changes left new.document)
  pub takes : IsHonest facts old.disk.store → AllowAll all old.document → AllowAll left new.document
  pub frames : new.frames ≡ old.frames
  pub locks : KeepsLocks old.resident new.resident

module _ {S : Type 0} (facts : S → StoreFacts) where
  pub carries_none : (all : List Change) (state : CacheState S) → CanApplyAllByHandle all state.document → Carries facts all all state state
  carries_none all state listed = record {
    passes = KeepsCommitted-refl facts state.disk;
    listed = listed;
    document = SameUnlessCorrupt-refl _ (after_changes all state.document);
    takes = λ _ takes. takes;
    frames = refl;
    locks = keeps_refl state.resident;
  }

  pub carries_all : (all : List Change) (old new : CacheState S) → Carries facts all [] old new → AreApplied facts all old new
  carries_all all old new p = record { passes = p.passes; document = p.document; frames = p.frames; locks = p.locks }

  module _ (all : List Change) (c : Change) (left : List Change) (old mid new : CacheState S) (p : Carries facts all (c ∷ left) old mid) where
    -- one more
    pub carries_more : IsApplied facts c mid new → Carries facts all left old new
    carries_more q =
        let honest : Bool = (facts old.disk.store).honest in
        let on : SameUnlessCorrupt honest (after_change c mid.document) new.document = subst (λ (t : Bool). SameUnlessCorrupt t (after_change c mid.document) new.document) p.passes.honest q.document in
        record {
          passes = KeepsCommitted-trans facts old.disk mid.disk new.disk p.passes q.passes;
          listed = all_listed_on honest left (after_change c mid.document) new.document on p.listed.1;
          document = SameUnlessCorrupt-trans honest (after_changes all old.document) (after_changes left (after_change c mid.document)) (after_changes left new.document) p.document (made_all_on left honest (after_change c mid.document) new.document on);
          takes = λ steady takes. subst (AllowAll left) (sym (on.same (steady-honest facts old.disk.store steady))) (p.takes steady takes).1;
          frames = q.frames ∙ p.frames;
          locks = record { each = λ h. q.locks.each h ∙ p.locks.each h; count = q.locks.count ∙ p.locks.count };
        }

    -- the next one is refused
    pub carries_unready : (fault : Fault) → (IsShutOut c mid → ⊥) → CantPrepare facts c mid new fault → CantPrepareAll facts all old new fault
    carries_unready fault near unready = elim unready as (λ _. CantPrepareAll facts all old new fault) [
      | inl lacks ↦ inl (lacks-since facts old.disk.store mid.disk.store new.disk.store fault p.passes.honest p.passes.failures lacks)
      | inr more ↦ elim more as (λ _. CantPrepareAll facts all old new fault) [
        | inl damaged ↦ inr (damaged.0, λ steady takes. damaged.1 (steady-on facts old.disk.store mid.disk.store p.passes.honest steady) (p.takes steady takes).0)
        | inr far ↦ absurd (near far.1)
      ]
    ]

-- A document that was marked before changes are made to it.

module _ {S : Type 0} (facts : S → StoreFacts) where
  -- a call before which no document was marked
  pub unmarked_still : (a b : Disk S) → KeepsCommitted facts a b → a.marked ≡ None → b.marked ≡ None
  unmarked_still a b p none = none_marked (facts a.store).honest a.marked b.marked none p.marked

  pub keeps_unmarked : (old new : CacheState S) → KeepsBlocks facts old new → old.disk.marked ≡ None → new.disk.marked ≡ None
  keeps_unmarked old new keeps none = unmarked_still old.disk new.disk (keeps-passes facts old new keeps) none

  pub all_unmarked : (all : List Change) (r : Result (Unit {0}) Fault) (old new : CacheState S) → OnOk r (AreApplied facts all old new) → OnErr r (KeepsBlocks facts old new) → old.disk.marked ≡ None → new.disk.marked ≡ None
  all_unmarked all (Ok done) old new makes keeps none = unmarked_still old.disk new.disk makes.passes none
  all_unmarked all (Err fault) old new makes keeps none = keeps_unmarked old new keeps none

  -- it couldn't be
  pub not_marked : (all : List Change) (r : Result (Unit {0}) Fault) (old new : CacheState S) → Fails facts NoFault old.disk.store new.disk.store r → IfErr r (CantPrepareAll facts all old new)
  not_marked all (Ok done) old new fails = tt
  not_marked all (Err fault) old new fails =
      inl (lacks_of facts (Err fault) old.disk.store new.disk.store (record { file = fails.file; faults = elim fails.faults [ inl supply ↦ inl supply | inr never ↦ absurd never ] }))

  module _ (all : List Change) (old mid : CacheState S) (marks : Marks facts old mid) (same : mid.resident ≡ old.resident) where
    pub listed_marked : CanApplyAllByHandle all old.document → CanApplyAllByHandle all mid.document
    listed_marked listed = all_listed_on (facts old.disk.store).honest all old.document mid.document marks.document listed

    module _ (last : CacheState S) where
      passes_through : KeepsCommitted facts mid.disk last.disk → KeepsCommitted facts old.disk (unmarked last.disk)
      passes_through p = KeepsCommitted-trans facts old.disk (unmarked mid.disk) (unmarked last.disk) marks.passes (KeepsCommitted-unmarked facts mid.disk last.disk p)

      -- all were made, and the mark was forgotten
      pub made_through : AreApplied facts all mid last → AreApplied facts all old (record last { disk = unmarked last.disk })
      made_through makes =
          let on = subst (λ (t : Bool). SameUnlessCorrupt t (after_changes all mid.document) last.document) marks.passes.honest makes.document in
          record {
            passes = passes_through makes.passes;
            document = SameUnlessCorrupt-trans (facts old.disk.store).honest (after_changes all old.document) (after_changes all mid.document) last.document (made_all_on all (facts old.disk.store).honest old.document mid.document marks.document) on;
            frames = makes.frames ∙ marks.frames;
            locks = subst (λ (ss : List ResidentBlock). KeepsLocks ss last.resident) same makes.locks;
          }

      -- one was refused
      marked_last : KeepsCommitted facts mid.disk last.disk → MarkSameUnlessCorrupt (facts old.disk.store).honest (Some marks.marked.0) last.disk.marked
      marked_last p = subst (λ (m : Option Document). MarkSameUnlessCorrupt (facts old.disk.store).honest m last.disk.marked) marks.marked.1 (subst (λ (t : Bool). MarkSameUnlessCorrupt t mid.disk.marked last.disk.marked) marks.passes.honest p.marked)

      pub unready_through : (new : CacheState S) (fault : Fault) → new.disk ≡ unmarked last.disk → CantPrepareAll facts all mid last fault → CantPrepareAll facts all old new fault
      unready_through new fault disk unready = elim unready as (λ _. CantPrepareAll facts all old new fault) [
        | inl lacks ↦ inl (subst (λ (d : Disk S). IsEnvironmentFault facts old.disk.store d.store fault) (sym disk) (lacks-since facts old.disk.store mid.disk.store last.disk.store fault marks.passes.honest marks.passes.failures lacks))
        | inr damaged ↦ inr (damaged.0, λ steady takes. damaged.1 (steady-on facts old.disk.store mid.disk.store marks.passes.honest steady) (subst (AllowAll all) (sym (marks.document.same (steady-honest facts old.disk.store steady))) takes))
      ]

      -- the marked document is valid
      pub valid_marked : KeepsCommitted facts mid.disk last.disk → (IsTrue (facts old.disk.store).honest → IsValid old.document) → IfSome last.disk.marked (λ d. IsTrue (facts last.disk.store).honest → IsValid d)
      valid_marked p valid =
          let m = marked_last p in
          subst (λ (o : Option Document). IfSome o (λ d. IsTrue (facts last.disk.store).honest → IsValid d)) (sym m.1)
          (λ so. let before : IsTrue (facts old.disk.store).honest = subst IsTrue (passes_through p).honest so in subst IsValid (sym (m.2.same before ∙ marks.marked.2.same before)) (valid before))

      -- and the marked document was brought back
      module _ (new : CacheState S) (back : Some new.document ≡ last.disk.marked) (p : KeepsCommitted facts mid.disk last.disk) where
        document_back : SameUnlessCorrupt (facts old.disk.store).honest old.document new.document
        document_back =
            let m = marked_last p in
            let is : m.0 ≡ new.document = cc (back ∙ m.1) in
            SameUnlessCorrupt-trans (facts old.disk.store).honest old.document marks.marked.0 new.document marks.marked.2 (subst (SameUnlessCorrupt (facts old.disk.store).honest marks.marked.0) is m.2)

        pub keeps_back : new.disk ≡ unmarked last.disk → (new.resident ≡ []) × (new.frames ≡ last.frames) → last.frames ≡ mid.frames → locked_count old.resident ≡ 0 → KeepsBlocks facts old new
        keeps_back disk empty frames none = keeps-by facts old new
            (record {
              file = record { passes = subst (KeepsCommitted facts old.disk) (sym disk) (passes_through p); document = document_back };
              frames = empty.1 ∙ frames ∙ marks.frames;
            })
            (record {
              each = λ h. ap (λ (ss : List ResidentBlock). locks_of ss h) empty.0 ∙ sym (none_locked old.resident none h);
              count = ap locked_count empty.0 ∙ sym none;
            })
