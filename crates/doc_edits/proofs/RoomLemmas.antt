-- What is answered where there may be no room in memory for the block into which a command looks.
use Rattle.std.proofs.Common.{◌≡◌, ◌⊎◌, ◌++◌, ◌∷◌, ℕ, Bool, true, false, Result, Ok, Err, IsOk, IfOk, IfErr, Some, [], refl, sym, ap, subst, ◌∙◌, inl, inr}
use Rattle.std.proofs.lemmas.Bool.{cases_Bool, true≢false}
use Rattle.std.specs.Result.{IsErrAnd}
use Rattle.vm_store.specs.Facts.{StoreFacts}
use Rattle.geos_model.specs.Document.{Document, is_heap, is_live, is_raw}
use Rattle.geos_model.specs.Chain.{on_chains}
use Rattle.geos_model.specs.Machine.{Needs, NoBody, OneBody, ManyBodies}
use Rattle.geos_model.specs.Meaning.{on_block, on_raw, on_heap}
use Rattle.geos_model.specs.Refusal.{Conditions, first_refusal}
use Rattle.geos_model.specs.declared.fault.Fault.{Fault}
use Rattle.geos_model.specs.declared.fault.Fault.TheVariants.{NoBlock, WrongKind, CacheFull}
use Rattle.geos_model.proofs.FirstRefusals.{ComesBefore, still_first, full-block, full-chains, full-heap, full-raw}
use Rattle.vm_blocks.specs.State.{CacheState}
use Rattle.vm_blocks.specs.Keeping.{KeepsBlocks, IsCacheFull, is_loaded, has_no_frame_for}
use Rattle.vm_blocks.specs.Kinds.{IsWrongBlock}
use Rattle.vm_blocks.proofs.KeepingLaws.{keeps-full, keeps-shut}
use Rattle.vm_chains.specs.Answers.{IsWrongRoot}
use Rattle.doc_edits.specs.Found.{AreLate, late_faults}
use Rattle.doc_edits.specs.Room.{lacks_frames, IsChainRefusal, IsRefusedEarly, IsRefusedUnseen}
use Rattle.vm_chains.proofs.WalkLemmas.{raw_live}
use Rattle.doc_edits.proofs.Documents.{heap_live}
use Rattle.doc_edits.proofs.Refusals.{block_dead, heap_other, raw_other}

-- What is brought into memory leaves as much room for what is needed.
pub keeps-room : {S : Type 0} (facts : S → StoreFacts) (a b : CacheState S) → KeepsBlocks facts a b → (needs : Needs) → lacks_frames b needs ≡ lacks_frames a needs
keeps-room facts a b keeps NoBody = refl
keeps-room facts a b keeps (OneBody h) = keeps-shut facts a b keeps h
keeps-room facts a b keeps ManyBodies = keeps-full facts a b keeps

-- What a block is refused for is looked for before lack of room.
pub other_before : (is_kind : Document → ℕ → Bool) (d : Document) (h : ℕ) (fault : Fault) → IsWrongBlock is_kind d h fault → ComesBefore fault CacheFull
other_before is_kind d h fault (inl none) = subst (λ (f : Fault). ComesBefore f CacheFull) (sym none.0) refl
other_before is_kind d h fault (inr other) = subst (λ (f : Fault). ComesBefore f CacheFull) (sym other.0) refl

-- A command looks first for a block, of this kind, and then for room for it.
pub record LooksFor (is_kind : Document → ℕ → Bool) (h : ℕ) (conditions : Document → Conditions) : Type 0 where
  pub other : (d : Document) (fault : Fault) → IsWrongBlock is_kind d h fault → first_refusal (conditions d) ≡ Some fault
  pub full : (d : Document) → is_kind d h ≡ true → first_refusal ((CacheFull, true) ∷ conditions d) ≡ Some CacheFull

-- one of the kind isn't refused unseen
of_kind_seen : (is_kind : Document → ℕ → Bool) (h : ℕ) (conditions : Document → Conditions) → LooksFor is_kind h conditions → (d : Document) → is_kind d h ≡ true → IsRefusedUnseen (conditions d) → ⊥
of_kind_seen is_kind h conditions looks d of unseen = elim unseen as (λ _. ⊥) [
  | inl dead ↦ seen NoBlock refl (λ is. cc is) dead
  | inr other ↦ seen WrongKind refl (λ is. cc is) other
]
  where
    seen : (fault : Fault) → ComesBefore fault CacheFull → (fault ≡ CacheFull → ⊥) → first_refusal (conditions d) ≡ Some fault → ⊥
    seen fault before other first =
        let same : Some fault ≡ Some CacheFull = sym (still_first CacheFull true (conditions d) fault before first) ∙ looks.full d of in
        other (cc same)

-- the conditions are those of the block, and later ones
abbrev pub Begins : (Document → ℕ → Conditions) → ℕ → (Document → Conditions) → Type 0
Begins on h conditions = (d : Document) → (rest : Conditions) × AreLate rest × (conditions d ≡ on d h ++ rest)

module _ (h : ℕ) (conditions : Document → Conditions) where
  pub looks_for_any : Begins on_block h conditions → LooksFor is_live h conditions
  looks_for_any begins = record {
    other = λ d fault other. let first = begins d in ap first_refusal first.2 ∙ block_dead d h first.0 fault other first.1;
    full = λ d live. let first = begins d in ap (λ (cs : Conditions). first_refusal ((CacheFull, true) ∷ cs)) first.2 ∙ full-block late_faults first.0 first.1 refl true refl d h live;
  }

  pub looks_for_raw : Begins on_raw h conditions → LooksFor is_raw h conditions
  looks_for_raw begins = record {
    other = λ d fault other. let first = begins d in ap first_refusal first.2 ∙ raw_other d h first.0 fault other first.1;
    full = λ d raw. let first = begins d in ap (λ (cs : Conditions). first_refusal ((CacheFull, true) ∷ cs)) first.2 ∙ full-raw late_faults first.0 first.1 refl true refl d h (raw_live d h raw) raw;
  }

  pub looks_for_heap : Begins on_heap h conditions → LooksFor is_heap h conditions
  looks_for_heap begins = record {
    other = λ d fault other. let first = begins d in ap first_refusal first.2 ∙ heap_other d h first.0 fault other first.1;
    full = λ d heap. let first = begins d in ap (λ (cs : Conditions). first_refusal ((CacheFull, true) ∷ cs)) first.2 ∙ full-heap late_faults first.0 first.1 refl true refl d h (heap_live d h heap) heap;
  }

-- A chain or a large array is looked for from its root, and then room for any block.

pub root_refused : (d : Document) (h : ℕ) (full : Bool) (fault : Fault) → IsWrongBlock is_raw d h fault → (rest : Conditions) → AreLate rest → first_refusal ((CacheFull, full) ∷ on_raw d h ++ rest) ≡ Some fault
root_refused d h full fault other = λ rest late.
    still_first CacheFull full (on_raw d h ++ rest) fault (other_before is_raw d h fault other) (raw_other d h rest fault other late)

pub root_full : (d : Document) (h : ℕ) (full : Bool) (fault : Fault) → is_raw d h ≡ true → (fault ≡ CacheFull) × (full ≡ true) → (rest : Conditions) → AreLate rest → first_refusal ((CacheFull, full) ∷ on_raw d h ++ rest) ≡ Some fault
root_full d h full fault raw is = λ rest late. full-raw late_faults rest late refl full is.1 d h (raw_live d h raw) raw ∙ ap (λ (f : Fault). Some f) (sym is.0)

-- Where it is raw nothing is refused unseen, and what is refused so is refused so whether there is room or not.

pub never_unseen : (h : ℕ) (conditions : Document → Conditions) → Begins on_raw h conditions → (d : Document) → is_raw d h ≡ true → IsRefusedUnseen (conditions d) → ⊥
never_unseen h conditions begins d raw unseen = of_kind_seen is_raw h conditions (looks_for_raw h conditions begins) d raw unseen

pub unseen_first : (full : Bool) (conditions : Conditions) (fault : Fault) → IsRefusedUnseen conditions → first_refusal ((CacheFull, full) ∷ conditions) ≡ Some fault → first_refusal conditions ≡ Some fault
unseen_first full conditions fault (inl dead) is = dead ∙ sym (still_first CacheFull full conditions NoBlock refl dead) ∙ is
unseen_first full conditions fault (inr other) is = other ∙ sym (still_first CacheFull full conditions WrongKind refl other) ∙ is

-- whatever comes later
pub begun_refused : (h : ℕ) (conditions : Document → Conditions) → Begins on_raw h conditions → (d : Document) (full : Bool) (fault : Fault)
    → ((rest : Conditions) → AreLate rest → first_refusal ((CacheFull, full) ∷ on_raw d h ++ rest) ≡ Some fault) → first_refusal ((CacheFull, full) ∷ conditions d) ≡ Some fault
begun_refused h conditions begins d full fault refuses =
    let begin = begins d in ap (λ (cs : Conditions). first_refusal ((CacheFull, full) ∷ cs)) begin.2 ∙ refuses begin.0 begin.1

pub early_of_chain : (lacks root : Fault → Type 0) (full : Bool) (fault : Fault) → IsRefusedEarly root full fault → IsChainRefusal lacks root full fault
early_of_chain lacks root full fault (inl refused) = inl (inr (inl refused))
early_of_chain lacks root full fault (inr is) = inr is

module _ (d : Document) (first second : ℕ) (full : Bool) (fault : Fault) where
  pub roots_refused : IsWrongRoot d first second fault → first_refusal (on_chains d first second) ≡ Some fault → first_refusal ((CacheFull, full) ∷ on_chains d first second) ≡ Some fault
  roots_refused early is = still_first CacheFull full (on_chains d first second) fault (before early) is
    where
      before : IsWrongRoot d first second fault → ComesBefore fault CacheFull
      before (inl other) = other_before is_raw d first fault other
      before (inr other) = other_before is_raw d second fault other

  pub chains_full : is_raw d first ≡ true → is_raw d second ≡ true → (fault ≡ CacheFull) × (full ≡ true) → first_refusal ((CacheFull, full) ∷ on_chains d first second) ≡ Some fault
  chains_full mine other is = full-chains [] [] refl refl full is.1 d first second (raw_live d first mine) mine (raw_live d second other) other ∙ ap (λ (f : Fault). Some f) (sym is.0)

-- A load of what is refused unseen changes nothing.
pub kept_unseen : {S : Type 0} (is_kind : Document → ℕ → Bool) (a b : CacheState S) (h : ℕ) (result : Result (Unit {0}) Fault) → ((fault : Fault) → IsWrongBlock is_kind a.document h fault → (result ≡ Err fault) × (b ≡ a))
    → (conditions : Document → Conditions) → LooksFor is_kind h conditions → IsRefusedUnseen (conditions a.document) → (b ≡ a) × IsErrAnd result (λ fault. first_refusal (conditions a.document) ≡ Some fault)
kept_unseen is_kind a b h result early conditions looks unseen = elim (cases_Bool (is_kind a.document h)) as (λ _. (b ≡ a) × IsErrAnd result (λ fault. first_refusal (conditions a.document) ≡ Some fault)) [
  | inl of ↦ absurd (of_kind_seen is_kind h conditions looks a.document of unseen)
  | inr other ↦ elim (cases_Bool (is_live a.document h)) as (λ _. (b ≡ a) × IsErrAnd result (λ fault. first_refusal (conditions a.document) ≡ Some fault)) [
    | inl live ↦ refused WrongKind (inr (refl, live, other))
    | inr dead ↦ refused NoBlock (inl (refl, dead))
  ]
]
  where
    refused : (fault : Fault) → IsWrongBlock is_kind a.document h fault → (b ≡ a) × IsErrAnd result (λ fault. first_refusal (conditions a.document) ≡ Some fault)
    refused fault why =
        let none = early fault why in
        (none.1, subst (λ (r : Result (Unit {0}) Fault). IsErrAnd r (λ f. first_refusal (conditions a.document) ≡ Some f)) (sym none.0) (looks.other a.document fault why))

-- What a load answers is the first refusal, or what it lacks.
module _ {S : Type 0} (is_kind : Document → ℕ → Bool) (a b : CacheState S) (h : ℕ) (result : Result (Unit {0}) Fault)
    (early : (fault : Fault) → IsWrongBlock is_kind a.document h fault → (result ≡ Err fault) × (b ≡ a))
    (shut : is_kind a.document h ≡ true → has_no_frame_for a h ≡ true → (result ≡ Err CacheFull) × (b ≡ a))
    (conditions : Document → Conditions) (looks : LooksFor is_kind h conditions) where
  -- where there is no room nothing is done
  abbrev IsKeptOut : Type 0
  IsKeptOut = (fault : Fault) × (result ≡ Err fault) × (b ≡ a) × (first_refusal ((CacheFull, true) ∷ conditions a.document) ≡ Some fault)

  kept_out : has_no_frame_for a h ≡ true → IsKeptOut
  kept_out out = elim (cases_Bool (is_kind a.document h)) as (λ _. IsKeptOut) [
    | inl of ↦ let none = shut of out in (CacheFull, none.0, none.1, looks.full a.document of)
    | inr other ↦ elim (cases_Bool (is_live a.document h)) as (λ _. IsKeptOut) [
      | inl live ↦ refused WrongKind (inr (refl, live, other))
      | inr dead ↦ refused NoBlock (inl (refl, dead))
    ]
  ]
    where
      refused : (fault : Fault) → IsWrongBlock is_kind a.document h fault → IsKeptOut
      refused fault why =
          let none = early fault why in
          (fault, none.0, none.1, still_first CacheFull true (conditions a.document) fault (other_before is_kind a.document h fault why) (looks.other a.document fault why))

  pub room_of : IfOk result (λ _. has_no_frame_for a h ≡ false)
  room_of = elim (cases_Bool (has_no_frame_for a h)) as (λ _. IfOk result (λ _. has_no_frame_for a h ≡ false)) [
    | inl out ↦ let none = kept_out out in subst (λ (r : Result (Unit {0}) Fault). IfOk r (λ _. has_no_frame_for a h ≡ false)) (sym none.1) tt
    | inr free ↦ of_free result free
  ]
    where
      of_free : (r : Result (Unit {0}) Fault) → has_no_frame_for a h ≡ false
          → IfOk r (λ _. has_no_frame_for a h ≡ false)
      of_free (Ok u) free = free
      of_free (Err fault) free = tt

  pub room_at : (u : Unit {0}) → result ≡ Ok u → has_no_frame_for a h ≡ false
  room_at u was = subst (λ (r : Result (Unit {0}) Fault). IfOk r (λ _. has_no_frame_for a h ≡ false)) was room_of

  pub shut_of : has_no_frame_for a h ≡ true → (b ≡ a) × IfErr result (λ fault. first_refusal ((CacheFull, true) ∷ conditions a.document) ≡ Some fault)
  shut_of out =
      let none = kept_out out in
      (none.2, subst (λ (r : Result (Unit {0}) Fault). IfErr r (λ fault. first_refusal ((CacheFull, true) ∷ conditions a.document) ≡ Some fault)) (sym none.1) none.3)

  -- where the block is in memory, or is refused unseen, no store is called
  module _ (already : is_loaded a h ≡ true → is_kind a.document h ≡ true → IsOk result × (b.disk ≡ a.disk) × (b.document ≡ a.document)) where
    abbrev IsAtRest : Type 0
    IsAtRest = (b.disk ≡ a.disk) × (b.document ≡ a.document) × IfErr result (λ fault. first_refusal (conditions a.document) ≡ Some fault)

    pub unchanged : (is_loaded a h ≡ true) ⊎ IsRefusedUnseen (conditions a.document) → IsAtRest
    unchanged near = elim (cases_Bool (is_kind a.document h)) as (λ _. IsAtRest) [
      | inl of ↦ of_kind of near
      | inr other ↦ elim (cases_Bool (is_live a.document h)) as (λ _. IsAtRest) [
        | inl live ↦ refused WrongKind (inr (refl, live, other))
        | inr dead ↦ refused NoBlock (inl (refl, dead))
      ]
    ]
      where
        refused : (fault : Fault) → IsWrongBlock is_kind a.document h fault → IsAtRest
        refused fault why =
            let none = early fault why in (
              ap (λ (s : CacheState S). s.disk) none.1,
              ap (λ (s : CacheState S). s.document) none.1,
              subst (λ (r : Result (Unit {0}) Fault). IfErr r (λ f. first_refusal (conditions a.document) ≡ Some f)) (sym none.0) (looks.other a.document fault why),
            )

        accepted : (r : Result (Unit {0}) Fault) → IsOk r → IfErr r (λ f. first_refusal (conditions a.document) ≡ Some f)
        accepted (Ok u) is = tt
        accepted (Err fault) is = absurd (cc is)

        of_kind : is_kind a.document h ≡ true → (is_loaded a h ≡ true) ⊎ IsRefusedUnseen (conditions a.document) → IsAtRest
        of_kind of (inl loaded) = let there = already loaded of in (there.1, there.2, accepted result there.0)
        of_kind of (inr unseen) = absurd (of_kind_seen is_kind h conditions looks a.document of unseen)

  module _ (lacks : Fault → Type 0) where
    pub refused_for : (fault : Fault) → result ≡ Err fault → lacks fault ⊎ (IsWrongBlock is_kind b.document h fault ⊎ IsCacheFull a h fault)
        → (lacks fault × (has_no_frame_for a h ≡ false)) ⊎ (first_refusal ((CacheFull, has_no_frame_for a h) ∷ conditions b.document) ≡ Some fault)
    refused_for fault was why = elim (cases_Bool (has_no_frame_for a h)) as (λ _. (lacks fault × (has_no_frame_for a h ≡ false)) ⊎ (first_refusal ((CacheFull, has_no_frame_for a h) ∷ conditions b.document) ≡ Some fault)) [
      | inl out ↦
          let none = kept_out out in
          let same : none.0 ≡ fault = cc (sym none.1 ∙ was) in
          inr (rw (out, none.2) (none.3 ∙ ap (λ (f : Fault). Some f) same))
      | inr free ↦ with_room free why
    ]
      where
        with_room : has_no_frame_for a h ≡ false → lacks fault ⊎ (IsWrongBlock is_kind b.document h fault ⊎ IsCacheFull a h fault)
            → (lacks fault × (has_no_frame_for a h ≡ false)) ⊎ (first_refusal ((CacheFull, has_no_frame_for a h) ∷ conditions b.document) ≡ Some fault)
        with_room free (inl lack) = inl (lack, free)
        with_room free (inr (inl other)) = inr (still_first CacheFull (has_no_frame_for a h) (conditions b.document) fault (other_before is_kind b.document h fault other) (looks.other b.document fault other))
        with_room free (inr (inr full)) = absurd (true≢false (sym full.1 ∙ free))

    pub err_of : IfErr result (λ fault. lacks fault ⊎ (IsWrongBlock is_kind b.document h fault ⊎ IsCacheFull a h fault))
        → IfErr result (λ fault. lacks fault ⊎ (first_refusal ((CacheFull, has_no_frame_for a h) ∷ conditions b.document) ≡ Some fault))
    err_of refusals = of result refl refusals
      where
        of : (r : Result (Unit {0}) Fault) → result ≡ r → IfErr r (λ fault. lacks fault ⊎ (IsWrongBlock is_kind b.document h fault ⊎ IsCacheFull a h fault))
            → IfErr r (λ fault. lacks fault ⊎ (first_refusal ((CacheFull, has_no_frame_for a h) ∷ conditions b.document) ≡ Some fault))
        of (Ok u) was refusals = tt
        of (Err fault) was refusals = elim (refused_for fault was refusals) as (λ _. lacks fault ⊎ (first_refusal ((CacheFull, has_no_frame_for a h) ∷ conditions b.document) ≡ Some fault)) [
          | inl lack ↦ inl lack.0
          | inr first ↦ inr first
        ]

-- A load of a block of any kind.

pub early_dead : {S : Type 0} (a b : CacheState S) (h : ℕ) (result : Result (Unit {0}) Fault) → (is_live a.document h ≡ false → (result ≡ Err NoBlock) × (b ≡ a))
    → (fault : Fault) → IsWrongBlock is_live a.document h fault → (result ≡ Err fault) × (b ≡ a)
early_dead a b h result dead fault (inl none) = let refused = dead none.1 in (refused.0 ∙ ap (λ (f : Fault). Err f) (sym none.0), refused.1)
early_dead a b h result dead fault (inr other) = absurd (true≢false (sym other.1 ∙ other.2))

pub err_dead : {S : Type 0} (a b : CacheState S) (h : ℕ) (lacks : Fault → Type 0) (result : Result (Unit {0}) Fault)
    → IfErr result (λ fault. lacks fault ⊎ (((fault ≡ NoBlock) × (is_live b.document h ≡ false)) ⊎ IsCacheFull a h fault))
    → IfErr result (λ fault. lacks fault ⊎ (IsWrongBlock is_live b.document h fault ⊎ IsCacheFull a h fault))
err_dead a b h lacks (Ok u) refusals = tt
err_dead a b h lacks (Err fault) (inl lack) = inl lack
err_dead a b h lacks (Err fault) (inr (inl none)) = inr (inl (inl none))
err_dead a b h lacks (Err fault) (inr (inr full)) = inr (inr full)
