-- Edits of large arrays, as lists of changes.
use Rattle.std.proofs.Common.{◌≡◌, ◌⊎◌, ◌<◌, ◌≤◌, ◌++◌, ◌∷◌, [], ℕ, List, Bool, true, false, Option, None, Some, Result, Ok, Err, IfOk, IfErr, Vec, Global, length, map, refl, sym, ap, subst, ◌∙◌, inl, inr, arith, ltb-false}
use Rattle.std.proofs.lemmas.Bool.{true≢false}
use Rattle.std.specs.List.{All, Contains}
use Rattle.std.specs.Result.{IsErrAnd}
use Rattle.geos_model.specs.Chain.{free_handles, new_handles}
use Rattle.geos_model.specs.Cost.{cost, large_cost}
use Rattle.geos_model.specs.Document.{Document, handles_of, is_live}
use Rattle.geos_model.specs.LargeEdits.{create_large_conditions}
use Rattle.geos_model.specs.Meaning.{conditions, effect, on_raw}
use Rattle.geos_model.specs.Places.{block_place, large_places, places_of}
use Rattle.geos_model.specs.Refusal.{Conditions, first_refusal}
use Rattle.geos_model.specs.Targets.{large_edit}
use Rattle.geos_model.specs.declared.command.Done.TheVariants as done
use Rattle.geos_model.specs.declared.command.Edit.{Edit}
use Rattle.geos_model.specs.declared.command.Edit.TheVariants as edits
use Rattle.geos_model.specs.declared.command.Kind.TheVariants.{Made}
use Rattle.geos_model.specs.declared.fault.Fault.{Fault}
use Rattle.geos_model.specs.declared.fault.Fault.TheVariants.{CacheFull, NotArray, NoElement, BadChain, IsMap, Range, TooBig, NoHandles}
use Rattle.geos_model.specs.declared.handle.VmHandle.{VmHandle}
use Rattle.geos_model.specs.declared.target.LargeEdit.{LargeEdit}
use Rattle.geos_model.specs.declared.target.LargeEdit.TheVariants as large_edits
use Rattle.geos_model.specs.declared.place.Place.{Place}
use Rattle.geos_model.specs.declared.place.Place.TheVariants as place
use Rattle.geos_model.proofs.ChainCopies.{new-new}
use Rattle.geos_model.proofs.FirstRefusals.{passed}
use Rattle.geos_model.proofs.Refusals.{none_applies, or_none}
use Rattle.chunk_edits.specs.Runs.{head_places}
use Rattle.document_file.specs.Members.{imaged_blocks}
use Rattle.vm_store.specs.Facts.{StoreFacts}
use Rattle.vm_blocks.specs.State.{CacheState}
use Rattle.vm_blocks.specs.Keeping.{KeepsBlocks, IsEnvironmentFault, IsHonest, is_full}
use Rattle.vm_blocks.specs.ChangePlaces.{change_places}
use Rattle.vm_blocks.specs.Preparing.{CanApplyAllByHandle, CanApplyByHandle}
use Rattle.vm_blocks.specs.declared.change.Change.{Change}
use Rattle.vm_blocks.specs.declared.change.Change.TheVariants as changes
use Rattle.vm_blocks.specs.declared.change.PartChange.TheVariants as parts
use Rattle.vm_blocks.proofs.Preparing.{applies_listed}
use Rattle.vm_blocks.proofs.KeepingLaws.{keeps-refl}
use Rattle.vm_chains.specs.Answers.{AnswersChain, RefusesChain}
use Rattle.large_arrays.specs.Creation.{PlansCreation}
use Rattle.large_arrays.specs.EditPlans.{PlansLargeEdit, IsGivenFault, IsPastFault, IsSettingFault, IsLargeEditRefusal}
use Rattle.doc_edits.specs.Found.{AreLate, is_among}
use Rattle.doc_edits.specs.Planning.{kind_of_change, IsLargeFault, IsManyBlocksFault, Plans, PlansAll, PlansLarge}
use Rattle.doc_edits.proofs.FirstConditions.{scope_first}
use Rattle.doc_edits.proofs.Refusals.{handed_on}
use Rattle.doc_edits.specs.Room.{IsRefusedUnseen}
use Rattle.doc_edits.proofs.RoomLemmas.{Begins, begun_refused, unseen_first}

-- its root is looked for first
pub large_begins : (root : VmHandle) (edit : LargeEdit) → Begins on_raw root.0 (conditions (large_edit root edit))
large_begins root (large_edits.Insert i bytes) = scope_first (large_edit root (large_edits.Insert i bytes))
large_begins root (large_edits.Set i bytes) = scope_first (large_edit root (large_edits.Set i bytes))
large_begins root (large_edits.Delete i n) = scope_first (large_edit root (large_edits.Delete i n))

-- The plan of an edit is refused before any block is looked into, or on the way, or given.
module _ {S : Type 0} {facts : S → StoreFacts} {edit : Edit} {a : CacheState S} where
  module _ {r : Result (Vec Change Global) Fault} {fault : Fault} (is : IsErrAnd r (λ e. e ≡ fault)) where
    pub large_refused : (root : VmHandle) → Begins on_raw root.0 (conditions edit)
        → ((rest : Conditions) → AreLate rest → first_refusal ((CacheFull, is_full a) ∷ on_raw a.document root.0 ++ rest) ≡ Some fault) → PlansLarge facts a a edit r
    large_refused root begins refuses =
        let first = begun_refused root.0 (conditions edit) begins a.document (is_full a) fault refuses in
        handed_on (PlansLarge facts a a edit) r fault is
        (record {
          keeps = keeps-refl facts a;
          planned = λ honest. inr first;
          listed = tt;
          some = tt;
          room = tt;
          shut = λ full. (refl, ap (λ (b : Bool). first_refusal ((CacheFull, b) ∷ conditions edit a.document)) (sym full) ∙ first);
          unseen = λ unseen. (refl, unseen_first (is_full a) (conditions edit a.document) fault unseen first);
          refusals = inl (inr first);
        })

    pub large_missed : {b : CacheState S} → is_full a ≡ false → (IsRefusedUnseen (conditions edit a.document) → ⊥) → KeepsBlocks facts a b
        → (IsHonest facts a.disk.store → RefusesChain (IsEnvironmentFault facts a.disk.store b.disk.store) (conditions edit b.document) fault)
        → IsEnvironmentFault facts a.disk.store b.disk.store fault ⊎ IsManyBlocksFault edit a.document fault → PlansLarge facts a b edit r
    large_missed {b} room seen keeps refuses why =
        handed_on (PlansLarge facts a b edit) r fault is
        (record {
          keeps = keeps;
          planned = λ honest. elim (refuses honest) [
            | inl lack ↦ inl lack
            | inr first ↦ inr (passed CacheFull (is_full a) (conditions edit b.document) room ∙ first)
          ];
          listed = tt;
          some = tt;
          room = tt;
          shut = λ full. absurd (true≢false (sym full ∙ room));
          unseen = λ unseen. absurd (seen unseen);
          refusals = elim why [
            | inl lack ↦ inl (inl lack)
            | inr other ↦ inr other
          ];
        })

  pub large_given : {b : CacheState S} {changes : Vec Change Global} → is_full a ≡ false → (IsRefusedUnseen (conditions edit a.document) → ⊥) → KeepsBlocks facts a b → (IsHonest facts a.disk.store → PlansAll edit b.document changes.items)
      → CanApplyAllByHandle changes.items b.document → 0 < length changes.items → PlansLarge facts a b edit (Ok changes)
  large_given room seen keeps plans listed some = record {
    keeps = keeps;
    planned = plans;
    listed = listed;
    some = some;
    room = room;
    shut = λ full. absurd (true≢false (sym full ∙ room));
    unseen = λ unseen. absurd (seen unseen);
    refusals = tt;
  }

-- What is planned of one.
module _ {S : Type 0} (facts : S → StoreFacts) (edit : Edit) (a b : CacheState S) (changed : List ℕ) (room : is_full a ≡ false) (seen : IsRefusedUnseen (conditions edit a.document) → ⊥) (keeps : KeepsBlocks facts a b) where
  pub large_planned : (r : Result (Vec Change Global) Fault)
      → (IsHonest facts a.disk.store → AnswersChain (IsEnvironmentFault facts a.disk.store b.disk.store) (conditions edit b.document) (λ changes. PlansLargeEdit b.document (effect edit b.document).0 changed changes.items) r)
      → IfOk r (λ changes. CanApplyAllByHandle changes.items b.document) → IfOk r (λ changes. 0 < length changes.items) → IfErr r (λ fault. IsEnvironmentFault facts a.disk.store b.disk.store fault ⊎ IsManyBlocksFault edit a.document fault)
      → large_cost b.document (effect edit b.document).0 changed ≡ cost edit b.document (effect edit b.document).0 → large_places changed ≡ places_of edit b.document → PlansLarge facts a b edit r
  large_planned (Ok changes) answers listed some refusals costs places =
      large_given room seen keeps (λ honest. let did = answers honest in record {
        accepted = did.0;
        applies = did.1.applies;
        document = did.1.makes;
        cost = did.1.cost ∙ costs;
        places = did.1.places ∙ places;
        some = did.1.some;
      }) listed some
  large_planned (Err fault) answers listed some refusals costs places = large_missed refl room seen keeps answers refusals

-- what it is refused for: its root, these of its own, its branches
pub large_why : (lacks own : Fault → Type 0) (d : Document) (b : ℕ) (given : List Fault) → ((fault : Fault) → own fault → is_among (given ++ NotArray ∷ BadChain ∷ IsMap ∷ NoHandles ∷ []) fault ≡ true)
    → is_among (given ++ NotArray ∷ BadChain ∷ IsMap ∷ NoHandles ∷ []) NotArray ≡ true → is_among (given ++ NotArray ∷ BadChain ∷ IsMap ∷ NoHandles ∷ []) BadChain ≡ true
    → is_among (given ++ NotArray ∷ BadChain ∷ IsMap ∷ NoHandles ∷ []) IsMap ≡ true → is_among (given ++ NotArray ∷ BadChain ∷ IsMap ∷ NoHandles ∷ []) NoHandles ≡ true
    → (fault : Fault) → IsLargeEditRefusal own lacks d b fault → lacks fault ⊎ IsLargeFault given d b fault
large_why lacks own d b given mine array chain map handles fault why = of why
  where
    all : List Fault
    all = given ++ NotArray ∷ BadChain ∷ IsMap ∷ NoHandles ∷ []

    among : (f : Fault) → is_among all f ≡ true → fault ≡ f → lacks fault ⊎ IsLargeFault given d b fault
    among f there is = inr (inr (subst (λ (x : Fault). is_among all x ≡ true) (sym is) there))

    of : IsLargeEditRefusal own lacks d b fault → lacks fault ⊎ IsLargeFault given d b fault
    of (inl (inl (inl lack))) = inl lack
    of (inl (inl (inr (inl wrong)))) = inr (inl wrong)
    of (inl (inl (inr (inr is)))) = among NotArray array is
    of (inl (inr own)) = inr (inr (mine fault own))
    of (inr (inl is)) = among BadChain chain is
    of (inr (inr (inl is))) = among IsMap map is
    of (inr (inr (inr is))) = among NoHandles handles is

-- its own

pub past_among : (fault : Fault) → IsPastFault fault → is_among (NoElement ∷ NotArray ∷ BadChain ∷ IsMap ∷ NoHandles ∷ []) fault ≡ true
past_among fault is = rw is refl

pub given_among : (fault : Fault) → IsGivenFault fault → is_among (Range ∷ TooBig ∷ NotArray ∷ BadChain ∷ IsMap ∷ NoHandles ∷ []) fault ≡ true
given_among fault (inl is) = rw is refl
given_among fault (inr is) = rw is refl

pub setting_among : (fault : Fault) → IsSettingFault fault → is_among (NoElement ∷ Range ∷ TooBig ∷ NotArray ∷ BadChain ∷ IsMap ∷ NoHandles ∷ []) fault ≡ true
setting_among fault (inl is) = rw is refl
setting_among fault (inr (inl is)) = rw is refl
setting_among fault (inr (inr is)) = rw is refl

-- An array that is made: blocks come in.

-- the block of a place
abbrev block_of : Place → ℕ
block_of (place.Block b) = b.0
block_of _ = 0

comes_in : (d : Document) (change : Change) (hs : List ℕ) → length hs ≡ 2 → ((x : ℕ) → Contains hs x → is_live d x ≡ false) → CanApplyByHandle change d → change_places change ≡ large_places hs → kind_of_change change ≡ Made
comes_in d change [] two new listed is = absurd (cc two)
comes_in d change (h ∷ []) two new listed is = absurd (omega (arith, two))
comes_in d (changes.BlocksIn ms) (h ∷ k ∷ hs) two new listed is = refl
comes_in d (changes.BlocksOut ms) (h ∷ k ∷ hs) two new listed is = absurd (gone (handles_of (imaged_blocks ms.list.items)) listed.live is)
  where
    gone : (xs : List ℕ) → All (λ x. is_live d x ≡ true) xs → map block_place xs ≡ map block_place (h ∷ k ∷ hs) → ⊥
    gone [] live is = cc is
    gone (x ∷ xs) live is =
        let same : block_place x ≡ block_place h = cc is in
        let one : x ≡ h = ap block_of same in
        true≢false (sym (live 0 x (omega arith)) ∙ ap (is_live d) one ∙ new h (0, omega arith, refl))
comes_in d (changes.Part b (parts.Raw s)) (h ∷ k ∷ hs) two new listed is = absurd (cc is)
comes_in d (changes.Part b (parts.RawPatch ps)) (h ∷ k ∷ hs) two new listed is = absurd (cc is)
comes_in d (changes.Part b (parts.Chunk c s)) (h ∷ k ∷ hs) two new listed is = absurd (cc is)
comes_in d (changes.Part b (parts.Patch c ps runs)) (h ∷ k ∷ hs) two new listed is = absurd (by_head runs.head is)
  where
    by_head : (head : Option (ℕ × ℕ)) → head_places b c head ++ place.Run b c runs.at runs.before runs.after ∷ [] ≡ map block_place (h ∷ k ∷ hs) → ⊥
    by_head None is = cc is
    by_head (Some p) is = cc is
comes_in d (changes.Part b (parts.ChunkIn c content)) (h ∷ k ∷ hs) two new listed is = absurd (cc is)
comes_in d (changes.Part b (parts.ChunkOut c content)) (h ∷ k ∷ hs) two new listed is = absurd (cc is)
comes_in d (changes.Attributes b old now) (h ∷ k ∷ hs) two new listed is = absurd (cc is)
comes_in d (changes.Map old now) (h ∷ k ∷ hs) two new listed is = absurd (cc is)

pub creation_planned : (d : Document) (user_id size : ℕ) (change : Change) (root : VmHandle) → PlansCreation user_id size d change root → Plans (edits.CreateLarge user_id size) d change (done.Block root)
creation_planned d user_id size change root plans =
    let enough : 2 ≤ length (free_handles d) = ltb-false (length (free_handles d)) 2 (or_none (none_applies (create_large_conditions d size) plans.accepted NoHandles refl)).0 in
    let fresh = new-new d 2 enough in record {
      accepted = plans.accepted;
      applies = plans.applies;
      document = plans.document;
      answer = ap (λ (h : ℕ). done.Block (record { 0 = h })) plans.answer;
      kind = comes_in d change (new_handles d 2) fresh.as_many fresh.not_live (applies_listed change d plans.applies) plans.places;
      cost = plans.cost;
      places = plans.places;
    }
