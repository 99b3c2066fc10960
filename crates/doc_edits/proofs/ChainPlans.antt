-- Edits of chains, as changes of many blocks.
use Rattle.std.proofs.Common.{◌≡◌, ◌⊎◌, ◌<◌, ◌≤◌, ℕ, Bool, true, false, List, [], ◌∷◌, ◌++◌, length, map, get_or, None, Some, Result, Ok, refl, sym, ap, ◌∙◌, arith, inl, inr, ltb-false}
use Rattle.std.proofs.lemmas.Bool.{true≢false}
use Rattle.std.specs.Result.{IsErrAnd}
use Rattle.geos_model.specs.Refusal.{Conditions, first_refusal}
use Rattle.geos_model.specs.Chain.{chain_blocks, chain_blocks_of, copies_of, free_handles, new_handles, copy_conditions, free_conditions}
use Rattle.geos_model.specs.Cost.{images_length}
use Rattle.geos_model.specs.Document.{Document, handles_of, is_raw, with_blocks, without_blocks}
use Rattle.geos_model.specs.Machine.{kind_of}
use Rattle.geos_model.specs.Meaning.{conditions, on_raw}
use Rattle.geos_model.specs.Places.{block_place}
use Rattle.geos_model.specs.declared.command.Done.{Done}
use Rattle.geos_model.specs.declared.command.Done.TheVariants as done
use Rattle.geos_model.specs.declared.command.Edit.{Edit}
use Rattle.geos_model.specs.declared.command.Edit.TheVariants as edits
use Rattle.geos_model.specs.declared.fault.Fault.{Fault}
use Rattle.geos_model.specs.declared.fault.Fault.TheVariants.{CacheFull, NoHandles}
use Rattle.geos_model.specs.declared.handle.VmHandle.{VmHandle}
use Rattle.geos_model.proofs.ChainEdits.{blocks_of-handles, copies_of-handles}
use Rattle.geos_model.proofs.FirstRefusals.{passed}
use Rattle.geos_model.proofs.Refusals.{none_applies, or_none}
use Rattle.vm_store.specs.Facts.{StoreFacts}
use Rattle.vm_blocks.specs.State.{CacheState}
use Rattle.vm_blocks.specs.Changes.{CanApply}
use Rattle.vm_blocks.specs.Keeping.{KeepsBlocks, IsEnvironmentFault, IsHonest, is_full}
use Rattle.vm_blocks.proofs.KeepingLaws.{keeps-refl}
use Rattle.vm_blocks.specs.Preparing.{CanCarryOut}
use Rattle.document_file.specs.Members.{imaged_blocks}
use Rattle.vm_blocks.specs.declared.change.Change.{Change}
use Rattle.vm_blocks.specs.declared.change.Change.TheVariants.{BlocksIn, BlocksOut}
use Rattle.document_file.specs.declared.member.Member.{Member}
use Rattle.vm_blocks.specs.declared.member.Members.{Members}
use Rattle.vm_chains.specs.Answers.{RefusesChain}
use Rattle.doc_edits.specs.Found.{AreLate}
use Rattle.doc_edits.specs.Planning.{kind_of_change, IsManyBlocksFault, Plans, PlansAlongChain}
use Rattle.doc_edits.specs.Room.{IsRefusedUnseen}
use Rattle.doc_edits.proofs.Refusals.{handed_on}
use Rattle.doc_edits.proofs.RoomLemmas.{never_unseen, unseen_first}

-- The plan of an edit along a chain is refused before any block is looked into, as each command along a chain is,
-- or on the way, or given.
module _ {S : Type 0} {facts : S → StoreFacts} {edit : Edit} {a : CacheState S} where
  module _ {r : Result (Change × Done) Fault} {fault : Fault} (is : IsErrAnd r (λ e. e ≡ fault)) where
    pub plan_refused : (root : VmHandle) (rest : Conditions) → conditions edit a.document ≡ on_raw a.document root.0 ++ rest → AreLate rest
        → ((rest : Conditions) → AreLate rest → first_refusal ((CacheFull, is_full a) ∷ on_raw a.document root.0 ++ rest) ≡ Some fault) → PlansAlongChain facts a a edit r
    plan_refused root rest own late refuses =
        let first : first_refusal ((CacheFull, is_full a) ∷ conditions edit a.document) ≡ Some fault = ap (λ (cs : Conditions). first_refusal ((CacheFull, is_full a) ∷ cs)) own ∙ refuses rest late in
        handed_on (PlansAlongChain facts a a edit) r fault is
        (record {
          keeps = keeps-refl facts a;
          planned = λ steady. inr first;
          ready = tt;
          room = tt;
          shut = λ full. (refl, ap (λ (b : Bool). first_refusal ((CacheFull, b) ∷ conditions edit a.document)) (sym full) ∙ first);
          unseen = λ unseen. (refl, unseen_first (is_full a) (conditions edit a.document) fault unseen first);
          kind = tt;
          refusals = inl (inr first);
        })

    pub plan_missed : {b : CacheState S} → is_full a ≡ false → (IsRefusedUnseen (conditions edit a.document) → ⊥) → KeepsBlocks facts a b
        → (IsHonest facts a.disk.store → RefusesChain (IsEnvironmentFault facts a.disk.store b.disk.store) (conditions edit b.document) fault)
        → IsEnvironmentFault facts a.disk.store b.disk.store fault ⊎ IsManyBlocksFault edit a.document fault → PlansAlongChain facts a b edit r
    plan_missed {b} room seen keeps refuses why =
        handed_on (PlansAlongChain facts a b edit) r fault is
        (record {
          keeps = keeps;
          planned = λ steady. elim (refuses steady) [
            | inl lack ↦ inl lack
            | inr first ↦ inr (passed CacheFull (is_full a) (conditions edit b.document) room ∙ first)
          ];
          ready = tt;
          room = tt;
          shut = λ full. absurd (true≢false (sym full ∙ room));
          unseen = λ unseen. absurd (seen unseen);
          kind = tt;
          refusals = elim why [
            | inl lack ↦ inl (inl lack)
            | inr other ↦ inr other
          ];
        })

  pub plan_given : {b : CacheState S} {change : Change} {done : Done} → is_full a ≡ false → (IsRefusedUnseen (conditions edit a.document) → ⊥) → KeepsBlocks facts a b → (IsHonest facts a.disk.store → Plans edit b.document change done)
      → CanCarryOut change b → kind_of_change change ≡ kind_of edit → PlansAlongChain facts a b edit (Ok (change, done))
  plan_given room seen keeps plans ready kind = record {
    keeps = keeps;
    planned = plans;
    ready = ready;
    room = room;
    shut = λ full. absurd (true≢false (sym full ∙ room));
    unseen = λ unseen. absurd (seen unseen);
    kind = kind;
    refusals = tt;
  }

-- the root of a chain that is raw is seen
pub chain_seen : (root : VmHandle) (d : Document) → is_raw d root.0 ≡ true
    → (IsRefusedUnseen (conditions (edits.CopyChain root) d) → ⊥) × (IsRefusedUnseen (conditions (edits.FreeChain root) d) → ⊥)
chain_seen root d raw = (
  never_unseen root.0 (conditions (edits.CopyChain root)) (λ x. (_, refl, refl)) d raw,
  never_unseen root.0 (conditions (edits.FreeChain root)) (λ x. (_, refl, refl)) d raw,
)

-- what is planned under new handles

first_member : (ms : List Member) (new : List ℕ) (none : Member) → handles_of (imaged_blocks ms) ≡ new → 0 < length ms → (get_or ms 0 none).handle.0 ≡ get_or new 0 0
first_member [] new none is some = absurd (omega (arith, some))
first_member (m ∷ ms) new none is some = ap (λ (hs : List ℕ). get_or hs 0 0) is

module _ (d : Document) (root : VmHandle) (ms : Members) where
  -- where a copy isn't refused there are handles for it
  enough : first_refusal (copy_conditions d root.0) ≡ None → length (chain_blocks d root.0) ≤ length (free_handles d)
  enough accepted = ltb-false (length (free_handles d)) (length (chain_blocks d root.0)) (or_none (none_applies (copy_conditions d root.0) accepted NoHandles refl)).0

  new_of : first_refusal (copy_conditions d root.0) ≡ None → imaged_blocks ms.list.items ≡ copies_of d (chain_blocks d root.0)
      → handles_of (imaged_blocks ms.list.items) ≡ new_handles d (length (chain_blocks d root.0))
  new_of accepted is = ap handles_of is ∙ copies_of-handles d (chain_blocks d root.0) (enough accepted)

  -- the first copy is that of the root
  pub first_copy : (none : Member) → 0 < length ms.list.items → first_refusal (copy_conditions d root.0) ≡ None → imaged_blocks ms.list.items ≡ copies_of d (chain_blocks d root.0)
      → (get_or ms.list.items 0 none).handle.0 ≡ get_or (new_handles d (length (chain_blocks d root.0))) 0 0
  first_copy none some accepted is = first_member ms.list.items (new_handles d (length (chain_blocks d root.0))) none (new_of accepted is) some

  pub copy_planned : (copy : VmHandle) → first_refusal (copy_conditions d root.0) ≡ None → imaged_blocks ms.list.items ≡ copies_of d (chain_blocks d root.0) → CanApply (BlocksIn ms) d
      → copy.0 ≡ get_or (new_handles d (length (chain_blocks d root.0))) 0 0 → Plans (edits.CopyChain root) d (BlocksIn ms) (done.Block copy)
  copy_planned copy accepted is applies first = record {
    accepted = accepted;
    applies = applies;
    document = ap (with_blocks d) is;
    answer = ap (λ (h : ℕ). done.Block (record { 0 = h })) first;
    kind = refl;
    cost = ap images_length is;
    places = ap (map block_place) (new_of accepted is);
  }

  chain_of : imaged_blocks ms.list.items ≡ chain_blocks_of d (chain_blocks d root.0) → handles_of (imaged_blocks ms.list.items) ≡ chain_blocks d root.0
  chain_of is = ap handles_of is ∙ blocks_of-handles d (chain_blocks d root.0)

  pub free_planned : first_refusal (free_conditions d root.0) ≡ None → imaged_blocks ms.list.items ≡ chain_blocks_of d (chain_blocks d root.0) → CanApply (BlocksOut ms) d
      → Plans (edits.FreeChain root) d (BlocksOut ms) done.Nothing
  free_planned accepted is applies = record {
    accepted = accepted;
    applies = applies;
    document = ap (without_blocks d) (chain_of is);
    answer = refl;
    kind = refl;
    cost = ap images_length is;
    places = ap (map block_place) (chain_of is);
  }
