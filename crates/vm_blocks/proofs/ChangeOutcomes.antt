-- What a call leaves that makes a change.
use Rattle.std.proofs.Common.{◌≡◌, ◌⊎◌, ◌≤◌, length, ℕ, Bool, true, false, get_or, is_some, List, [], ◌∷◌, Option, Some, None, inl, inr, refl, sym, ap, subst, ◌∙◌}
use Rattle.std.specs.Prelude.{Result, Ok, Err, MatchResult, IsOk, IfErr, OnOk}
use Rattle.std.specs.Option.{option_map}
use Rattle.std.specs.List.{All}
use Rattle.std.proofs.lemmas.Bool.{true≢false}
use Rattle.std.specs.FinMap.{get}
use Rattle.geos_model.specs.Document.{Block, Document, is_live, with_blocks, with_body, handles_of}
use Rattle.geos_model.specs.declared.command.Body.{Body}
use Rattle.geos_model.specs.declared.fault.Fault.{Fault}
use Rattle.geos_model.specs.declared.fault.Fault.TheVariants.{File, Memory, CacheFull}
use Rattle.vm_store.specs.Facts.{StoreFacts, FailedSince}
use Rattle.document_file.specs.Calls.{put_all}
use Rattle.document_file.specs.Disk.{Disk, SameUnlessCorrupt, KeepsCommitted}
use Rattle.document_file.specs.Effects.{Fails, IsDamage, LeavesDocument, NoFault}
use Rattle.document_file.specs.Members.{imaged_blocks}
use Rattle.document_file.specs.declared.member.Member.{Member}
use Rattle.document_file.proofs.PassingLemmas.{KeepsCommitted-refl, SameUnlessCorrupt-refl}
use Rattle.vm_blocks.specs.State.{CacheState, ResidentBlock, is_resident, after_load, as_file, KeepsLocks, KeepsDocument}
use Rattle.vm_blocks.proofs.KeepingLaws.{lacks-damaged, loaded-resident, resident-open}
use Rattle.vm_blocks.proofs.Locks.{keeps_refl}
use Rattle.vm_blocks.proofs.ManyBlocks.{in_handles}
use Rattle.vm_blocks.specs.Changes.{AreFree, after_change, after_part}
use Rattle.vm_blocks.specs.Keeping.{KeepsBlocks, IsEnvironmentFault, is_loaded}
use Rattle.vm_blocks.specs.Parts.{body_after_part}
use Rattle.vm_blocks.specs.Preparing.{AllowsChange, CanCarryOut, IsInMemory, IsShutOut, CantPrepare, AppliesChange}
use Rattle.vm_blocks.specs.declared.change.Change.{Change}
use Rattle.vm_blocks.specs.declared.change.Change.TheVariants as changes
use Rattle.vm_blocks.specs.declared.change.PartChange.{PartChange}
use Rattle.vm_blocks.specs.declared.change.PartChange.TheVariants as parts
use Rattle.vm_blocks.specs.declared.member.Members.{Members}
use Rattle.vm_blocks.proofs.Preparing.{makes, with_document}
use Rattle.vm_blocks.proofs.Residents.{both, seated_there}

pub part_as_body : (h : ℕ) (p : PartChange) (d : Document) (body : Body) → option_map (λ (b : Block). b.body) (get d.blocks h) ≡ Some body → after_part h p d ≡ with_body d h (body_after_part p body)
part_as_body h p d body there = by (get d.blocks h) refl there
  where
    at : (p : PartChange) (block : Block) → get d.blocks h ≡ Some block → after_part h p d ≡ with_body d h (body_after_part p block.body)
    at (parts.Raw s) block is = rw is refl
    at (parts.RawPatch ps) block is = rw is refl
    at (parts.Chunk c s) block is = rw is refl
    at (parts.Patch c ps runs) block is = rw is refl
    at (parts.ChunkIn c content) block is = rw is refl
    at (parts.ChunkOut c content) block is = rw is refl

    by : (o : Option Block) → get d.blocks h ≡ o → option_map (λ (b : Block). b.body) o ≡ Some body → after_part h p d ≡ with_body d h (body_after_part p body)
    by None is there = absurd (cc there)
    by (Some block) is there = let same : block.body ≡ body = cc there in at p block is ∙ ap (λ (x : Body). with_body d h (body_after_part p x)) same

pub no_members : (ms : List Member) → imaged_blocks ms ≡ [] → ms ≡ []
no_members [] is = refl
no_members (m ∷ ms) is = absurd (cc is)

pub same_locks : (old new : List ResidentBlock) → new ≡ old → KeepsLocks old new
same_locks old new is = subst (KeepsLocks old) (sym is) (keeps_refl old)

module _ {S : Type 0} (facts : S → StoreFacts) where
  -- Bringing a block into memory.

  pub loaded_there : (r : Result (Unit {0}) Fault) (old new : CacheState S) (h : ℕ) → KeepsDocument facts old new → is_live old.document h ≡ true → OnOk r (new.resident ≡ after_load old.frames h old.resident) → OnOk r (is_loaded new h ≡ true)
  unfolding is_loaded
  loaded_there (Ok done) old new h stays live ok =
      both _ _ (subst (λ ss. is_resident ss h ≡ true) (sym ok) (seated_there old.frames h old.resident)) (stays.file.document.live h ∙ live)
  loaded_there (Err fault) old new h stays live ok = tt

  pub lacks_of : (r : Result (Unit {0}) Fault) (a b : S) → Fails facts (IsDamage (facts a).honest) a b r → IfErr r (IsEnvironmentFault facts a b)
  unfolding IsEnvironmentFault
  lacks_of (Ok done) a b fails = tt
  lacks_of (Err fault) a b fails = elim fails.faults as (λ _. (fault ≡ Memory) ⊎ (((fault ≡ File) × FailedSince (facts a) (facts b)) ⊎ IsDamage (facts a).honest fault)) [
    | inl supply ↦ elim supply as (λ _. (fault ≡ Memory) ⊎ (((fault ≡ File) × FailedSince (facts a) (facts b)) ⊎ IsDamage (facts a).honest fault)) [
      | inl memory ↦ inl memory
      | inr file ↦ inr (inl (file, fails.file (ap Err file)))
    ]
    | inr damage ↦ inr (inr damage)
  ]

  -- A change that is made on the same disk.

  pub turns_exact : (c : Change) (old new : CacheState S) → new.disk ≡ old.disk → new.document ≡ after_change c old.document → new.frames ≡ old.frames → KeepsLocks old.resident new.resident → IsInMemory c new
      → (IsShutOut c old → ⊥) → AppliesChange facts c old new (Ok tt)
  turns_exact c old new disk document frames locks in_memory near = record {
    ok = record {
      passes = subst (λ (d : Disk S). KeepsCommitted facts old.disk d) (sym disk) (KeepsCommitted-refl facts old.disk);
      document = subst (λ (d : Document). SameUnlessCorrupt (facts old.disk.store).honest (after_change c old.document) d) (sym document) (SameUnlessCorrupt-refl _ _);
      in_memory = in_memory;
      frames = frames;
      locks = locks;
    };
    err = tt;
    refusals = tt;
    sure = λ none here takes. (refl, disk, document);
    shut = λ far. absurd (near far);
  }

  -- Blocks come in.

  -- those that come in aren't in memory
  pub away : (state : CacheState S) (ms : List Member) → AreFree state.document (handles_of (imaged_blocks ms))
      → ((h : ℕ) → is_resident state.resident h ≡ true → is_live state.document h ≡ true) → All (λ m. is_resident state.resident m.handle.0 ≡ false) ms
  away state ms free live =
      λ i m within. not_there (is_resident state.resident (get_or ms i m).handle.0) (λ there. let is : is_live state.document (get_or ms i m).handle.0 ≡ true = live _ there in
      let none : is_live state.document (get_or ms i m).handle.0 ≡ false = ap is_some (in_handles state.document ms free i m within).free in true≢false (sym is ∙ none))
    where
      not_there : (b : Bool) → (b ≡ true → ⊥) → b ≡ false
      not_there true gone = absurd (gone refl)
      not_there false gone = refl

  module _ (ms : Members) (puts : List Member) (old new : CacheState S) (are : puts ≡ ms.list.items) (resident : (new.resident ≡ old.resident) × (new.frames ≡ old.frames)) where
    pub put_in_turns : (r : Result (Unit {0}) Fault)
        → MatchResult r (λ _. LeavesDocument facts (put_all puts old.document) (as_file old) (as_file new)) (λ _. LeavesDocument facts old.document (as_file old) (as_file new))
        → Fails facts NoFault old.disk.store new.disk.store r → (puts ≡ [] → IsOk r × (new ≡ old)) → AppliesChange facts (changes.BlocksIn ms) old new r
    unfolding KeepsBlocks
    put_in_turns (Ok done) keeps fails none = record {
      ok = record {
        passes = keeps.passes;
        document = subst (λ (xs : List Member). SameUnlessCorrupt (facts old.disk.store).honest (put_all xs old.document) new.document) are keeps.document;
        in_memory = tt;
        frames = resident.1;
        locks = same_locks old.resident new.resident resident.0;
      };
      err = tt;
      refusals = tt;
      sure = λ empty here takes. let still = none (are ∙ no_members ms.list.items empty) in
          (refl, ap (λ (s : CacheState S). s.disk) still.1, ap (λ (s : CacheState S). s.document) still.1 ∙ sym (ap (with_blocks old.document) empty));
      shut = λ far. absurd far;
    }
    put_in_turns (Err fault) keeps fails none = record {
      ok = tt;
      err = (record { file = keeps; frames = resident.1 }, same_locks old.resident new.resident resident.0);
      refusals = inl (lacks_of (Err fault) old.disk.store new.disk.store (record { file = fails.file; faults = elim fails.faults [ inl supply ↦ inl supply | inr never ↦ absurd never ] }));
      sure = λ empty here takes. absurd (cc (none (are ∙ no_members ms.list.items empty)).0);
      shut = λ far. absurd far;
    }

  -- A body changes.

  module _ (c : Change) (old mid : CacheState S) (keeps : KeepsBlocks facts old mid) where
    pub turns_ready : (new : CacheState S) → IsInMemory c mid → (IsShutOut c old → ⊥) → (IsInMemory c old → AllowsChange c old.document → (mid.disk ≡ old.disk) × (mid.document ≡ old.document)) → new ≡ with_document mid (after_change c mid.document) → AppliesChange facts c old new (Ok tt)
    turns_ready new in_memory near same is = record {
      ok = makes facts old mid keeps c new in_memory is;
      err = tt;
      refusals = tt;
      sure = λ none here takes. (refl, ap (λ (s : CacheState S). s.disk) is ∙ (same here takes).0, ap (λ (s : CacheState S). s.document) is ∙ ap (after_change c) (same here takes).1);
      shut = λ far. absurd (near far);
    }

    pub turns_unready : (fault : Fault) → CantPrepare facts c old mid fault → (IsInMemory c old → AllowsChange c old.document → ⊥) → (IsShutOut c old → (fault ≡ CacheFull) × (mid ≡ old)) → AppliesChange facts c old mid (Err fault)
    turns_unready fault unready sure shut = record { ok = tt; err = keeps; refusals = unready; sure = λ none here takes. absurd (sure here takes); shut = λ far. (ap Err (shut far).0, (shut far).1) }

  -- A change that can be made as things are.

  -- a block in memory can be brought there
  in_reach : (c : Change) (state : CacheState S) → length state.resident ≤ state.frames → IsInMemory c state → IsShutOut c state → ⊥
  in_reach (changes.BlocksIn ms) state few here out = out
  in_reach (changes.BlocksOut ms) state few here out = out
  in_reach (changes.Part b part) state few here out = true≢false (sym out ∙ resident-open state b.0 few (loaded-resident state b.0 here))
  in_reach (changes.Attributes b old new) state few here out = out
  in_reach (changes.Map old new) state few here out = out

  -- it is refused for what the call may lack alone
  pub carried_lacks : (c : Change) (old new : CacheState S) (r : Result (Unit {0}) Fault) → CanCarryOut c old → length old.resident ≤ old.frames → IfErr r (CantPrepare facts c old new) → IfErr r (IsEnvironmentFault facts old.disk.store new.disk.store)
  carried_lacks c old new (Ok done) ready few unready = tt
  carried_lacks c old new (Err fault) ready few unready = elim unready as (λ _. IsEnvironmentFault facts old.disk.store new.disk.store fault) [
    | inl lacks ↦ lacks
    | inr (inl damaged) ↦ subst (IsEnvironmentFault facts old.disk.store new.disk.store) (sym damaged.0) (lacks-damaged facts old.disk.store new.disk.store (λ steady. damaged.1 steady ready.takes))
    | inr (inr out) ↦ absurd (in_reach c old few ready.in_memory out.1)
  ]
