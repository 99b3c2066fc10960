-- What planning an edit comes to.
use Rattle.std.specs.Prelude.{◌≡◌, ◌<◌, ◌⊎◌, ℕ, Bool, true, false, List, [], ◌∷◌, ◌++◌, None, Some, length, Result, IfOk, IfErr, MatchResult, Vec}
use Rattle.std.specs.Global.{Global}
use Rattle.std.specs.Result.{IsErrAnd}
use Rattle.std.specs.List.{flat_map, sum_by}
use Rattle.geos_model.specs.Refusal.{first_refusal}
use Rattle.geos_model.specs.Document.{Document, handles_of, is_raw}
use Rattle.geos_model.specs.Meaning.{conditions, effect}
use Rattle.geos_model.specs.Cost.{cost}
use Rattle.geos_model.specs.Machine.{edit_needs, kind_of}
use Rattle.geos_model.specs.Places.{places_of}
use Rattle.geos_model.specs.Scope.{Scope, Chain, scope_of}
use Rattle.geos_model.specs.declared.fault.Fault.{Fault}
use Rattle.geos_model.specs.declared.fault.Fault.TheVariants.{Memory, CacheFull, NotArray, NoElement, BadChain, IsMap, Range, TooBig, NoHandles}
use Rattle.geos_model.specs.declared.command.Done.{Done}
use Rattle.geos_model.specs.declared.command.Edit.{Edit}
use Rattle.geos_model.specs.declared.command.Edit.TheVariants as edits
use Rattle.geos_model.specs.declared.handle.VmHandle.{VmHandle}
use Rattle.geos_model.specs.declared.command.Kind.{Kind}
use Rattle.geos_model.specs.declared.command.Kind.TheVariants.{Plain, In, Made, Freed}
use Rattle.vm_store.specs.Facts.{StoreFacts}
use Rattle.vm_blocks.specs.State.{CacheState}
use Rattle.document_file.specs.Members.{imaged_blocks}
use Rattle.vm_blocks.specs.ChangeCosts.{change_cost}
use Rattle.vm_blocks.specs.ChangePlaces.{change_places}
use Rattle.vm_blocks.specs.Changes.{after_change, CanApply}
use Rattle.vm_blocks.specs.declared.change.Change.{Change}
use Rattle.vm_blocks.specs.declared.change.Change.TheVariants as changes
use Rattle.vm_blocks.specs.Keeping.{KeepsBlocks, IsEnvironmentFault, IsHonest, is_full}
use Rattle.vm_blocks.specs.Kinds.{IsWrongBlock}
use Rattle.vm_blocks.specs.Preparing.{after_changes, CanApplyAll, CanApplyAllByHandle, CanCarryOut}
use Rattle.vm_chains.specs.Answers.{IsChainFault}
use Rattle.doc_edits.specs.Found.{is_among}
use Rattle.doc_edits.specs.Room.{lacks_frames, IsRefusedUnseen, ReadsNothing}

-- what kind of step a change is
abbrev pub kind_of_change : Change → Kind
kind_of_change (changes.BlocksIn ms) = Made
kind_of_change (changes.BlocksOut ms) = Freed
kind_of_change (changes.Part b part) = In b
kind_of_change (changes.Attributes b old new) = Plain
kind_of_change (changes.Map old new) = Plain

-- the blocks that go by a change
abbrev pub freed_by : Change → List ℕ
freed_by (changes.BlocksIn ms) = []
freed_by (changes.BlocksOut ms) = handles_of (imaged_blocks ms.list.items)
freed_by (changes.Part b part) = []
freed_by (changes.Attributes b old new) = []
freed_by (changes.Map old new) = []

-- Nothing refuses the edit; the change can be made in the document, means the edit, and changes it at the places of the
-- edit.
pub record Plans (edit : Edit) (d : Document) (change : Change) (done : Done) : Type 0 where
  pub accepted : first_refusal (conditions edit d) ≡ None
  pub applies : CanApply change d
  pub document : after_change change d ≡ (effect edit d).0
  pub answer : done ≡ (effect edit d).1
  pub kind : kind_of_change change ≡ kind_of edit
  pub cost : change_cost change ≡ cost edit d (effect edit d).0
  pub places : change_places change ≡ places_of edit d

-- What an edit is refused for where the bodies into which it looks are in memory: memory for the change may be lacking,
-- or it is the first refusal.
abbrev pub RefusesInMemory : Edit → Document → Fault → Type 0
RefusesInMemory edit d fault = (fault ≡ Memory) ⊎ (first_refusal (conditions edit d) ≡ Some fault)

-- What an edit of a large array may be refused for, of the document before: its root for what handles and kinds tell,
-- and else for what is given, for the root's bytes or for branches.
abbrev pub IsLargeFault : List Fault → Document → ℕ → Fault → Type 0
IsLargeFault given d b fault = IsWrongBlock is_raw d b fault
    ⊎ (is_among (given ++ NotArray ∷ BadChain ∷ IsMap ∷ NoHandles ∷ []) fault ≡ true)

-- What an edit that looks into many blocks may be refused for, of the document before: its root for what handles and
-- kinds tell, and else for the chain or the branches. Of each body that is said as it was when it was read, so that
-- over a store that isn't honest no one document need have it as its first refusal.
abbrev pub IsManyBlocksFault : Edit → Document → Fault → Type 0
IsManyBlocksFault (edits.CopyChain b) d fault = IsChainFault (IsWrongBlock is_raw d b.0) fault ⊎ (fault ≡ NoHandles)
IsManyBlocksFault (edits.FreeChain b) d fault = IsChainFault (IsWrongBlock is_raw d b.0) fault ⊎ (fault ≡ IsMap)
IsManyBlocksFault (edits.InsertLarge b i bytes) d fault = IsLargeFault (Range ∷ TooBig ∷ []) d b.0 fault
IsManyBlocksFault (edits.SetLarge b i bytes) d fault = IsLargeFault (NoElement ∷ Range ∷ TooBig ∷ []) d b.0 fault
IsManyBlocksFault (edits.DeleteLarge b i n) d fault = IsLargeFault (NoElement ∷ []) d b.0 fault
IsManyBlocksFault edit d fault = ⊥

-- whether it is an edit of a chain

abbrev pub is_chain : Scope → Bool
is_chain (Chain b) = true
is_chain scope = false

abbrev pub is_of_chain : Edit → Bool
is_of_chain edit = is_chain (scope_of edit)

-- a fault of what the call may lack, or the first refusal of an edit for which there may be no room
abbrev pub RefusesEdit : (Fault → Type 0) → Bool → Edit → Document → Fault → Type 0
RefusesEdit lacks no_room edit d fault =
    lacks fault ⊎ (first_refusal ((CacheFull, no_room) ∷ conditions edit d) ≡ Some fault)

-- What planning an edit along a chain comes to: the file is kept, and, if the store gives back what it has, the edit is
-- planned in the document as it is held from then on, or refused there. A plan is given only where some frame has no
-- locked block; it is of the edit's kind, and can be carried out at once. Where each frame has one nothing changes, and
-- the answer is the first refusal of the document before, CacheFull counted among them. Over any store the edit is
-- refused for nothing but what the call lacked, the first refusal of the document as it is held from then on, where
-- CacheFull counts if each frame had one, or what an edit of a chain may be refused for in the document before. Where
-- its root is no raw block nothing changes, and that is the answer.
pub record PlansAlongChain {S : Type 0} (facts : S → StoreFacts) (old new : CacheState S) (edit : Edit)
    (result : Result (Change × Done) Fault) : Type 0 where
  pub keeps : KeepsBlocks facts old new
  pub planned : IsHonest facts old.disk.store
      → MatchResult result (λ p. Plans edit new.document p.0 p.1)
      (RefusesEdit (IsEnvironmentFault facts old.disk.store new.disk.store) (is_full old) edit new.document)
  pub ready : IfOk result (λ p. CanCarryOut p.0 new)
  pub room : IfOk result (λ _. is_full old ≡ false)
  pub shut : is_full old ≡ true → (new ≡ old)
      × IfErr result (λ fault. first_refusal ((CacheFull, true) ∷ conditions edit old.document) ≡ Some fault)
  pub unseen : IsRefusedUnseen (conditions edit old.document) → (new ≡ old)
      × IsErrAnd result (λ fault. first_refusal (conditions edit old.document) ≡ Some fault)
  pub kind : IfOk result (λ p. kind_of_change p.0 ≡ kind_of edit)
  pub refusals : IfErr result (λ fault.
      RefusesEdit (IsEnvironmentFault facts old.disk.store new.disk.store) (is_full old) edit new.document fault
      ⊎ IsManyBlocksFault edit old.document fault)

-- What planning any edit comes to. Over any store, but for one of a chain: it is planned in the document as it is held
-- from then on, or refused there. Where there is no room for what it needs, or it is refused for its block, nothing
-- changes. Where it needs no body, or one that is in memory, no store is called and none lacked.
pub record PlansEdit {S : Type 0} (facts : S → StoreFacts) (old new : CacheState S) (edit : Edit)
    (result : Result (Change × Done) Fault) : Type 0 where
  pub keeps : KeepsBlocks facts old new
  pub planned : (is_of_chain edit ≡ true → IsHonest facts old.disk.store)
      → MatchResult result (λ p. Plans edit new.document p.0 p.1)
      (RefusesEdit (IsEnvironmentFault facts old.disk.store new.disk.store) (lacks_frames old (edit_needs edit)) edit
      new.document)
  pub ready : IfOk result (λ p. CanCarryOut p.0 new)
  pub room : IfOk result (λ _. lacks_frames old (edit_needs edit) ≡ false)
  pub shut : lacks_frames old (edit_needs edit) ≡ true → (new ≡ old)
      × IfErr result (λ fault. first_refusal ((CacheFull, true) ∷ conditions edit old.document) ≡ Some fault)
  pub unseen : IsRefusedUnseen (conditions edit old.document)
      → (new ≡ old) × IsErrAnd result (RefusesInMemory edit old.document)
  pub kind : IfOk result (λ p. kind_of_change p.0 ≡ kind_of edit)
  pub alone : (b : VmHandle) → edit ≡ edits.FreeBlock b → IfOk result (λ p. freed_by p.0 ≡ b.0 ∷ [])
  pub refusals : IfErr result (λ fault.
      RefusesEdit (IsEnvironmentFault facts old.disk.store new.disk.store) (lacks_frames old (edit_needs edit)) edit
      new.document fault
      ⊎ IsManyBlocksFault edit old.document fault)
  pub plain : kind_of edit ≡ Plain → (new ≡ old) × IfErr result (RefusesInMemory edit new.document)
  pub already : ReadsNothing old (edit_needs edit) (conditions edit old.document)
      → (new.disk ≡ old.disk) × (new.document ≡ old.document) × IfErr result (RefusesInMemory edit old.document)

-- Nothing refuses the edit; the changes can be made in the document one after another, mean the edit, and change it at
-- the places of the edit. There is one at least.
pub record PlansAll (edit : Edit) (d : Document) (changes : List Change) : Type 0 where
  pub accepted : first_refusal (conditions edit d) ≡ None
  pub applies : CanApplyAll changes d
  pub document : after_changes changes d ≡ (effect edit d).0
  pub cost : sum_by change_cost changes ≡ cost edit d (effect edit d).0
  pub places : flat_map change_places changes ≡ places_of edit d
  pub some : 0 < length changes

-- What planning an edit of a large array comes to: the file is kept, and, if the store gives back what it has, the edit
-- is planned in the document as it is held from then on, or refused there. Over any store there is a change at least,
-- and the changes can be tried. A plan is given only where some frame has no locked block. Where each frame has one
-- nothing changes, and the answer is the first refusal of the document before, CacheFull counted among them. Where its
-- root is no raw block nothing changes, and that is the answer.
pub record PlansLarge {S : Type 0} (facts : S → StoreFacts) (old new : CacheState S) (edit : Edit)
    (result : Result (Vec Change Global) Fault) : Type 0 where
  pub keeps : KeepsBlocks facts old new
  pub planned : IsHonest facts old.disk.store
      → MatchResult result (λ changes. PlansAll edit new.document changes.items)
      (RefusesEdit (IsEnvironmentFault facts old.disk.store new.disk.store) (is_full old) edit new.document)
  pub listed : IfOk result (λ changes. CanApplyAllByHandle changes.items new.document)
  pub some : IfOk result (λ changes. 0 < length changes.items)
  pub room : IfOk result (λ _. is_full old ≡ false)
  pub shut : is_full old ≡ true → (new ≡ old)
      × IfErr result (λ fault. first_refusal ((CacheFull, true) ∷ conditions edit old.document) ≡ Some fault)
  pub unseen : IsRefusedUnseen (conditions edit old.document) → (new ≡ old)
      × IsErrAnd result (λ fault. first_refusal (conditions edit old.document) ≡ Some fault)
  pub refusals : IfErr result (λ fault.
      RefusesEdit (IsEnvironmentFault facts old.disk.store new.disk.store) (is_full old) edit new.document fault
      ⊎ IsManyBlocksFault edit old.document fault)
