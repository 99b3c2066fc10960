-- Which refusal is the first.
use Rattle.std.proofs.Common.{◌≡◌, ℕ, Bool, Result, Ok, Err, IfOk, IfErr, MatchResult, subst, ◌++◌, true, false, Some, refl, sym, ◌∙◌, inl, inr}
use Rattle.std.proofs.lemmas.Bool.{true≢false}
use Rattle.std.specs.Result.{IsErrAnd}
use Rattle.std.specs.FinMap.{contains_key}
use Rattle.geos_model.specs.Refusal.{Conditions, applies, first_refusal}
use Rattle.geos_model.specs.Heap.{ChunkMap}
use Rattle.geos_model.specs.Document.{Document, is_heap, is_live, is_raw}
use Rattle.geos_model.specs.Meaning.{conditions, on_block, on_raw, on_heap, on_chunk}
use Rattle.geos_model.specs.declared.fault.Fault.{Fault}
use Rattle.geos_model.specs.declared.command.Edit.{Edit}
use Rattle.geos_model.specs.declared.fault.Fault.TheVariants.{Memory, BadCommand, GroupOpen, NoGroup, Locked, NothingToUndo, NothingToRedo, NoTarget, NoBlock, WrongKind, NotLocked, LockLimit, CacheFull, NoChunk}
use Rattle.geos_model.proofs.FirstRefusals.{none_among, passed}
use Rattle.vm_blocks.specs.Kinds.{IsWrongBlock}
use Rattle.doc_edits.specs.Found.{is_among, late_faults, AreLate, IsHeapAt}
use Rattle.doc_edits.specs.Planning.{RefusesEdit, RefusesInMemory}

not_late : (rest : Conditions) (f : Fault) → AreLate rest → is_among late_faults f ≡ false → applies rest f ≡ false
not_late rest f late early = none_among late_faults rest f late early

-- no block under the handle, or one of the other kind

pub block_dead : (d : Document) (h : ℕ) (rest : Conditions) (fault : Fault) → IsWrongBlock is_live d h fault → AreLate rest → first_refusal (on_block d h ++ rest) ≡ Some fault
block_dead d h rest fault (inl none) late = rw (none.0, none.1, not_late rest BadCommand late refl, not_late rest GroupOpen late refl, not_late rest NoGroup late refl, not_late rest Locked late refl, not_late rest NothingToUndo late refl, not_late rest NothingToRedo late refl, not_late rest NoTarget late refl) refl
block_dead d h rest fault (inr other) late = absurd (true≢false (sym other.1 ∙ other.2))

pub heap_other : (d : Document) (h : ℕ) (rest : Conditions) (fault : Fault) → IsWrongBlock is_heap d h fault → AreLate rest → first_refusal (on_heap d h ++ rest) ≡ Some fault
heap_other d h rest fault (inl none) late = rw (none.0, none.1, not_late rest BadCommand late refl, not_late rest GroupOpen late refl, not_late rest NoGroup late refl, not_late rest Locked late refl, not_late rest NothingToUndo late refl, not_late rest NothingToRedo late refl, not_late rest NoTarget late refl) refl
heap_other d h rest fault (inr other) late =
    rw (other.0, other.1, other.2, not_late rest BadCommand late refl, not_late rest GroupOpen late refl, not_late rest NoGroup late refl, not_late rest Locked late refl, not_late rest NothingToUndo late refl, not_late rest NothingToRedo late refl, not_late rest NoTarget late refl, not_late rest NoBlock late refl) refl

pub raw_other : (d : Document) (h : ℕ) (rest : Conditions) (fault : Fault) → IsWrongBlock is_raw d h fault → AreLate rest → first_refusal (on_raw d h ++ rest) ≡ Some fault
raw_other d h rest fault (inl none) late = rw (none.0, none.1, not_late rest BadCommand late refl, not_late rest GroupOpen late refl, not_late rest NoGroup late refl, not_late rest Locked late refl, not_late rest NothingToUndo late refl, not_late rest NothingToRedo late refl, not_late rest NoTarget late refl) refl
raw_other d h rest fault (inr other) late =
    rw (other.0, other.1, other.2, not_late rest BadCommand late refl, not_late rest GroupOpen late refl, not_late rest NoGroup late refl, not_late rest Locked late refl, not_late rest NothingToUndo late refl, not_late rest NothingToRedo late refl, not_late rest NoTarget late refl, not_late rest NoBlock late refl) refl

-- no such chunk in the heap
pub no_chunk : (d : Document) (h c : ℕ) (m : ChunkMap) (rest : Conditions) → IsHeapAt d h m → contains_key m c ≡ false → AreLate rest → first_refusal (on_chunk d h c ++ rest) ≡ Some NoChunk
no_chunk d h c m rest live free late =
    rw (live, free, not_late rest BadCommand late refl, not_late rest GroupOpen late refl, not_late rest NoGroup late refl, not_late rest Locked late refl, not_late rest NothingToUndo late refl, not_late rest NothingToRedo late refl, not_late rest NoTarget late refl, not_late rest NoBlock late refl, not_late rest WrongKind late refl, not_late rest NotLocked late refl, not_late rest LockLimit late refl, not_late rest CacheFull late refl) refl

-- where the chunk is there, the other refusals decide
pub past_chunk : (d : Document) (h c : ℕ) (m : ChunkMap) (rest : Conditions) → IsHeapAt d h m → contains_key m c ≡ true → first_refusal (on_chunk d h c ++ rest) ≡ first_refusal rest
past_chunk d h c m rest live there = rw (live, there) refl

-- the fault that `?` hands on
pub handed_on : {T : Type 0} (P : Result T Fault → Type 0) (r : Result T Fault) (fault : Fault) → IsErrAnd r (λ e. e ≡ fault) → P (Err fault) → P r
handed_on P (Ok x) fault is p = absurd is
handed_on P (Err e) fault is p = subst (λ (f : Fault). P (Err f)) (sym is) p

pub carried : {T : Type 0} (r : Result T Fault) (P : T → Type 0) (Q : Fault → Type 0) (fault : Fault) → IsErrAnd r (λ e. e ≡ fault) → Q fault → MatchResult r P Q
carried r P Q fault is q = handed_on (λ x. MatchResult x P Q) r fault is q

pub carried_so : {T : Type 0} (r : Result T Fault) (Q : Fault → Type 0) (fault : Fault) → IsErrAnd r (λ e. e ≡ fault) → Q fault → IfErr r Q
carried_so r Q fault is q = handed_on (λ x. IfErr x Q) r fault is q

-- what holds whatever is answered
pub accepted_so : {T : Type 0} (r : Result T Fault) (P : Type 0) → P → IfOk r (λ _. P)
accepted_so (Ok x) P holds = holds
accepted_so (Err e) P holds = tt

pub refused_then : {T : Type 0} (r : Result T Fault) (P : T → Type 0) (Q R : Fault → Type 0) → MatchResult r P Q → ((fault : Fault) → Q fault → R fault) → IfErr r R
refused_then (Ok x) P Q R is turn = tt
refused_then (Err fault) P Q R is turn = turn fault is

-- of blocks in memory it can be said that nothing was lacking but memory
pub may_lack : {T : Type 0} (lacks : Fault → Type 0) (no_room : Bool) (edit : Edit) (d : Document) (P : T → Type 0) (r : Result T Fault) → no_room ≡ false → lacks Memory → MatchResult r P (RefusesInMemory edit d) → MatchResult r P (RefusesEdit lacks no_room edit d)
may_lack lacks no_room edit d P (Ok x) room memory planned = planned
may_lack lacks no_room edit d P (Err fault) room memory refused = elim refused [
  | inl is ↦ inl (subst lacks (sym is) memory)
  | inr first ↦ inr (passed CacheFull no_room (conditions edit d) room ∙ first)
]
