-- What is looked up of large arrays, and what refuses it.
use Rattle.std.proofs.Common.{◌≡◌, ◌++◌, ◌∷◌, ℕ, List, false, true, Some, Result, IfErr, sym, subst, inl, inr}
use Rattle.std.specs.Result.{IsErrAnd}
use Rattle.geos_model.specs.Document.{Document, is_raw}
use Rattle.geos_model.specs.Meaning.{on_raw}
use Rattle.geos_model.specs.Refusal.{Conditions, first_refusal}
use Rattle.geos_model.specs.Reply.{Reply, Refused, look_up, look_up_conditions, reply_by}
use Rattle.geos_model.specs.declared.command.Command.{Command}
use Rattle.geos_model.specs.declared.fault.Fault.{Fault}
use Rattle.geos_model.specs.declared.fault.Fault.TheVariants.{CacheFull, NotArray, NoElement, Range}
use Rattle.vm_store.specs.Facts.{StoreFacts}
use Rattle.vm_blocks.specs.State.{CacheState}
use Rattle.vm_blocks.specs.Keeping.{KeepsBlocks, IsEnvironmentFault, IsHonest, is_full}
use Rattle.vm_blocks.specs.Kinds.{IsWrongBlock}
use Rattle.vm_chains.specs.Answers.{AnswersChain, IsWalkRefusal}
use Rattle.large_arrays.specs.LargeLookUps.{IsElementRefusal}
use Rattle.large_arrays.specs.LargeRuns.{IsRunRefusal}
use Rattle.large_arrays.specs.Loading.{IsRootRefusal}
use Rattle.doc_edits.specs.Found.{AreLate, is_among}
use Rattle.doc_edits.specs.LookUps.{IsArrayRootFault, IsRootFaultOf, AnswersChainFromBlocks}
use Rattle.doc_edits.specs.Room.{IsRefusedEarly}
use Rattle.doc_edits.proofs.LookUps.{refused_along, seen_along}
use Rattle.doc_edits.proofs.RoomLemmas.{Begins, begun_refused}

module _ {S T : Type 0} (facts : S → StoreFacts) (command : Command) (f : T → Reply) (never : (x : T) (fault : Fault) → f x ≡ Refused fault → ⊥) (a : CacheState S) where
  -- It is refused before it is looked into.
  pub array_refused : (faults : List Fault) (b : ℕ) (r : Result T Fault) (fault : Fault) → IsErrAnd r (λ e. e ≡ fault) → Begins on_raw b (look_up_conditions command)
      → ((rest : Conditions) → AreLate rest → first_refusal ((CacheFull, is_full a) ∷ on_raw a.document b ++ rest) ≡ Some fault) → IsRefusedEarly (IsWrongBlock is_raw a.document b) (is_full a) fault → IsRootFaultOf command a.document ≡ IsArrayRootFault faults a.document b → AnswersChainFromBlocks facts a a command (reply_by f r)
  array_refused faults b r fault is begins refuses early of =
      refused_along facts command f never r a fault is (begun_refused b (look_up_conditions command) begins a.document (is_full a) fault refuses)
      (subst (λ (root : Fault → Type 0). IsRefusedEarly root (is_full a) fault) (sym of) (elim early as (λ _. IsRefusedEarly (IsArrayRootFault faults a.document b) (is_full a) fault) [
        | inl wrong ↦ inl (inl wrong)
        | inr full ↦ inr full
      ]))

  -- or goes through
  pub array_seen : (faults : List Fault) (h : ℕ) (b : CacheState S) (P : T → Type 0) (r : Result T Fault) → is_full a ≡ false → KeepsBlocks facts a b
      → ((x : T) → P x → look_up command b.document ≡ Some (f x))
      → (IsHonest facts a.disk.store → AnswersChain (IsEnvironmentFault facts a.disk.store b.disk.store) (look_up_conditions command b.document) P r)
      → IfErr r (IsWalkRefusal (IsEnvironmentFault facts a.disk.store b.disk.store) (IsArrayRootFault faults a.document h))
      → IsRootFaultOf command a.document ≡ IsArrayRootFault faults a.document h → AnswersChainFromBlocks facts a b command (reply_by f r)
  array_seen faults h b P r room keeps does answers refusals of =
      seen_along facts command f never r a b P room keeps does answers
      (subst (λ (root : Fault → Type 0). IfErr r (IsWalkRefusal (IsEnvironmentFault facts a.disk.store b.disk.store) root)) (sym of) refusals)

-- what its root is refused for, and more
module _ (lacks : Fault → Type 0) (d : Document) (b : ℕ) (faults : List Fault) where
  among : (f fault : Fault) → is_among faults f ≡ true → fault ≡ f → is_among faults fault ≡ true
  among f fault there is = subst (λ (x : Fault). is_among faults x ≡ true) (sym is) there

  pub root_why : is_among faults NotArray ≡ true → (fault : Fault) → IsRootRefusal lacks d b fault → IsWalkRefusal lacks (IsArrayRootFault faults d b) fault
  root_why array fault (inl lack) = inl lack
  root_why array fault (inr (inl wrong)) = inr (inl (inl wrong))
  root_why array fault (inr (inr is)) = inr (inl (inr (among NotArray fault array is)))

  pub element_why : is_among faults NotArray ≡ true → is_among faults NoElement ≡ true → (fault : Fault) → IsElementRefusal lacks d b fault → IsWalkRefusal lacks (IsArrayRootFault faults d b) fault
  element_why array element fault (inl root) = root_why array fault root
  element_why array element fault (inr (inl is)) = inr (inl (inr (among NoElement fault element is)))
  element_why array element fault (inr (inr bad)) = inr (inr bad)

  pub run_why : is_among faults NotArray ≡ true → is_among faults NoElement ≡ true → is_among faults Range ≡ true → (fault : Fault) → IsRunRefusal lacks d b fault → IsWalkRefusal lacks (IsArrayRootFault faults d b) fault
  run_why array element range fault (inl why) = element_why array element fault why
  run_why array element range fault (inr is) = inr (inl (inr (among Range fault range is)))
