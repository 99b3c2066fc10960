-- What is read of the blocks that a walk has met.
use Rattle.std.proofs.Common.{◌≡◌, ◌⊎◌, ℕ, List, Some, None, Result, IfOk, IfErr, sym, ap, subst, ◌∙◌, inl}
use Rattle.std.proofs.lemmas.Result.{IfErr-weaker}
use Rattle.vm_store.specs.Facts.{StoreFacts}
use Rattle.geos_model.specs.Chain.{chain, chain_blocks}
use Rattle.geos_model.specs.Document.{Document}
use Rattle.geos_model.specs.Refusal.{Conditions, first_refusal}
use Rattle.geos_model.specs.declared.fault.Fault.{Fault}
use Rattle.geos_model.specs.declared.handle.VmHandle.{VmHandle}
use Rattle.vm_blocks.specs.State.{CacheState}
use Rattle.vm_blocks.specs.Keeping.{KeepsBlocks, IsHonest, IsEnvironmentFault}
use Rattle.vm_blocks.proofs.KeepingLaws.{keeps-same, keeps-steady, keeps-was_steady, lacks-later}
use Rattle.vm_chains.specs.Answers.{AnswersChain}
use Rattle.vm_chains.specs.Numbers.{numbers}
use Rattle.vm_chains.specs.Walking.{CanBeMembers}
use Rattle.vm_chains.proofs.ChainLemmas.{blocks_are}
use Rattle.vm_chains.proofs.Refusals.{answers}

module _ {S : Type 0} (facts : S → StoreFacts) (a b e : CacheState S) (walks : KeepsBlocks facts a b) (reads : KeepsBlocks facts b e) where
  -- a refusal of what is read
  pub refused_on : {A : Type 0} (other : Fault → Type 0) (result : Result A Fault) → IfErr result (IsEnvironmentFault facts b.disk.store e.disk.store) → IfErr result (λ fault. IsEnvironmentFault facts a.disk.store e.disk.store fault ⊎ other fault)
  refused_on other result refused = IfErr-weaker result (IsEnvironmentFault facts b.disk.store e.disk.store) (λ fault. IsEnvironmentFault facts a.disk.store e.disk.store fault ⊎ other fault) (λ fault lacks. inl (lacks-later facts a b e.disk.store fault walks lacks)) refused

  module _ (root : ℕ) (handles now : List VmHandle) (lent : now ≡ handles) where
    pub members_on : (IsHonest facts a.disk.store → CanBeMembers b.document handles) → IsHonest facts b.disk.store → CanBeMembers b.document now
    members_on members steady = subst (CanBeMembers b.document) (sym lent) (members (keeps-was_steady facts a b walks steady))

    -- what is read of the blocks of the chain is answered, where nothing refuses it
    pub read_on : {A : Type 0} (conditions : Document → Conditions) (P : Document → List ℕ → A → Type 0) (result : Result A Fault)
        → (IsHonest facts a.disk.store → first_refusal (conditions b.document) ≡ None) → (IsHonest facts a.disk.store → chain b.document root ≡ Some (numbers handles))
        → (IsHonest facts b.disk.store → IfOk result (P e.document (numbers now))) → IfErr result (IsEnvironmentFault facts b.disk.store e.disk.store)
        → IsHonest facts a.disk.store → AnswersChain (IsEnvironmentFault facts a.disk.store e.disk.store) (conditions e.document) (P e.document (chain_blocks e.document root)) result
    read_on conditions P result none walked is refused steady =
        let steady_then = keeps-steady facts a b walks steady in
        let same = keeps-same facts b e reads steady_then in
        let all : numbers now ≡ chain_blocks e.document root = ap numbers lent ∙ sym (blocks_are e.document root (numbers handles) (ap (λ (x : Document). chain x root) same ∙ walked steady)) in
        answers (IsEnvironmentFault facts a.disk.store e.disk.store) (conditions e.document) (P e.document (numbers now)) (P e.document (chain_blocks e.document root)) result
        (subst (λ (d : Document). first_refusal (conditions d) ≡ None) (sym same) (none steady)) (is steady_then)
        (IfErr-weaker result (IsEnvironmentFault facts b.disk.store e.disk.store) (IsEnvironmentFault facts a.disk.store e.disk.store) (λ fault lacks. lacks-later facts a b e.disk.store fault walks lacks) refused)
        (λ x p. subst (λ (hs : List ℕ). P e.document hs x) all p)
