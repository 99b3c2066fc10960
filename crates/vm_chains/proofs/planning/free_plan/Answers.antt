use Rattle.std.proofs.Common.{◌≡◌, ◌⊎◌, ◌==◌, ◌||◌, List, [], ◌∷◌, ℕ, true, false, Bool, None, Ok, Err, is_none, refl, sym, ap, subst, ◌∙◌, inl, inr}
use Rattle.std.specs.List.{list_any}
use Rattle.geos_model.specs.Chain.{chain, chain_blocks, chain_blocks_of, on_chain}
use Rattle.geos_model.specs.Document.{Document, handles_of, is_raw}
use Rattle.geos_model.specs.Refusal.{first_refusal}
use Rattle.geos_model.specs.declared.fault.Fault.{Fault}
use Rattle.geos_model.specs.declared.fault.Fault.TheVariants.{IsMap}
use Rattle.vm_blocks.specs.Keeping.{IsEnvironmentFault}
use Rattle.vm_blocks.specs.Kinds.{IsWrongBlock}
use Rattle.document_file.specs.Members.{imaged_blocks}
use Rattle.document_file.specs.declared.member.Member.{Member}
use Rattle.vm_blocks.proofs.KeepingLaws.{keeps-refl, keeps-same}
use Rattle.vm_chains.specs.Answers.{IsChainFault, RefusesChain}
use Rattle.vm_chains.specs.Planning.{AreChainBlocks}
use Rattle.vm_chains.specs.Walking.{Stops}
use Rattle.vm_chains.proofs.ChainLemmas.{blocks_are}
use Rattle.vm_chains.proofs.Carrying.{free_applies, leaving}
use Rattle.vm_chains.proofs.Loading.{carried, carried_so}
use Rattle.vm_chains.proofs.Refusals.{by_map, free_refused, root_refused, walked}
use Rattle.vm_chains.proofs.planning.free_plan.Goals as goal

any_handle : (p : ℕ → Bool) (ms : List Member) → list_any p (handles_of (imaged_blocks ms)) ≡ list_any (λ m. p m.handle.0) ms
any_handle p [] = refl
any_handle p (m ∷ ms) = ap (λ (b : Bool). p m.handle.0 || b) (any_handle p ms)

-- whether the map block is one of the chain, by what was found among the blocks of the plan
found : (d : Document) (root map_block : ℕ) (ms now : List Member) (b : Bool) → AreChainBlocks d root (imaged_blocks ms) → now ≡ ms → map_block ≡ d.map_block → b ≡ list_any (λ m. m.handle.0 == map_block) now → list_any (λ x. x == d.map_block) (chain_blocks d root) ≡ b
found d root map_block ms now b are same map_is b_is =
    ap (λ (hs : List ℕ). list_any (λ x. x == d.map_block) hs) (blocks_are d root (handles_of (imaged_blocks ms)) are.walked) ∙ any_handle (λ x. x == d.map_block) ms
    ∙ sym (λ j. list_any (λ m. m.handle.0 == map_is j) (same j)) ∙ sym b_is

-- the chain is there, or isn't
whole : (d : Document) (root : ℕ) (lacks : Fault → Type 0) (ms : List Member) → is_raw d root ≡ true → AreChainBlocks d root (imaged_blocks ms) → first_refusal (on_chain d root) ≡ None
whole d root lacks ms raw are =
    (walked d root lacks (λ (ms : List Member). AreChainBlocks d root (imaged_blocks ms)) (Ok ms) raw (λ ms are. ap (λ (o : _). is_none o) are.walked) are).0

broken : (d : Document) (root : ℕ) (lacks : Fault → Type 0) (fault : Fault) → is_raw d root ≡ true → Stops lacks (chain d root ≡ None) fault → RefusesChain lacks (on_chain d root) fault
broken d root lacks fault raw stops = walked d root lacks (λ (ms : List Member). ⊥) (Err fault) raw (λ ms no_. absurd no_) stops

pub returns-in_err-test_root-clause-keeps : goal.returns-in_err-test_root-clause-keeps
returns-in_err-test_root-clause-keeps g c = keeps-refl g.S.Store.facts c.args.blocks.now

pub returns-in_err-test_root-clause-value : goal.returns-in_err-test_root-clause-value
returns-in_err-test_root-clause-value g c = λ steady.
    let a = c.args.blocks.now in let lacks = IsEnvironmentFault g.S.Store.facts a.disk.store a.disk.store in let fault = c.in_err-test_root.field-0.0 in
    carried c.from_residual.result fault _ _ c.from_residual.ensures.1
    (free_refused a.document c.args.root.0 lacks fault (root_refused a.document c.args.root.0 lacks fault (inr c.in_err-test_root.ensures)))

pub returns-in_err-test_root-clause-refusals : goal.returns-in_err-test_root-clause-refusals
returns-in_err-test_root-clause-refusals g c = carried_so c.from_residual.result c.in_err-test_root.field-0.0 _ c.from_residual.ensures.1 (inr (inl (inl c.in_err-test_root.ensures)))

pub returns-in_err-plan-clause-value : goal.returns-in_err-plan-clause-value
returns-in_err-plan-clause-value g c = λ steady.
    let a = c.args.blocks.now in let e = c.images.new.blocks in let root = c.args.root.0 in let fault = c.in_err-plan.field-0.0 in
    let lacks = IsEnvironmentFault g.S.Store.facts a.disk.store e.disk.store in
    let raw = subst (λ (d : Document). is_raw d root ≡ true) (sym (keeps-same g.S.Store.facts a e c.images.ensures.keeps steady)) c.in_ok-test_root.ensures in
    carried c.from_residual-in_err-plan.result fault _ _ c.from_residual-in_err-plan.ensures.1
    (free_refused e.document root lacks fault (broken e.document root lacks fault raw (c.in_err-plan.ensures.value steady)))

pub returns-in_err-plan-clause-refusals : goal.returns-in_err-plan-clause-refusals
returns-in_err-plan-clause-refusals g c =
    let fault = c.in_err-plan.field-0.0 in
    carried_so c.from_residual-in_err-plan.result fault _ c.from_residual-in_err-plan.ensures.1
    (elim c.in_err-plan.ensures.refusals as (λ _. IsEnvironmentFault g.S.Store.facts c.args.blocks.now.disk.store c.images.new.blocks.disk.store fault ⊎ IsChainFault (IsWrongBlock is_raw c.args.blocks.now.document c.args.root.0) fault ⊎ (fault ≡ IsMap)) [
      | inl lacks ↦ inl lacks
      | inr bad ↦ inr (inl (inr bad))
    ])

pub returns-then-contains-clause-value : goal.returns-then-contains-clause-value
returns-then-contains-clause-value g c = λ steady.
    let a = c.args.blocks.now in let e = c.images.new.blocks in let root = c.args.root.0 in let ms = c.in_ok-plan.plan.list.items in
    let raw = subst (λ (d : Document). is_raw d root ≡ true) (sym (keeps-same g.S.Store.facts a e c.images.ensures.keeps steady)) c.in_ok-test_root.ensures in
    let are = c.in_ok-plan.ensures.value steady in
    inr (by_map e.document root true (found e.document root c.map_block.result.0 ms c.deref.result.now c.contains.result are c.deref.ensures.value c.map_block.ensures c.contains.ensures ∙ c.if-contains.true)
    (whole e.document root (IsEnvironmentFault g.S.Store.facts a.disk.store e.disk.store) ms raw are))

pub returns-clause-value : goal.returns-clause-value
returns-clause-value g c = λ steady.
    let a = c.args.blocks.now in let e = c.images.new.blocks in let root = c.args.root.0 in let ms = c.in_ok-plan.plan.list.items in
    let raw = subst (λ (d : Document). is_raw d root ≡ true) (sym (keeps-same g.S.Store.facts a e c.images.ensures.keeps steady)) c.in_ok-test_root.ensures in
    let are = c.in_ok-plan.ensures.value steady in (
      by_map e.document root false (found e.document root c.map_block.result.0 ms c.deref.result.now c.contains.result are c.deref.ensures.value c.map_block.ensures c.contains.ensures ∙ c.if-contains.false)
          (whole e.document root (IsEnvironmentFault g.S.Store.facts a.disk.store e.disk.store) ms raw are),
      are.saved ∙ ap (λ (hs : List ℕ). chain_blocks_of e.document hs) (sym (blocks_are e.document root (handles_of (imaged_blocks ms)) are.walked)),
    )

pub returns-clause-applies : goal.returns-clause-applies
returns-clause-applies g c = λ steady.
    free_applies (IsEnvironmentFault g.S.Store.facts c.args.blocks.now.disk.store c.images.new.blocks.disk.store) c.images.new.blocks.document c.args.root.0 (Ok c.in_ok-plan.plan) (returns-clause-value g c steady)

pub returns-clause-handles : goal.returns-clause-handles
returns-clause-handles g c =
    let d = c.images.new.blocks.document in
    let other : list_any (λ m. m.handle.0 == d.map_block) c.in_ok-plan.plan.list.items ≡ false =
    (λ j. list_any (λ m. m.handle.0 == sym c.map_block.ensures j) (sym c.deref.ensures.value j)) ∙ sym c.contains.ensures ∙ c.if-contains.false in
    leaving d c.in_ok-plan.plan.list.items c.in_ok-plan.ensures.met other
