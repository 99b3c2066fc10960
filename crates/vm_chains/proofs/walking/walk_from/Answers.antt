use Rattle.std.proofs.Common.{◌≡◌, Result, Ok, Err, IfOk, MatchResult, Some, inl}
use Rattle.std.proofs.lemmas.Result.{IfOk-weaker}
use Rattle.geos_model.specs.Chain.{chain}
use Rattle.geos_model.specs.declared.fault.Fault.{Fault}
use Rattle.geos_model.specs.declared.fault.Fault.TheVariants.{Memory}
use Rattle.vm_blocks.proofs.KeepingLaws.{keeps-refl, lacks-memory}
use Rattle.vm_chains.specs.Numbers.{numbers}
use Rattle.vm_chains.specs.Stepping.{HasMetAll}
use Rattle.vm_chains.specs.Walking.{AreBlocks, BeginsWith, CanBeMembers}
use Rattle.vm_chains.proofs.ChainLemmas.{are_members}
use Rattle.vm_chains.proofs.Loading.{carried, carried_so}
use Rattle.vm_chains.proofs.StepLemmas.{at_root, none_has_met}
use Rattle.vm_chains.proofs.walking.walk_from.Goals as goal

pub returns-in_err-new-clause-keeps : goal.returns-in_err-new-clause-keeps
returns-in_err-new-clause-keeps g c = keeps-refl g.S.Store.facts c.args.blocks.now

pub returns-in_err-new-clause-value : goal.returns-in_err-new-clause-value
returns-in_err-new-clause-value g c = λ steady. carried c.from_residual.result Memory _ _ c.from_residual.ensures.1 (inl (lacks-memory g.S.Store.facts c.args.blocks.now.disk.store c.args.blocks.now.disk.store))

pub returns-in_err-new-clause-refusals : goal.returns-in_err-new-clause-refusals
returns-in_err-new-clause-refusals g c = carried_so c.from_residual.result Memory _ c.from_residual.ensures.1 (inl (lacks-memory g.S.Store.facts c.args.blocks.now.disk.store c.args.blocks.now.disk.store))

pub returns-clause-value : goal.returns-clause-value
returns-clause-value g c = λ steady. c.finish.ensures.value c.args.root.0 steady (at_root c.args.blocks.now.document c.args.root.0 c.in_ok-new.field-0 c.in_ok-new.ensures)

pub returns-clause-root : goal.returns-clause-root
returns-clause-root g c =
    let d = c.args.blocks.now.document in let root = c.args.root.0 in
    IfOk-weaker c.finish.result (λ handles. HasMetAll c.finish.new.blocks.document root handles.items) (λ handles. BeginsWith root (numbers handles.items))
    (λ handles all. all.root_first) (c.finish.ensures.met root (none_has_met d root c.in_ok-new.field-0 c.in_ok-new.ensures))

pub returns-clause-live : goal.returns-clause-live
returns-clause-live g c =
    let d = c.args.blocks.now.document in let root = c.args.root.0 in let e = c.finish.new.blocks in
    IfOk-weaker c.finish.result (λ handles. HasMetAll e.document root handles.items) (λ handles. AreBlocks e.document handles.items)
    (λ handles all. all.blocks) (c.finish.ensures.met root (none_has_met d root c.in_ok-new.field-0 c.in_ok-new.ensures))

pub returns-clause-members : goal.returns-clause-members
returns-clause-members g c = λ steady.
    let root = c.args.root.0 in let e = c.finish.new.blocks in
    IfOk-weaker c.finish.result (λ handles. chain e.document root ≡ Some (numbers handles.items)) (λ handles. CanBeMembers e.document handles.items)
    (λ handles is. are_members e.document root handles.items is) (walked c.finish.result _ _ (returns-clause-value g c steady))
  where
    walked : {A : Type 0} (result : Result A Fault) (P : A → Type 0) (Q : Fault → Type 0) → MatchResult result P Q → IfOk result P
    walked (Ok a) P Q is = is
    walked (Err fault) P Q is = tt
