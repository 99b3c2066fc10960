use Rattle.std.proofs.Common.{◌≡◌, ◌∙◌, Some, sym, inl}
use Rattle.geos_model.specs.declared.fault.Fault.TheVariants.{Memory}
use Rattle.vm_blocks.proofs.KeepingLaws.{lacks-memory}
use Rattle.vm_chains.proofs.Loading.{carried}
use Rattle.large_arrays.specs.Loading.{branch_under}
use Rattle.large_arrays.proofs.OverwritingSteps.{branch-written}
use Rattle.large_arrays.proofs.overwriting.plan_branch.Goals as goal

pub returns-in_err-patch-clause-value : goal.returns-in_err-patch-clause-value
returns-in_err-patch-clause-value g c =
    carried c.from_residual-in_err-patch.result Memory _ _ c.from_residual-in_err-patch.ensures.1
    (inl (lacks-memory g.S.Store.facts c.args.blocks.now.disk.store c.load_branch.new.blocks.disk.store))

pub returns-in_err-plan_patch-clause-value : goal.returns-in_err-plan_patch-clause-value
returns-in_err-plan_patch-clause-value g c =
    carried c.from_residual-in_err-plan_patch.result Memory _ _ c.from_residual-in_err-plan_patch.ensures.1
    (inl (lacks-memory g.S.Store.facts c.args.blocks.now.disk.store c.load_branch.new.blocks.disk.store))

pub returns-clause-value : goal.returns-clause-value
returns-clause-value g c =
    let d = c.load_branch.new.blocks.document in let link = c.args.link in let new = c.args.new.now in let xs = c.in_ok-view.view.array.elements in
    let found : branch_under d link.handle.0 new.size link.count ≡ Some xs =
    (λ t. branch_under d link.handle.0 (sym c.element_size-size.ensures t) (sym c.from.ensures t)) ∙ c.in_ok-view.ensures.value in
    branch-written d link c.args.from new c.args.changes.now.items c.plan_patch.new.changes.items xs c.new.result c.requires.small found
    (rw c.new.ensures c.in_ok-patch.ensures.leads) (rw c.new.ensures c.in_ok-patch.ensures.short) c.in_ok-plan_patch.ensures.planned c.in_ok-plan_patch.ensures.listed
