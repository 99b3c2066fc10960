use Rattle.std.proofs.Common.{◌≡◌, ◌∙◌, Some, sym, inl}
use Rattle.geos_model.specs.declared.fault.Fault.TheVariants.{Memory}
use Rattle.vm_blocks.proofs.KeepingLaws.{lacks-memory}
use Rattle.vm_chains.proofs.Loading.{carried}
use Rattle.large_arrays.specs.Loading.{branch_under}
use Rattle.large_arrays.proofs.within.branch_patch.Goals as goal

pub returns-in_err-replaced_patch-clause-value : goal.returns-in_err-replaced_patch-clause-value
returns-in_err-replaced_patch-clause-value g c =
    carried c.from_residual-in_err-replaced_patch.result Memory _ _ c.from_residual-in_err-replaced_patch.ensures.1
    (inl (lacks-memory g.S.Store.facts c.args.blocks.now.disk.store c.load_branch.new.blocks.disk.store))

pub returns-clause-value : goal.returns-clause-value
returns-clause-value g c =
    let d = c.load_branch.new.blocks.document in let e = c.args.edit.now in let new = c.args.new.now in let xs = c.in_ok-view.view.array.elements in
    let found : branch_under d e.link.handle.0 new.size e.link.count ≡ Some xs =
    (λ t. branch_under d e.link.handle.0 (sym c.element_size-size.ensures t) (sym c.from-count.ensures t)) ∙ c.in_ok-view.ensures.value in
    record { elements = xs; branch = found; leads = c.in_ok-replaced_patch.ensures.leads; short = c.in_ok-replaced_patch.ensures.short }
