use Rattle.std.proofs.Common.{inl}
use Rattle.geos_model.specs.declared.fault.Fault.TheVariants.{Memory}
use Rattle.vm_blocks.proofs.KeepingLaws.{lacks-memory}
use Rattle.vm_chains.proofs.Loading.{carried}
use Rattle.large_arrays.proofs.runs.append_run.Goals as goal

pub returns-in_err-extend_from_slice-clause-value : goal.returns-in_err-extend_from_slice-clause-value
returns-in_err-extend_from_slice-clause-value g c =
    carried c.from_residual-in_err-extend_from_slice.result Memory _ _ c.from_residual-in_err-extend_from_slice.ensures.1
    (inl (lacks-memory g.S.Store.facts c.args.blocks.now.disk.store c.load_branch.new.blocks.disk.store))
