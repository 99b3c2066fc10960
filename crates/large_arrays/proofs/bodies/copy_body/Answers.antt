use Rattle.std.proofs.Common.{inl}
use Rattle.geos_model.specs.declared.fault.Fault.TheVariants.{Memory}
use Rattle.vm_blocks.proofs.KeepingLaws.{lacks-memory}
use Rattle.vm_chains.proofs.Loading.{carried}
use Rattle.large_arrays.proofs.bodies.copy_body.Goals as goal

pub returns-in_err-to_vec-clause-value : goal.returns-in_err-to_vec-clause-value
returns-in_err-to_vec-clause-value g c =
    carried c.from_residual-in_err-to_vec.result Memory _ _ c.from_residual-in_err-to_vec.ensures.1 (inl (lacks-memory g.S.Store.facts c.args.blocks.now.disk.store c.load_branch.new.blocks.disk.store))
