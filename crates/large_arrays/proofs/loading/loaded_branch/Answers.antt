use Rattle.std.proofs.Common.{◌≡◌, None}
use Rattle.geos_model.specs.declared.fault.Fault.TheVariants.{BadChain}
use Rattle.geos_model.specs.LargeLayout.{branch_of}
use Rattle.large_arrays.proofs.LoadedBranches.{branch-short}
use Rattle.large_arrays.proofs.loading.loaded_branch.Goals as goal

pub returns-clause-short : goal.returns-clause-short
returns-clause-short g c =
    branch-short c.args.size c.args.count c.raw_bytes.result.now (λ fault. (fault ≡ BadChain) × (branch_of c.args.size c.args.count c.raw_bytes.result.now ≡ None)) c.read_branch.result
    c.requires.size c.raw_bytes.ensures.short c.read_branch.ensures.value c.read_branch.ensures.plain
