use Rattle.large_arrays.proofs.PlannedRoots.{damaged-again}
use Rattle.large_arrays.proofs.root_plan.load_again.Goals as goal

pub returns-in_default-fault-clause-value : goal.returns-in_default-fault-clause-value
returns-in_default-fault-clause-value g c =
    damaged-again g.S.Store.facts c.args.blocks.now c.load_root.new.blocks c.load_root.ensures.keeps c.args.root.0 c.in-Err.fault c.requires.root c.in-Err.ensures.value
    c.in_default-fault.not-Memory c.in_default-fault.not-File
