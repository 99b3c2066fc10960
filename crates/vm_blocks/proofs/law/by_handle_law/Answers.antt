use Rattle.vm_blocks.proofs.Preparing.{halves, all_listed_on}
use Rattle.vm_blocks.proofs.law.by_handle_law.Goals as goal

pub returns-clause-halves : goal.returns-clause-halves
returns-clause-halves c = halves

pub returns-clause-stays : goal.returns-clause-stays
returns-clause-stays c = all_listed_on
