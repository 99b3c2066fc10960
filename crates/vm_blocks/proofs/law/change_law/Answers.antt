use Rattle.vm_blocks.proofs.ChangeLaws.{change_back, flip_twice}
use Rattle.vm_blocks.proofs.law.change_law.Goals as goal

pub returns-clause-back : goal.returns-clause-back
returns-clause-back c = change_back

pub returns-clause-flip : goal.returns-clause-flip
returns-clause-flip c = flip_twice
