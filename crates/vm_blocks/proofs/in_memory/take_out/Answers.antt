use Rattle.vm_blocks.proofs.Locks.{none_locked}
use Rattle.vm_blocks.proofs.in_memory.take_out.Goals as goal

pub take_all-requires-clause-unlocked : goal.take_all-requires-clause-unlocked
take_all-requires-clause-unlocked g c = λ i h within. none_locked c.args.blocks.now.resident c.requires.unlocked _

pub take_all-requires-in-Forwards-direction-clause-unlocked : goal.take_all-requires-in-Forwards-direction-clause-unlocked
take_all-requires-in-Forwards-direction-clause-unlocked g c = λ i h within. none_locked c.args.blocks.now.resident c.requires.unlocked _
