use Rattle.std.proofs.Common.{◌∙◌}
use Rattle.vm_blocks.proofs.bringing_in.take_out_again.Goals as goal

pub take_out-requires-clause-unlocked : goal.take_out-requires-clause-unlocked
take_out-requires-clause-unlocked g c = c.loop-change.invariant.locks.count ∙ c.requires.unlocked
