use Rattle.std.proofs.Common.{ap, ◌∙◌}
use Rattle.vm_blocks.specs.State.{locks_of}
use Rattle.vm_blocks.proofs.file_blocks.FileBlocks.locks.Goals as goal

pub returns : goal.returns
returns g c = c.locks_of.ensures ∙ ap (λ s. locks_of s.resident c.args.handle.0) c.self.view_is
