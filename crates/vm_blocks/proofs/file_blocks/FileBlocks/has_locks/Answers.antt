use Rattle.std.proofs.Common.{nat_lt, ap, ◌∙◌}
use Rattle.vm_blocks.specs.State.{locked_count}
use Rattle.vm_blocks.proofs.file_blocks.FileBlocks.has_locks.Goals as goal

pub returns : goal.returns
returns g c = ap (nat_lt 0) c.self.invariant.1 ∙ ap (λ s. nat_lt 0 (locked_count s.resident)) c.self.view_is
