use Rattle.std.proofs.Common.{ap, ◌∙◌}
use Rattle.chunk_edits.specs.declared.direction.Direction.TheVariants.{Forwards}
use Rattle.vm_blocks.specs.Changes.{directed_all}
use Rattle.large_arrays.proofs.PlannedChanges.{as_stack}
use Rattle.large_arrays.proofs.changes.stacked.Goals as goal

pub returns : goal.returns
returns c = ap (directed_all Forwards) c.reverse.ensures.items ∙ as_stack c.args.changes.items
