use Rattle.std.proofs.Common.{reverse}
use Rattle.chunk_edits.specs.declared.direction.Direction.TheVariants.{Backwards}
use Rattle.undo_log.proofs.Turns.{all_apply}
use Rattle.undo_log.proofs.turning.take_back.Goals as goal

pub returns-clause-sure : goal.returns-clause-sure
returns-clause-sure g c = λ none here can.
    c.change_all.ensures.sure none here (all_apply Backwards (reverse c.args.changes.now) c.args.blocks.now.document can)
