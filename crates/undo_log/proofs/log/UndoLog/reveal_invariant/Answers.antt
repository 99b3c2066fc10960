use Rattle.std.proofs.Common.{subst}
use Rattle.undo_log.specs.Logging.{AreExclusive, LogState, open_changes}
use Rattle.undo_log.proofs.log.UndoLog.reveal_invariant.Goals as goal

pub returns : goal.returns
returns c = subst (λ (l : LogState). AreExclusive (open_changes l.lists.group) l.lists.redo) c.self.view_is c.self.invariant.2
