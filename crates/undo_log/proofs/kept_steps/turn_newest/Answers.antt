use Rattle.std.proofs.Common.{sym}
use Rattle.undo_log.proofs.Entries.{short_turns}
use Rattle.undo_log.proofs.kept_steps.turn_newest.Goals as goal

pub returns-else-is_newest_whole-clause-before : goal.returns-else-is_newest_whole-clause-before
returns-else-is_newest_whole-clause-before c = let h = c.is_newest_whole.ensures in let k = c.if-is_newest_whole.false in sym (short_turns c.args.log.now.before cc)
