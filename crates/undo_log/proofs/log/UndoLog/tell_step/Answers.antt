use Rattle.undo_log.proofs.log.UndoLog.tell_step.Goals as goal

pub tell_next-requires : goal.tell_next-requires
tell_next-requires c = c.in-Some.ensures.counted
