use Rattle.std.proofs.Common.{ap, ◌∙◌}
use Rattle.chunk_edits.specs.declared.direction.Direction.TheVariants.{Backwards}
use Rattle.undo_log.specs.Logging.{LogState, next_moved}
use Rattle.undo_log.specs.declared.touched.Touched.{Touched}
use Rattle.undo_log.proofs.LogViews.{log_at, open_group, undone_at}
use Rattle.undo_log.proofs.log.UndoLog.move_undone.Goals as goal

pub returns-then-undo_count-gt0 : goal.returns-then-undo_count-gt0
returns-then-undo_count-gt0 c =
    let s = c.self.inside.steps in let t = c.move_undone.new.self in let group = open_group c.self.inside.group in
    ap (λ (last : Touched). log_at t.undo t.redo group c.self.inside.marks last c.self.inside.limit) c.be_undone.ensures
    ∙ undone_at group c.self.inside.marks c.self.inside.limit s.undo s.redo t.undo t.redo c.self.inside.last c.move_undone.ensures
    ∙ ap (λ (l : LogState). next_moved Backwards l.lists) c.self.view_is
