use Rattle.std.proofs.Common.{◌≡◌, None, ap, subst, sym, ◌∙◌}
use Rattle.chunk_edits.specs.declared.direction.Direction.TheVariants.{Forwards}
use Rattle.undo_log.specs.Logging.{LogState, next_moved}
use Rattle.undo_log.specs.declared.touched.Touched.{Touched}
use Rattle.undo_log.proofs.LogViews.{log_at, open_group, redone_at}
use Rattle.undo_log.proofs.log.UndoLog.move_redone.Goals as goal

pub returns-then-redo_count-gt0 : goal.returns-then-redo_count-gt0
returns-then-redo_count-gt0 c =
    let s = c.self.inside.steps in let t = c.move_redone.new.self in let group = open_group c.self.inside.group in
    let closed : group ≡ None = subst (λ (l : LogState). l.lists.group ≡ None) (sym c.self.view_is) c.requires in
    ap (λ (last : Touched). log_at t.undo t.redo group c.self.inside.marks last c.self.inside.limit) c.be_newest.ensures
    ∙ redone_at group c.self.inside.marks c.self.inside.limit s.undo s.redo t.undo t.redo c.self.inside.last c.newest_len.result closed c.move_redone.ensures c.newest_len.ensures
    ∙ ap (λ (l : LogState). next_moved Forwards l.lists) c.self.view_is
