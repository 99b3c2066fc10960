use Rattle.std.proofs.Common.{◌==◌, ◌&&◌, ◌-◌, length, sym, ap, ◌∙◌, arith}
use Rattle.undo_log.specs.Logging.{LogState, forgotten_log, open_changes}
use Rattle.undo_log.specs.Marks.{both_marks, mark_lowered}
use Rattle.undo_log.specs.declared.marks.Marks.{Marks}
use Rattle.undo_log.proofs.LogViews.{forgotten_at, log_at, open_group}
use Rattle.undo_log.proofs.log.UndoLog.forget.Goals as goal

pub returns-then-count-most : goal.returns-then-count-most
returns-then-count-most c =
    let s = c.self.inside.steps in let most = c.args.most in let first = c.undo_count-count.result - most in
    let t = c.keep_newest-then-count-most.new.self in let group = open_group c.self.inside.group in
    let asked = c.tells_entry-is_told.ensures ∙ ap (λ (l : LogState). most == 0 && length (open_changes l.lists.group) == 0) (sym c.self.view_is) in
    ap (λ (m : Marks). log_at t.undo t.redo group m c.keep_newest.new.self c.self.inside.limit) (c.lower.ensures ∙ ap (both_marks (mark_lowered first)) c.cut_before.ensures)
    ∙ forgotten_at group c.self.inside.marks c.self.inside.limit first most s c.keep_newest.new.steps t.undo t.redo c.self.inside.last c.keep_newest.new.self c.tells_entry-is_told.result asked
    (omega (arith, c.undo_count-count.ensures)) (omega (arith, c.undo_count-count.ensures, c.if-count-most.true)) c.self.invariant.0 c.keep_newest.ensures c.keep_newest-then-count-most.ensures.undo c.keep_newest-then-count-most.ensures.redo
    ∙ ap (λ (l : LogState). forgotten_log most l.lists) c.self.view_is
