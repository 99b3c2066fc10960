use Rattle.std.proofs.Common.{◌≡◌, ◌≤◌, ℕ, None, length, sym, ap, subst, ◌∙◌}
use Rattle.undo_log.specs.Logging.{LogState, joined_log}
use Rattle.undo_log.specs.Marks.{both_marks, mark_joined}
use Rattle.undo_log.proofs.LogViews.{joined_at, log_at, open_group}
use Rattle.undo_log.proofs.log.UndoLog.join.Goals as goal

pub returns : goal.returns
returns c =
    let s = c.self.inside.steps in let t = c.join_newest.new.self in let group = open_group c.self.inside.group in
    let closed : group ≡ None = subst (λ (l : LogState). l.lists.group ≡ None) (sym c.self.view_is) c.requires.closed in
    let two = subst (λ (l : LogState). 2 ≤ length l.lists.undo) (sym c.self.view_is) c.requires.two in
    (λ i. log_at t.undo t.redo group ((c.join_at.ensures ∙ ap (λ (n : ℕ). both_marks (mark_joined n) c.self.inside.marks) c.undo_count.ensures) i) (c.at_most.ensures i) c.self.inside.limit)
    ∙ joined_at group c.self.inside.marks c.self.inside.limit s.undo t.undo s.redo t.redo c.self.inside.last c.newest_len-count.result closed two c.in_ok-join_newest.ensures.done c.join_newest.ensures.redo c.newest_len-count.ensures
    ∙ ap (λ (l : LogState). joined_log l.lists) c.self.view_is
