use Rattle.std.proofs.Common.{◌≡◌, [], None, sym, ap, subst, ◌∙◌}
use Rattle.undo_log.specs.Entries.{One, unnamed}
use Rattle.undo_log.specs.Logging.{LogState, pushed_log}
use Rattle.undo_log.proofs.LogViews.{no_entries, open_group, pushed_at}
use Rattle.undo_log.proofs.log.UndoLog.push_change.Goals as goal

pub push_change-requires-clause-none : goal.push_change-requires-clause-none
push_change-requires-clause-none c = no_entries c.self.inside.steps.redo (subst (λ (l : LogState). l.lists.redo ≡ []) (sym c.self.view_is) c.requires.none)

pub returns : goal.returns
returns c =
    let s = c.self.inside.steps in let t = c.push_change.new.self in let group = open_group c.self.inside.group in
    let closed : group ≡ None = subst (λ (l : LogState). l.lists.group ≡ None) (sym c.self.view_is) c.requires.closed in
    let none = subst (λ (l : LogState). l.lists.redo ≡ []) (sym c.self.view_is) c.requires.none in
    c.keep_limit.ensures
    ∙ pushed_at group c.self.inside.marks c.self.inside.limit s.undo s.redo t.undo t.redo (unnamed (One c.args.change)) c.self.inside.last closed none c.self.invariant.0 c.push_change.ensures.undo c.push_change.ensures.redo
    ∙ ap (pushed_log (unnamed (One c.args.change))) c.self.view_is
