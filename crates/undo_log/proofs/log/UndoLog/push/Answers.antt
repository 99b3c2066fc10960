use Rattle.std.proofs.Common.{◌≡◌, [], None, sym, ap, subst, ◌∙◌}
use Rattle.undo_log.specs.Logging.{LogState, pushed_log}
use Rattle.undo_log.proofs.LogViews.{no_entries, open_group, pushed_at}
use Rattle.undo_log.proofs.log.UndoLog.push.Goals as goal

pub push_entry-requires-clause-none : goal.push_entry-requires-clause-none
push_entry-requires-clause-none c = no_entries c.self.inside.steps.redo (subst (λ (l : LogState). l.lists.redo ≡ []) (sym c.self.view_is) c.requires.none)

pub returns : goal.returns
returns c =
    let s = c.self.inside.steps in let t = c.push_entry.new.self in let group = open_group c.self.inside.group in
    let closed : group ≡ None = subst (λ (l : LogState). l.lists.group ≡ None) (sym c.self.view_is) c.requires.closed in
    let none = subst (λ (l : LogState). l.lists.redo ≡ []) (sym c.self.view_is) c.requires.none in
    c.keep_limit.ensures
    ∙ pushed_at group c.self.inside.marks c.self.inside.limit s.undo s.redo t.undo t.redo c.args.entry c.self.inside.last closed none c.self.invariant.0 c.push_entry.ensures.undo c.push_entry.ensures.redo
    ∙ ap (pushed_log c.args.entry) c.self.view_is
