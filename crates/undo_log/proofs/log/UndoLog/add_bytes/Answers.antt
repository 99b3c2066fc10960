use Rattle.std.proofs.Common.{◌≡◌, [], None, sym, ap, subst, ◌∙◌}
use Rattle.undo_log.specs.Logging.{LogState, with_change}
use Rattle.vm_blocks.specs.ByteChanges.{byte_change}
use Rattle.undo_log.proofs.LogViews.{added_at, log_at, no_entries, open_group}
use Rattle.undo_log.proofs.log.UndoLog.add_bytes.Goals as goal

pub push_bytes-requires-clause-none : goal.push_bytes-requires-clause-none
push_bytes-requires-clause-none c = no_entries c.self.inside.steps.redo (subst (λ (l : LogState). l.lists.redo ≡ []) (sym c.self.view_is) c.requires.takes.none)

pub returns-in-Ok : goal.returns-in-Ok
returns-in-Ok c =
    let s = c.self.inside.steps in let t = c.push_bytes.new.self in let group = open_group c.self.inside.group in
    let closed : group ≡ None = subst (λ (l : LogState). l.lists.group ≡ None) (sym c.self.view_is) c.requires.takes.closed in
    let none = subst (λ (l : LogState). l.lists.redo ≡ []) (sym c.self.view_is) c.requires.takes.none in
    c.keep_limit.ensures
    ∙ added_at group c.self.inside.marks c.self.inside.limit s.undo s.redo t.undo t.redo (byte_change c.args.change) c.self.inside.last c.be_newest.new.self closed none c.self.invariant.0 c.in-Ok.ensures.undo c.push_bytes.ensures.redo c.be_newest.ensures
    ∙ ap (λ (l : LogState). with_change (byte_change c.args.change) l.lists) c.self.view_is

pub returns-in-Err : goal.returns-in-Err
returns-in-Err c =
    let s = c.self.inside.steps in let t = c.push_bytes.new.self in let group = open_group c.self.inside.group in
    let none : s.redo ≡ [] = no_entries s.redo (subst (λ (l : LogState). l.lists.redo ≡ []) (sym c.self.view_is) c.requires.takes.none) in
    let same : t.redo ≡ s.redo = c.push_bytes.ensures.redo ∙ sym none in
    (λ i. log_at (c.in-Err.ensures.undo i) (same i) group c.self.inside.marks c.self.inside.last c.self.inside.limit)
    ∙ ap (λ (l : LogState). l.lists) c.self.view_is
