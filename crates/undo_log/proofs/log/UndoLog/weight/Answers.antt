use Rattle.std.proofs.Common.{◌+◌, ◌-◌, ◌^◌, min, sym, ap, ◌∙◌}
use Rattle.undo_log.specs.Logging.{LogState, open_changes, to_redo, to_undo, total_weight}
use Rattle.undo_log.proofs.LogViews.{open_group}
use Rattle.undo_log.proofs.Weights.{log_weighs}
use Rattle.undo_log.proofs.log.UndoLog.weight.Goals as goal

pub returns : goal.returns
returns c =
    let group = c.group_weight.ensures ∙ ap (λ (l : LogState). min (total_weight (open_changes l.lists.group)) (2 ^ 64 - 1)) (sym c.self.view_is) in
    log_weighs c.self.inside.steps.undo c.self.inside.steps.redo (open_changes (open_group c.self.inside.group)) c.saturating_add.result c.group_weight.result c.weight.result c.saturating_add.ensures group c.weight.ensures
    ∙ ap (λ (l : LogState). min (total_weight (to_undo l.lists) + total_weight (to_redo l.lists)) (2 ^ 64 - 1)) c.self.view_is
