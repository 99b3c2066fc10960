use Rattle.std.proofs.Common.{◌+◌, ◌-◌, ◌^◌, min, ap, ◌∙◌}
use Rattle.std.specs.List.{sum_by}
use Rattle.undo_log.specs.Entries.{NamedEntry}
use Rattle.undo_log.specs.Logging.{entry_weight}
use Rattle.undo_log.specs.Steps.{Steps}
use Rattle.undo_log.proofs.Entries.{log_weighs}
use Rattle.undo_log.proofs.kept_steps.KeptSteps.weight.Goals as goal

pub returns : goal.returns
returns c =
    let values = c.entries_weight.ensures ∙ ap (λ es. min (sum_by (λ (e : NamedEntry). entry_weight e.entry) es) (2 ^ 64 - 1)) c.wholes.ensures in
    log_weighs c.self.inside.log.before c.self.inside.log.behind c.short_bytes.result c.entries_weight.result c.saturating_add.result values c.short_bytes.ensures c.saturating_add.ensures
    ∙ ap (λ (s : Steps). min (sum_by (λ (e : NamedEntry). entry_weight e.entry) s.undo + sum_by (λ (e : NamedEntry). entry_weight e.entry) s.redo) (2 ^ 64 - 1)) c.self.view_is
