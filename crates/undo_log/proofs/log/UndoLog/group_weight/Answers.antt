use Rattle.std.proofs.Common.{◌≡◌, ◌-◌, ◌^◌, List, min, reverse, sym, subst, ap, ◌∙◌}
use Rattle.std.specs.Option.{option_map}
use Rattle.undo_log.specs.Logging.{LogState, open_changes, total_weight}
use Rattle.vm_blocks.specs.declared.change.Change.{Change}
use Rattle.undo_log.proofs.Weights.{weight-reverse}
use Rattle.undo_log.proofs.log.UndoLog.group_weight.Goals as goal

pub returns-in-Some : goal.returns-in-Some
returns-in-Some c =
    subst (λ (l : LogState). c.total_weight.result ≡ min (total_weight (open_changes l.lists.group)) (2 ^ 64 - 1)) c.self.view_is
    (subst (λ o. c.total_weight.result ≡ min (total_weight (open_changes (option_map (λ changes. reverse changes.items) o))) (2 ^ 64 - 1)) (sym c.in-Some.is)
    (c.total_weight.ensures ∙ ap (λ (cs : List Change). min (total_weight cs) (2 ^ 64 - 1)) c.as_slice.ensures.value ∙ ap (λ n. min n (2 ^ 64 - 1)) (sym (weight-reverse c.in-Some.changes.items))))
