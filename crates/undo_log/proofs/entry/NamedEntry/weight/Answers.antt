use Rattle.std.proofs.Common.{◌-◌, ◌^◌, List, min, sym, ap, ◌∙◌}
use Rattle.undo_log.specs.Logging.{total_weight}
use Rattle.vm_blocks.specs.declared.change.Change.{Change}
use Rattle.undo_log.proofs.Weights.{weight-reverse}
use Rattle.undo_log.proofs.entry.NamedEntry.weight.Goals as goal

pub returns : goal.returns
returns c =
    c.total_weight.ensures
    ∙ ap (λ n. min n (2 ^ 64 - 1)) (sym (weight-reverse c.as_slice.result.now))
    ∙ ap (λ (cs : List Change). min (total_weight cs) (2 ^ 64 - 1)) c.as_slice.ensures
