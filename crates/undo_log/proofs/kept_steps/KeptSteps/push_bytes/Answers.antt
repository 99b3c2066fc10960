use Rattle.std.proofs.Common.{ap, ◌∙◌}
use Rattle.undo_log.specs.Steps.{Steps}
use Rattle.undo_log.proofs.Entries.{none_of}
use Rattle.undo_log.proofs.kept_steps.KeptSteps.push_bytes.Goals as goal

pub push_short_bytes-requires-clause-none : goal.push_short_bytes-requires-clause-none
push_short_bytes-requires-clause-none c = none_of c.self.inside.log.behind (ap (λ (s : Steps). s.redo) c.self.view_is ∙ c.requires.none)
