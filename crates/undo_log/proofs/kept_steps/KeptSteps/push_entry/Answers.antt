use Rattle.std.proofs.Common.{ap, ◌∙◌}
use Rattle.undo_log.specs.Steps.{Steps}
use Rattle.undo_log.proofs.Entries.{none_of}
use Rattle.undo_log.proofs.kept_steps.KeptSteps.push_entry.Goals as goal

pub push_whole-requires-clause-none : goal.push_whole-requires-clause-none
push_whole-requires-clause-none c = none_of c.self.inside.log.behind (ap (λ (s : Steps). s.redo) c.self.view_is ∙ c.requires.none)
