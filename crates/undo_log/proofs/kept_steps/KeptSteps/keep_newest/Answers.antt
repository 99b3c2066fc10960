use Rattle.std.proofs.Common.{take, ap, ◌∙◌}
use Rattle.undo_log.specs.Steps.{Steps, entries_of}
use Rattle.undo_log.proofs.Entries.{taken}
use Rattle.undo_log.proofs.kept_steps.KeptSteps.keep_newest.Goals as goal

pub returns-clause-undo : goal.returns-clause-undo
returns-clause-undo c = ap entries_of c.forget_oldest.ensures.before ∙ taken c.args.most c.self.inside.log.before ∙ ap (λ (s : Steps). take c.args.most s.undo) c.self.view_is
