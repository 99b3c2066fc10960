use Rattle.std.proofs.Common.{◌∙◌, sym, ap, length}
use Rattle.chunk_edits.specs.declared.direction.Direction.TheVariants.{Backwards}
use Rattle.undo_log.specs.Sessions.{SessionState, machine_of}
use Rattle.undo_log.proofs.Lists.{length-steps}
use Rattle.undo_log.proofs.session.Session.undo_count.Goals as goal

pub returns-clause-past : goal.returns-clause-past
returns-clause-past g c = λ target.
    c.undo_count.ensures ∙ sym (length-steps Backwards c.self.inside.log.lists.undo _) ∙ ap (λ (s : SessionState g.row.S.Denot). length (machine_of target s).past) c.self.view_is
