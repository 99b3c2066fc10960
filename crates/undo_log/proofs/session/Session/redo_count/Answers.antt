use Rattle.std.proofs.Common.{◌∙◌, sym, ap, length}
use Rattle.chunk_edits.specs.declared.direction.Direction.TheVariants.{Forwards}
use Rattle.undo_log.specs.Sessions.{SessionState, machine_of}
use Rattle.undo_log.proofs.Lists.{length-steps}
use Rattle.undo_log.proofs.session.Session.redo_count.Goals as goal

pub returns-clause-future : goal.returns-clause-future
returns-clause-future g c = λ target.
    c.redo_count.ensures ∙ sym (length-steps Forwards c.self.inside.log.lists.redo _) ∙ ap (λ (s : SessionState g.row.S.Denot). length (machine_of target s).future) c.self.view_is
