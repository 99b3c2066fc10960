use Rattle.std.proofs.Common.{ap, sym, ◌∙◌}
use Rattle.geos_model.specs.Machine.{first_name}
use Rattle.undo_log.specs.Asking.{direction_of, turn_fault}
use Rattle.undo_log.specs.Logging.{next_names}
use Rattle.undo_log.specs.Sessions.{SessionState}
use Rattle.chunk_edits.specs.declared.direction.Direction.{Direction}
use Rattle.undo_log.proofs.Asking.{name_held, name_told}
use Rattle.undo_log.proofs.session.Session.step_name.Goals as goal

pub returns-in-Some : goal.returns-in-Some
returns-in-Some g c = λ target.
    name_held c.args.self.now target c.args.asked c.in-Some.fault (ap (λ (d : Direction). turn_fault d c.args.self.now.log) (sym c.direction_of-direction.ensures) ∙ sym c.in-Some.ensures)

pub returns-in-None : goal.returns-in-None
returns-in-None g c = λ target.
    name_told c.args.self.now target c.args.asked c.next_name.result.now
    (ap (λ (d : Direction). turn_fault d c.args.self.now.log) (sym c.direction_of-direction.ensures) ∙ sym c.in-None.ensures)
    (c.next_name.ensures
    ∙ ap (λ (d : Direction). first_name (next_names d c.self.inside.log.lists)) c.direction_of-direction.ensures
    ∙ ap (λ (s : SessionState g.row.S.Denot). first_name (next_names (direction_of c.args.asked) s.log)) c.self.view_is)
