use Rattle.std.proofs.Common.{◌≢◌, ◌++◌, [], false, Err, List, Vec, Global, ap, subst, sym, ◌∙◌}
use Rattle.std.specs.Prelude.{Result, Some}
use Rattle.std.proofs.lemmas.Result.{err_from_is_err_and}
use Rattle.geos_model.specs.LookUps.{places_look_up}
use Rattle.geos_model.specs.Machine.{Step}
use Rattle.geos_model.specs.Reply.{PlacesAre, reply_by}
use Rattle.geos_model.specs.declared.fault.Fault.{Fault}
use Rattle.geos_model.specs.declared.place.Place.{Place}
use Rattle.undo_log.specs.Asking.{asked_places}
use Rattle.undo_log.specs.Sessions.{SessionState, machine_of}
use Rattle.undo_log.proofs.Asking.{places_held, places_lack, places_told}
use Rattle.undo_log.proofs.session.Session.places.Goals as goal

pub returns-in-Some : goal.returns-in-Some
returns-in-Some g c = λ target. places_held c.args.self.now target c.args.asked c.in-Some.fault (sym c.in-Some.ensures)

pub returns-in_err-tell : goal.returns-in_err-tell
returns-in_err-tell g c = λ target.
    let s = c.args.self.now in
    let p = err_from_is_err_and c.from_residual.result c.from_residual.ensures.1 in
    subst (λ (r : Result (Vec Place Global) Fault). Step false (machine_of target s) (Some (places_look_up c.args.asked)) (reply_by (λ places. PlacesAre places.items) r) (machine_of target s))
    (sym (p.1 ∙ ap Err p.2))
    (places_lack s target c.args.asked (sym c.in_default.ensures)
    (subst (λ (x : SessionState g.row.S.Denot). asked_places c.args.asked x.log ≢ []) c.self.view_is c.in_err-tell.ensures.err))

pub returns : goal.returns
returns g c = λ target.
    places_told c.args.self.now target c.args.asked c.tell.new.places.items (sym c.in_default.ensures)
    (c.in_ok-tell.ensures.ok
    ∙ ap (λ (ps : List Place). ps ++ asked_places c.args.asked c.self.inside.log.lists) c.new-places.ensures.items
    ∙ ap (λ (x : SessionState g.row.S.Denot). asked_places c.args.asked x.log) c.self.view_is)
