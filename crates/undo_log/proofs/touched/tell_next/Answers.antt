use Rattle.std.proofs.Common.{◌≢◌, ◌++◌, [], ℕ, List, length, reverse, take, ap, sym, ◌∙◌, append_assoc}
use Rattle.std.proofs.lemmas.List.{length_push}
use Rattle.std.proofs.lemmas.Iterator.Adapters.{YieldsList-from_rev_slice}
use Rattle.std.proofs.lemmas.Iterator.Consumers.{YieldsList-turn}
use Rattle.geos_model.specs.declared.place.Place.{Place}
use Rattle.vm_blocks.specs.ChangePlaces.{directed_places}
use Rattle.undo_log.specs.Telling.{all_places}
use Rattle.undo_log.proofs.Telling.{if_err, places_more, places_there}
use Rattle.undo_log.proofs.touched.tell_next.Goals as goal

pub loop-change-preserved : goal.loop-change-preserved
loop-change-preserved c =
    let l = c.loop-change in
    let cs = reverse c.args.changes.now in
    let n = length l.yielded in
    let t = YieldsList-turn (YieldsList-from_rev_slice c.args.changes.now cc) l.yielded _ l.yielded_by _ _ c.in-Some.change c.in-Some.is c.next.ensures.steps in
    c.in_ok-append_places.ensures.ok
    ∙ ap (λ (ps : List Place). ps ++ directed_places c.args.direction c.in-Some.change.now) l.invariant
    ∙ append_assoc c.args.places.now.items (all_places c.args.direction (take n cs)) (directed_places c.args.direction c.in-Some.change.now)
    ∙ ap (λ (ps : List Place). c.args.places.now.items ++ ps) (sym (places_more c.args.direction cs n c.in-Some.change.now t.0 t.1))
    ∙ ap (λ (k : ℕ). c.args.places.now.items ++ all_places c.args.direction (take k cs)) (sym (length_push l.yielded c.in-Some.change))

pub returns-in_err-append_places-clause-err : goal.returns-in_err-append_places-clause-err
returns-in_err-append_places-clause-err c =
    let l = c.loop-change in
    let t = YieldsList-turn (YieldsList-from_rev_slice c.args.changes.now cc) l.yielded _ l.yielded_by _ _ c.in-Some.change c.in-Some.is c.next.ensures.steps in
    if_err c.from_residual.result (all_places c.args.direction (reverse c.args.changes.now) ≢ [])
    (places_there c.args.direction (reverse c.args.changes.now) (length l.yielded) c.in-Some.change.now t.0 t.1 c.in_err-append_places.ensures.err)
