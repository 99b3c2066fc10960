use Rattle.std.proofs.Common.{◌≡◌, rules, to_z, of_z, w32}
use Rattle.geos_model.specs.LookUps.{places_look_up}
use Rattle.geos_c.specs.Places.{ReadsPlaces}
use Rattle.geos_c.specs.Stores.{facts}
use Rattle.geos_c.proofs.HandleCalls.{handed_out}
use Rattle.geos_c.proofs.exports.places.window.Goals as goal

pub returns-in-Some : goal.returns-in-Some
returns-in-Some c =
    let code : to_z w32 (of_z w32 c.places-code.result) ≡ c.places-code.result = search rules in
    handed_out _ _ _ _ _ _ _ c.in-Some.ensures.was_open c.deref_mut.ensures.value c.put.ensures code
    (ReadsPlaces facts (places_look_up c.args.asked) c.args.first) _ _ _ c.places-code.ensures
