use Rattle.std.proofs.Common.{refl, rules}
use Rattle.geos_model.specs.Reply.{PlacesAre, reply_by}
use Rattle.geos_model.specs.declared.look_up.LookUp.TheVariants as look_ups
use Rattle.geos_c.proofs.look_ups.places.Goals as goal

pub returns : goal.returns
returns g c =
    (look_ups.Places c.args.asked, refl, reply_by (λ places. PlacesAre places.items) c.places.result, (c.places.ensures, refl), search rules)
