use Rattle.std.proofs.Common.{◌≡◌, ◌<◌, List, length, map, rules}
use Rattle.std.proofs.lemmas.List.{length-map}
use Rattle.geos_c.specs.Places.{told_place}
use Rattle.geos_model.specs.declared.place.Place.TheVariants.{All}
use Rattle.geos_c.specs.declared.places.ToldPlace.{ToldPlace}
use Rattle.geos_c.proofs.Windows.{put_next}
use Rattle.geos_c.proofs.places.put_places.Goals as goal

pub loop-i-preserved : goal.loop-i-preserved
loop-i-preserved c =
    let window : List ToldPlace = map told_place c.args.places.now in
    let as_many : length window ≡ length c.args.places.now = length-map c.args.places.now told_place in
    let within : c.loop-i.i < length window = search (rules, as_many) in
    let fits : c.loop-i.i < length c.args.buffer.now = search rules in
    let next = put_next window c.args.buffer.now c.loop-i.i (told_place All) within fits in
    cc (next, c.loop-i.invariant, c.told_at.ensures)
