use Rattle.std.proofs.Common.{◌≡◌, ◌++◌, codes, flat_map, take}
use Rattle.geos_model.specs.Script.{place_text}
use Rattle.geos_script.proofs.replies.push_places.Given as goal

abbrev pub invariant-loop-place : goal.invariant-loop-place
invariant-loop-place l = l.out.items ≡ l.fn.out.items ++ (codes "places" ++ flat_map place_text (take l.place-index l.places))
