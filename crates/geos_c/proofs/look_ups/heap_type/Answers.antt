use Rattle.std.proofs.Common.{refl, rules}
use Rattle.geos_model.specs.Reply.{NumberIs, reply_by}
use Rattle.geos_model.specs.declared.look_up.LookUp.TheVariants as look_ups
use Rattle.geos_model.specs.declared.look_up.PlainLookUp.TheVariants as plain_look_ups
use Rattle.geos_c.proofs.look_ups.heap_type.Goals as goal

pub returns : goal.returns
returns g c = (look_ups.Plain (plain_look_ups.HeapType c.args.block), refl, reply_by NumberIs c.heap_type.result, (c.heap_type.ensures, refl), search rules)
