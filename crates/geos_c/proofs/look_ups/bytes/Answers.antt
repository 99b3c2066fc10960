use Rattle.std.proofs.Common.{rules}
use Rattle.geos_model.specs.Forms as forms
use Rattle.geos_model.specs.Reply.{reply_by, reply_of}
use Rattle.geos_c.proofs.LookUps.{is_seen, seen_as, told_form}
use Rattle.geos_c.proofs.look_ups.bytes.Goals as goal

pub unwrap-look_up-requires : goal.unwrap-look_up-requires
unwrap-look_up-requires g c = is_seen c.args.asked.now c.look_up.result c.look_up.ensures forms.Bytes c.requires (λ is. cc is)

pub tell_bytes-requires : goal.tell_bytes-requires
tell_bytes-requires g c = told_form c.args.asked.now c.look_up.result c.look_up.ensures forms.Bytes c.requires c.unwrap-look_up.result c.unwrap-look_up.ensures _ c.look_up-2.ensures.form

pub returns : goal.returns
returns g c = (c.unwrap-look_up.result, seen_as c.args.asked.now c.look_up.result c.look_up.ensures c.unwrap-look_up.result c.unwrap-look_up.ensures, reply_by reply_of c.look_up-2.result, c.look_up-2.follows.holds-at-none, search rules)
