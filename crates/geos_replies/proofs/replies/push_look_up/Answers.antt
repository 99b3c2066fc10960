use Rattle.geos_model.specs.Reply.{reply_by, reply_of}
use Rattle.geos_replies.proofs.Replying.{answered_stays, told_answer}
use Rattle.geos_replies.proofs.replies.push_look_up.Goals as goal

pub returns-clause-told : goal.returns-clause-told
returns-clause-told g c =
    told_answer g.S.Store.facts c.push_reply.result c.args.session.now c.look_up.follows.lender-at-none (reply_by reply_of c.look_up.result) _ _ c.args.look_up c.look_up.follows.holds-at-none c.push_reply.ensures.ok

pub returns-clause-stays : goal.returns-clause-stays
returns-clause-stays g c =
    answered_stays g.S.Store.facts c.args.session.now c.look_up.follows.lender-at-none (reply_by reply_of c.look_up.result) c.args.look_up c.look_up.follows.holds-at-none
