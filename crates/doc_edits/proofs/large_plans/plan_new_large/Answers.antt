use Rattle.doc_edits.proofs.LargePlans.{creation_planned}
use Rattle.doc_edits.proofs.large_plans.plan_new_large.Goals as goal

pub returns : goal.returns
returns g c = creation_planned c.args.blocks.now.document c.args.user_id c.args.size c.in_ok-change.change c.in_ok-change.root c.in_ok-change.ensures
