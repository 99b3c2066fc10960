use Rattle.std.proofs.Common.{arith, sym, ◌∙◌}
use Rattle.doc_edits.proofs.BlockPlans.{user_id_planned}
use Rattle.doc_edits.proofs.block_plans.plan_set_user_id.Goals as goal

pub returns : goal.returns
returns g c =
    user_id_planned c.args.blocks.now.document c.args.handle c.attributes-old.result (sym c.is_live.ensures ∙ c.if-not-is_live.false) c.attributes-old.ensures.value c.args.user_id c.attributes-old.ensures.typed
    (record { user_id = omega arith; heap_type = omega arith })
