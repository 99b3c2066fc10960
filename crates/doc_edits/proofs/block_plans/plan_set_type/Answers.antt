use Rattle.std.proofs.Common.{arith, sym, ◌∙◌}
use Rattle.doc_edits.proofs.BlockPlans.{type_planned}
use Rattle.doc_edits.proofs.block_plans.plan_set_type.Goals as goal

pub returns : goal.returns
returns g c =
    type_planned c.args.blocks.now.document c.args.handle c.attributes-old.result (sym c.is_live.ensures ∙ c.if-not-is_live.false) c.attributes-old.ensures.value c.args.heap_type (sym c.is_heap.ensures ∙ c.if-not-is_heap.false)
    (record { user_id = omega arith; heap_type = omega arith })
