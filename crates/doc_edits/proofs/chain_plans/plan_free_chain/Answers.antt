use Rattle.std.proofs.Common.{refl}
use Rattle.doc_edits.proofs.ChainPlans.{chain_seen, free_planned, plan_given, plan_missed, plan_refused}
use Rattle.doc_edits.proofs.chain_plans.plan_free_chain.Goals as goal

pub returns-in_err-test_chain : goal.returns-in_err-test_chain
returns-in_err-test_chain g c =
    plan_refused c.from_residual.ensures.1 c.args.root _ refl refl c.in_err-test_chain.ensures.value

pub returns-in_err-chain : goal.returns-in_err-chain
returns-in_err-chain g c =
    let did = c.in_err-chain.ensures in
    plan_missed c.from_residual-in_err-chain.ensures.1 c.in_ok-test_chain.ensures.value (chain_seen c.args.root c.args.blocks.now.document c.in_ok-test_chain.ensures.raw).1 c.free_plan.ensures.keeps did.value did.refusals

pub returns : goal.returns
returns g c =
    let did = c.in_ok-chain.ensures in
    plan_given c.in_ok-test_chain.ensures.value (chain_seen c.args.root c.args.blocks.now.document c.in_ok-test_chain.ensures.raw).1 c.free_plan.ensures.keeps
    (λ steady. let planned = did.value steady in free_planned _ c.args.root c.in_ok-chain.chain planned.0 planned.1 (did.applies steady))
    (record { listed = did.handles; takes = tt; in_memory = tt }) refl
