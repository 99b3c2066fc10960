use Rattle.std.proofs.Common.{refl, ap, ◌∙◌}
use Rattle.std.proofs.lemmas.List.{get_or_read}
use Rattle.document_file.specs.declared.member.Member.{Member}
use Rattle.doc_edits.proofs.ChainPlans.{chain_seen, copy_planned, first_copy, plan_given, plan_missed, plan_refused}
use Rattle.doc_edits.proofs.chain_plans.plan_copy_chain.Goals as goal

pub returns-in_err-test_chain : goal.returns-in_err-test_chain
returns-in_err-test_chain g c =
    plan_refused c.from_residual.ensures.1 c.args.root _ refl refl c.in_err-test_chain.ensures.value

pub returns-in_err-copies : goal.returns-in_err-copies
returns-in_err-copies g c =
    let did = c.in_err-copies.ensures in
    plan_missed c.from_residual-in_err-copies.ensures.1 c.in_ok-test_chain.ensures.value (chain_seen c.args.root c.args.blocks.now.document c.in_ok-test_chain.ensures.raw).0 c.copy_plan.ensures.keeps did.value did.refusals

pub returns : goal.returns
returns g c =
    let copies = c.in_ok-copies.copies in let did = c.in_ok-copies.ensures in
    let first : Member = c.index.result.now in
    plan_given c.in_ok-test_chain.ensures.value (chain_seen c.args.root c.args.blocks.now.document c.in_ok-test_chain.ensures.raw).0 c.copy_plan.ensures.keeps
    (λ steady.
    let planned = did.value steady in
    copy_planned _ c.args.root copies first.handle planned.0 planned.1 did.applies
    (ap (λ (m : Member). m.handle.0) (get_or_read copies.list.items 0 _ did.some c.index.ensures first) ∙ first_copy _ c.args.root copies first did.some planned.0 planned.1))
    (record { listed = did.applies; takes = tt; in_memory = tt }) refl
