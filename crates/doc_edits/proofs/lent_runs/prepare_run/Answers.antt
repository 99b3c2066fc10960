use Rattle.doc_edits.proofs.LentRuns.{run_found, run_refused}
use Rattle.doc_edits.proofs.lent_runs.prepare_run.Goals as goal

pub returns-in_err-test_chain : goal.returns-in_err-test_chain
returns-in_err-test_chain g c =
    let early = c.in_err-test_chain.ensures in
    run_refused g.S.Store.facts c.args.blocks.now c.args.root.0 c.args.i c.from_residual.result c.in_err-test_chain.field-0.0 c.from_residual.ensures.1 early.value early.refusals

pub returns : goal.returns
returns g c =
    let chain = c.in_ok-test_chain.ensures in let did = c.find_run.ensures in
    run_found g.S.Store.facts c.args.blocks.now c.args.root.0 c.args.i c.find_run.result c.find_run.new.blocks chain.value chain.raw did.keeps did.value did.ready did.refusals
