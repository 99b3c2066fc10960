use Rattle.std.proofs.Common.{Some, sym, ap}
use Rattle.geos_model.specs.Reply.{AreEqual}
use Rattle.geos_model.specs.declared.command.Command.TheVariants as commands
use Rattle.doc_edits.proofs.LookUps.{refused_along, seen_along}
use Rattle.doc_edits.proofs.look_ups.chain_equal.Goals as goal

pub returns-in_err-test_chains : goal.returns-in_err-test_chains
returns-in_err-test_chains g c =
    let early = c.in_err-test_chains.ensures in
    refused_along g.S.Store.facts (commands.ChainEqual c.args.first c.args.second) AreEqual (λ x fault e. cc e) c.from_residual.result c.args.blocks.now c.in_err-test_chains.field-0.0 c.from_residual.ensures.1 early.value early.refusals

pub returns : goal.returns
returns g c =
    let did = c.equal.ensures in
    seen_along g.S.Store.facts (commands.ChainEqual c.args.first c.args.second) AreEqual (λ x fault e. cc e) c.equal.result c.args.blocks.now c.equal.new.blocks _ c.in_ok-test_chains.ensures.value did.keeps
    (λ same is. ap (λ e. Some (AreEqual e)) (sym is)) did.value did.refusals
