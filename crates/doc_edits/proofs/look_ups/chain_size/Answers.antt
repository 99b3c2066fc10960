use Rattle.std.proofs.Common.{Some, refl, sym, ap}
use Rattle.geos_model.specs.Reply.{NumberIs, look_up_conditions}
use Rattle.geos_model.specs.declared.command.Command.TheVariants as commands
use Rattle.doc_edits.proofs.LookUps.{refused_along, seen_along}
use Rattle.doc_edits.proofs.RoomLemmas.{begun_refused}
use Rattle.doc_edits.proofs.look_ups.chain_size.Goals as goal

pub returns-in_err-test_chain : goal.returns-in_err-test_chain
returns-in_err-test_chain g c =
    let early = c.in_err-test_chain.ensures in
    refused_along g.S.Store.facts (commands.ChainSize c.args.root) NumberIs (λ x fault e. cc e) c.from_residual.result c.args.blocks.now c.in_err-test_chain.field-0.0 c.from_residual.ensures.1 (begun_refused c.args.root.0 (look_up_conditions (commands.ChainSize c.args.root)) (λ d. (_, refl, refl)) _ _ _ early.value) early.refusals

pub returns : goal.returns
returns g c =
    let did = c.size.ensures in
    seen_along g.S.Store.facts (commands.ChainSize c.args.root) NumberIs (λ x fault e. cc e) c.size.result c.args.blocks.now c.size.new.blocks _ c.in_ok-test_chain.ensures.value did.keeps
    (λ n is. ap (λ k. Some (NumberIs k)) (sym is)) did.value did.refusals
