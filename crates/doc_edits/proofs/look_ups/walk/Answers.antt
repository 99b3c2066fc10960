use Rattle.std.proofs.Common.{refl}
use Rattle.geos_model.specs.Reply.{blocks_are, look_up_conditions}
use Rattle.geos_model.specs.declared.command.Command.TheVariants as commands
use Rattle.doc_edits.proofs.LookUps.{refused_along, seen_along}
use Rattle.doc_edits.proofs.RoomLemmas.{begun_refused}
use Rattle.doc_edits.proofs.look_ups.walk.Goals as goal

pub returns-in_err-test_chain : goal.returns-in_err-test_chain
returns-in_err-test_chain g c =
    let early = c.in_err-test_chain.ensures in
    refused_along g.S.Store.facts (commands.Walk c.args.root) (λ handles. blocks_are handles.items) (λ x fault e. cc e) c.from_residual.result c.args.blocks.now c.in_err-test_chain.field-0.0 c.from_residual.ensures.1 (begun_refused c.args.root.0 (look_up_conditions (commands.Walk c.args.root)) (λ d. (_, refl, refl)) _ _ _ early.value) early.refusals

pub returns : goal.returns
returns g c =
    let did = c.walk.ensures in
    seen_along g.S.Store.facts (commands.Walk c.args.root) (λ handles. blocks_are handles.items) (λ x fault e. cc e) c.walk.result c.args.blocks.now c.walk.new.blocks _ c.in_ok-test_chain.ensures.value did.keeps
    (λ handles is. rw is refl) did.value did.refusals
