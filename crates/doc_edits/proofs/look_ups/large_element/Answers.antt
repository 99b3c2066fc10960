use Rattle.std.proofs.Common.{◌∷◌, [], ℕ, List, Some, refl, sym, ap}
use Rattle.std.proofs.lemmas.Result.{IfErr-weaker}
use Rattle.geos_model.specs.Reply.{BytesAre}
use Rattle.geos_model.specs.declared.command.Command.TheVariants as commands
use Rattle.geos_model.specs.declared.fault.Fault.TheVariants.{NotArray, NoElement}
use Rattle.vm_blocks.specs.Keeping.{IsEnvironmentFault}
use Rattle.large_arrays.specs.LargeLookUps.{placed_bytes}
use Rattle.doc_edits.proofs.LargeLookUps.{array_refused, array_seen, element_why}
use Rattle.doc_edits.proofs.look_ups.large_element.Goals as goal

pub returns-in_err-test_chain-clause-answers : goal.returns-in_err-test_chain-clause-answers
returns-in_err-test_chain-clause-answers g c =
    let early = c.in_err-test_chain.ensures in
    array_refused g.S.Store.facts (commands.LargeElement c.args.root c.args.i) (λ place. BytesAre (placed_bytes c.args.blocks.now.document place)) (λ x fault e. cc e) c.args.blocks.now (NotArray ∷ NoElement ∷ []) c.args.root.0 c.from_residual.result c.in_err-test_chain.field-0.0 c.from_residual.ensures.1 (λ d. (_, refl, refl)) early.value early.refusals refl

pub returns-clause-answers : goal.returns-clause-answers
returns-clause-answers g c =
    let a = c.args.blocks.now in let b = c.prepare_element.new.blocks in let did = c.prepare_element.ensures in let lacks = IsEnvironmentFault g.S.Store.facts a.disk.store b.disk.store in let faults = NotArray ∷ NoElement ∷ [] in
    array_seen g.S.Store.facts (commands.LargeElement c.args.root c.args.i) (λ place. BytesAre (placed_bytes c.prepare_element.new.blocks.document place)) (λ x fault e. cc e) a faults c.args.root.0 b _ c.prepare_element.result c.in_ok-test_chain.ensures.value did.keeps
    (λ place is. ap (λ (x : List ℕ). Some (BytesAre x)) (sym is)) (did.value) (IfErr-weaker c.prepare_element.result _ _ (element_why lacks a.document c.args.root.0 faults refl refl) did.refusals) refl
