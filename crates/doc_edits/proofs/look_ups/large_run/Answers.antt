use Rattle.std.proofs.Common.{◌∷◌, [], ℕ, List, Some, refl, sym, ap}
use Rattle.std.proofs.lemmas.Result.{IfErr-weaker}
use Rattle.geos_model.specs.Reply.{BytesAre}
use Rattle.geos_model.specs.declared.command.Command.TheVariants as commands
use Rattle.geos_model.specs.declared.fault.Fault.TheVariants.{NotArray, NoElement, Range}
use Rattle.vm_blocks.specs.Keeping.{IsEnvironmentFault}
use Rattle.doc_edits.proofs.LargeLookUps.{array_refused, array_seen, run_why}
use Rattle.doc_edits.proofs.look_ups.large_run.Goals as goal

pub returns-in_err-test_chain : goal.returns-in_err-test_chain
returns-in_err-test_chain g c =
    let early = c.in_err-test_chain.ensures in
    array_refused g.S.Store.facts (commands.LargeRun c.args.root c.args.i c.args.n) (λ bytes. BytesAre bytes.items) (λ x fault e. cc e) c.args.blocks.now (NotArray ∷ NoElement ∷ Range ∷ []) c.args.root.0 c.from_residual.result c.in_err-test_chain.field-0.0 c.from_residual.ensures.1 (λ d. (_, refl, refl)) early.value early.refusals refl

pub returns : goal.returns
returns g c =
    let a = c.args.blocks.now in let b = c.read_run.new.blocks in let did = c.read_run.ensures in let lacks = IsEnvironmentFault g.S.Store.facts a.disk.store b.disk.store in let faults = NotArray ∷ NoElement ∷ Range ∷ [] in
    array_seen g.S.Store.facts (commands.LargeRun c.args.root c.args.i c.args.n) (λ bytes. BytesAre bytes.items) (λ x fault e. cc e) a faults c.args.root.0 b _ c.read_run.result c.in_ok-test_chain.ensures.value did.keeps
    (λ bytes is. ap (λ (x : List ℕ). Some (BytesAre x)) (sym is)) (did.value) (IfErr-weaker c.read_run.result _ _ (run_why lacks a.document c.args.root.0 faults refl refl refl) did.refusals) refl
