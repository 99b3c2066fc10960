use Rattle.std.proofs.Common.{◌∷◌, [], ℕ, Some, refl, sym, ap}
use Rattle.std.proofs.lemmas.Result.{IfErr-weaker}
use Rattle.geos_model.specs.Reply.{NumberIs}
use Rattle.geos_model.specs.declared.command.Command.TheVariants as commands
use Rattle.geos_model.specs.declared.fault.Fault.TheVariants.{NotArray}
use Rattle.vm_blocks.specs.Keeping.{IsEnvironmentFault}
use Rattle.doc_edits.proofs.LargeLookUps.{array_refused, array_seen, root_why}
use Rattle.doc_edits.proofs.look_ups.large_count.Goals as goal

pub returns-in_err-test_chain : goal.returns-in_err-test_chain
returns-in_err-test_chain g c =
    let early = c.in_err-test_chain.ensures in
    array_refused g.S.Store.facts (commands.LargeCount c.args.root) NumberIs (λ x fault e. cc e) c.args.blocks.now (NotArray ∷ []) c.args.root.0 c.from_residual.result c.in_err-test_chain.field-0.0 c.from_residual.ensures.1 (λ d. (_, refl, refl)) early.value early.refusals refl

pub returns : goal.returns
returns g c =
    let a = c.args.blocks.now in let b = c.count.new.blocks in let did = c.count.ensures in let lacks = IsEnvironmentFault g.S.Store.facts a.disk.store b.disk.store in let faults = NotArray ∷ [] in
    array_seen g.S.Store.facts (commands.LargeCount c.args.root) NumberIs (λ x fault e. cc e) a faults c.args.root.0 b _ c.count.result c.in_ok-test_chain.ensures.value did.keeps
    (λ n is. ap (λ (x : ℕ). Some (NumberIs x)) (sym is)) (λ honest. did.value) (IfErr-weaker c.count.result _ _ (root_why lacks a.document c.args.root.0 faults refl) did.refusals) refl
