use Rattle.std.proofs.Common.{◌∷◌, ◌∙◌, [], ℕ, List, sym, ap, subst}
use Rattle.geos_model.specs.declared.fault.Fault.TheVariants.{Memory}
use Rattle.vm_blocks.proofs.KeepingLaws.{lacks-memory}
use Rattle.vm_chains.specs.Numbers.{numbers}
use Rattle.vm_chains.proofs.Loading.{carried_so}
use Rattle.geos_model.specs.LargeLayout.{Root, root_bytes}
use Rattle.large_arrays.specs.ChangePlans.{ArePlanned, ArePlannedByHandle}
use Rattle.large_arrays.specs.WindowPlans.{gathered_root}
use Rattle.geos_model.proofs.Layouts.{raw-live}
use Rattle.large_arrays.proofs.PlannedRoots.{root-lacks, was-root}
use Rattle.large_arrays.proofs.root_plan.plan_root.Goals as goal

pub load_again-requires : goal.load_again-requires
load_again-requires g c = record {
  room = c.requires.room;
  root = was-root g.S.Store.facts c.args.blocks.now c.args.root.0 c.args.branches c.args.gathered.now c.requires.root;
}

pub returns-in_err-bytes-clause-refusals : goal.returns-in_err-bytes-clause-refusals
returns-in_err-bytes-clause-refusals g c =
    carried_so c.from_residual-in_err-bytes.result c.in_err-bytes.field-0.0 _ c.from_residual-in_err-bytes.ensures.1
    (root-lacks g.S.Store.facts c.args.blocks.now c.load_again.new.blocks c.load_again.ensures.keeps c.args.root.0 c.args.branches c.args.gathered.now c.requires.root
    c.loaded_root.result c.loaded_root.ensures c.in_err-bytes.field-0.0 c.in_err-bytes.ensures.value)

pub returns-in_err-plan_body-clause-refusals : goal.returns-in_err-plan_body-clause-refusals
returns-in_err-plan_body-clause-refusals g c =
    carried_so c.from_residual-in_err-plan_body.result Memory _ c.from_residual-in_err-plan_body.ensures.1
    (lacks-memory g.S.Store.facts c.args.blocks.now.disk.store c.load_again.new.blocks.disk.store)

pub returns-clause-planned : goal.returns-clause-planned
returns-clause-planned g c = λ freed before untouched.
    let d = c.load_again.new.blocks.document in
    let hs : List ℕ = numbers c.args.handles.now in
    subst (λ (bytes : List ℕ). ArePlanned c.plan_body.new.changes.items d freed ((c.args.root.0, bytes) ∷ []))
    (c.cut_root.ensures ∙ c.deref.ensures.value ∙ c.in_ok-bytes.ensures.value ∙ ap (λ (r : Root). root_bytes (gathered_root r c.args.gathered.now hs)) c.loaded_root.ensures)
    (c.in_ok-plan_body.ensures.planned d freed [] before untouched c.in_ok-load_again.ensures.value.raw
    (sym c.raw_bytes.ensures.value ∙ sym c.cut_root-old.ensures))

pub returns-clause-listed : goal.returns-clause-listed
returns-clause-listed g c = λ freed before untouched.
    let d = c.load_again.new.blocks.document in
    let hs : List ℕ = numbers c.args.handles.now in
    subst (λ (bytes : List ℕ). ArePlannedByHandle c.plan_body.new.changes.items d freed ((c.args.root.0, bytes) ∷ []))
    (c.cut_root.ensures ∙ c.deref.ensures.value ∙ c.in_ok-bytes.ensures.value ∙ ap (λ (r : Root). root_bytes (gathered_root r c.args.gathered.now hs)) c.loaded_root.ensures)
    (c.in_ok-plan_body.ensures.listed d freed [] before untouched (raw-live d c.args.root.0 c.in_ok-load_again.ensures.value.raw))
