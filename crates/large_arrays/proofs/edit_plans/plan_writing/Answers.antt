use Rattle.std.proofs.Common.{◌≡◌, ◌∙◌, ◌+◌, ℕ, length, is_some, sym, ap, subst, inl, arith}
use Rattle.geos_model.specs.Document.{Document}
use Rattle.geos_model.specs.declared.fault.Fault.TheVariants.{Memory}
use Rattle.vm_blocks.specs.Keeping.{IsEnvironmentFault}
use Rattle.vm_blocks.proofs.KeepingLaws.{keeps-refl, keeps-same, lacks-memory}
use Rattle.vm_chains.proofs.Loading.{carried, carried_so}
use Rattle.geos_model.specs.LargeBlocks.{root_at}
use Rattle.geos_model.specs.LargeLayout.{Root}
use Rattle.large_arrays.specs.Spots.{IsSpot}
use Rattle.large_arrays.proofs.EditAnswers.{planned-none, planned-run}
use Rattle.large_arrays.proofs.SpotRuns.{read-run}
use Rattle.large_arrays.proofs.edit_plans.plan_writing.Goals as goal

pub returns-in_err-plan_nothing-clause-keeps : goal.returns-in_err-plan_nothing-clause-keeps
returns-in_err-plan_nothing-clause-keeps g c = keeps-refl g.S.Store.facts c.args.blocks.now

pub returns-in_err-plan_nothing-clause-value : goal.returns-in_err-plan_nothing-clause-value
returns-in_err-plan_nothing-clause-value g c = λ honest.
    carried c.from_residual.result Memory _ _ c.from_residual.ensures.1 (inl (lacks-memory g.S.Store.facts c.args.blocks.now.disk.store c.args.blocks.now.disk.store))

pub returns-in_err-plan_nothing-clause-refusals : goal.returns-in_err-plan_nothing-clause-refusals
returns-in_err-plan_nothing-clause-refusals g c =
    carried_so c.from_residual.result Memory _ c.from_residual.ensures.1 (inl (lacks-memory g.S.Store.facts c.args.blocks.now.disk.store c.args.blocks.now.disk.store))

pub returns-then-count-eq0-clause-keeps : goal.returns-then-count-eq0-clause-keeps
returns-then-count-eq0-clause-keeps g c = keeps-refl g.S.Store.facts c.args.blocks.now

pub returns-in_err-spot-clause-keeps : goal.returns-in_err-spot-clause-keeps
returns-in_err-spot-clause-keeps g c = keeps-refl g.S.Store.facts c.args.blocks.now

pub returns-then-count-eq0-clause-value : goal.returns-then-count-eq0-clause-value
returns-then-count-eq0-clause-value g c = λ honest.
    let edit = c.args.edit.now in
    planned-none c.args.blocks.now.document c.args.root.0 edit.start edit.new_elements.elements c.in_ok-plan_nothing.field-0.items c.in_ok-plan_nothing.ensures.planned (sym c.count.ensures.value ∙ c.if-count-eq0.true)

pub returns-in_err-spot-clause-value : goal.returns-in_err-spot-clause-value
returns-in_err-spot-clause-value g c = λ honest.
    carried c.from_residual-in_err-spot.result Memory _ _ c.from_residual-in_err-spot.ensures.1 (inl (lacks-memory g.S.Store.facts c.args.blocks.now.disk.store c.args.blocks.now.disk.store))

pub returns-in_err-spot-clause-refusals : goal.returns-in_err-spot-clause-refusals
returns-in_err-spot-clause-refusals g c =
    carried_so c.from_residual-in_err-spot.result Memory _ c.from_residual-in_err-spot.ensures.1 (inl (lacks-memory g.S.Store.facts c.args.blocks.now.disk.store c.args.blocks.now.disk.store))

pub plan_overwriting-requires : goal.plan_overwriting-requires
plan_overwriting-requires g c =
    let d : Document = c.args.blocks.now.document in let b : ℕ = c.args.root.0 in let edit = c.args.edit.now in let s = c.in_ok-spot.spot in
    let is : IsSpot (root_at d b) edit.start edit.end s = subst (λ (r : Root). IsSpot r edit.start edit.end s) c.loaded_root.ensures c.in_ok-spot.ensures in
    let can = c.requires.edit in let same : edit.new_elements.size ≡ s.size = can.size ∙ sym is.size in record {
      room = c.requires.room;
      run = read-run d b edit.start edit.end s (ap is_some c.requires.loaded.root) is can.order can.within;
      size = same;
      sized = λ none. c.requires.sized (same ∙ none);
      some = (let other = c.if-count-eq0.false in let count = c.count.ensures.value in omega arith);
    }

pub returns-clause-value : goal.returns-clause-value
returns-clause-value g c = λ honest.
    let f = g.S.Store.facts in let a = c.args.blocks.now in let e = c.plan_overwriting.new.blocks in
    let b : ℕ = c.args.root.0 in let edit = c.args.edit.now in let i : ℕ = edit.start in let new = edit.new_elements.elements in let s = c.in_ok-spot.spot in
    let is : IsSpot (root_at a.document b) i edit.end s = subst (λ (r : Root). IsSpot r i edit.end s) c.loaded_root.ensures c.in_ok-spot.ensures in
    let counted : IsSpot (root_at a.document b) i (i + length new) s = subst (λ (j : ℕ). IsSpot (root_at a.document b) i j s) c.requires.as_many is in
    let end : IsSpot (root_at e.document b) i (i + length new) s =
    subst (λ (d : Document). IsSpot (root_at d b) i (i + length new) s) (sym (keeps-same f a e c.plan_overwriting.ensures.keeps honest)) counted in
    let lacks = IsEnvironmentFault f a.disk.store e.disk.store in
    planned-run e.document b i new (λ changes. changes.items) lacks lacks c.plan_overwriting.result (λ fault lack. lack) (c.plan_overwriting.ensures.value honest i end)
