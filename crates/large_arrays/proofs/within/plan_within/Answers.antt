use Rattle.std.proofs.Common.{◌≡◌, ◌∙◌, ◌≢◌, ℕ, true, is_some, length, refl, sym, ap, inl, inr, arith}
use Rattle.std.proofs.lemmas.Bool.{eq-eqb, true≢false}
use Rattle.geos_model.specs.Document.{Document, is_raw, raw_bytes_of}
use Rattle.geos_model.specs.declared.fault.Fault.TheVariants.{Memory}
use Rattle.vm_blocks.specs.Keeping.{IsEnvironmentFault}
use Rattle.vm_blocks.proofs.KeepingLaws.{keeps-refl, keeps-same, lacks-memory}
use Rattle.vm_chains.proofs.Loading.{carried, carried_so, still_live}
use Rattle.vm_chains.proofs.WalkLemmas.{raw_live}
use Rattle.geos_model.specs.LargeBlocks.{root_at}
use Rattle.geos_model.specs.LargeLayout.{root_of}
use Rattle.geos_model.proofs.Layouts.{root-facts}
use Rattle.large_arrays.proofs.LoadedBranches.{under-raw}
use Rattle.large_arrays.proofs.RunSpots.{has-links}
use Rattle.large_arrays.proofs.WithinAnswers.{listed-within, planned-within, root-itself, stopped-within}
use Rattle.large_arrays.proofs.WithinSpots.{fits-edit, place-low}
use Rattle.large_arrays.proofs.within.plan_within.Goals as goal

pub returns-then-eq-clause-keeps : goal.returns-then-eq-clause-keeps
returns-then-eq-clause-keeps g c = keeps-refl g.S.Store.facts c.args.blocks.now

pub returns-then-eq-clause-value : goal.returns-then-eq-clause-value
returns-then-eq-clause-value g c = λ honest i j is.
    let d : Document = c.args.blocks.now.document in let b : ℕ = c.args.root.0 in let e = c.args.edit.now in
    let edit = c.requires.edit (root_at d b) i j is in
    inr (refl, root-itself d b i j (length c.args.new.now.elements) e edit (sym c.eq.ensures ∙ c.if-eq.true))

pub branch_patch-requires-clause-fits : goal.branch_patch-requires-clause-fits
branch_patch-requires-clause-fits g c = fits-edit c.args.spot.now (length c.args.new.now.elements) c.args.new.now.size c.args.edit.now c.requires.run c.requires.size c.requires.edit

pub root_patch-requires : goal.root_patch-requires
root_patch-requires g c =
    let s = c.args.spot.now in let run = c.requires.run in let has = has-links s run in let order = has.order in let last = has.last in
    let few = (c.requires.edit run.r run.i run.j run.spot).stays.few in let many = run.spot.branches in
    record { place = omega arith; few = omega arith }

pub returns-in_err-branch-clause-value : goal.returns-in_err-branch-clause-value
returns-in_err-branch-clause-value g c = λ honest i j is.
    let d : Document = c.branch_patch.new.blocks.document in let b : ℕ = c.args.root.0 in let new = c.args.new.now in let fault = c.in_err-branch.field-0.0 in
    carried c.from_residual.result fault _ _ c.from_residual.ensures.1
    (stopped-within d b i j new c.args.edit.now (c.requires.size ∙ is.size) (c.requires.edit (root_at d b) i j is)
    (IsEnvironmentFault g.S.Store.facts c.args.blocks.now.disk.store c.branch_patch.new.blocks.disk.store) fault c.in_err-branch.ensures.value)

pub returns-in_err-patch-clause-value : goal.returns-in_err-patch-clause-value
returns-in_err-patch-clause-value g c = λ honest i j is.
    carried c.from_residual-in_err-patch.result Memory _ _ c.from_residual-in_err-patch.ensures.1 (inl (lacks-memory g.S.Store.facts c.args.blocks.now.disk.store c.branch_patch.new.blocks.disk.store))

pub returns-in_err-patch-clause-refusals : goal.returns-in_err-patch-clause-refusals
returns-in_err-patch-clause-refusals g c =
    carried_so c.from_residual-in_err-patch.result Memory _ c.from_residual-in_err-patch.ensures.1 (inl (lacks-memory g.S.Store.facts c.args.blocks.now.disk.store c.branch_patch.new.blocks.disk.store))

pub returns-in_err-changes-clause-value : goal.returns-in_err-changes-clause-value
returns-in_err-changes-clause-value g c = λ honest i j is.
    carried c.from_residual-in_err-changes.result Memory _ _ c.from_residual-in_err-changes.ensures.1 (inl (lacks-memory g.S.Store.facts c.args.blocks.now.disk.store c.branch_patch.new.blocks.disk.store))

pub returns-in_err-changes-clause-refusals : goal.returns-in_err-changes-clause-refusals
returns-in_err-changes-clause-refusals g c =
    carried_so c.from_residual-in_err-changes.result Memory _ c.from_residual-in_err-changes.ensures.1 (inl (lacks-memory g.S.Store.facts c.args.blocks.now.disk.store c.branch_patch.new.blocks.disk.store))

pub returns-in_err-plan_patch-clause-value : goal.returns-in_err-plan_patch-clause-value
returns-in_err-plan_patch-clause-value g c = λ honest i j is.
    carried c.from_residual-in_err-plan_patch.result Memory _ _ c.from_residual-in_err-plan_patch.ensures.1 (inl (lacks-memory g.S.Store.facts c.args.blocks.now.disk.store c.branch_patch.new.blocks.disk.store))

pub returns-in_err-plan_patch-clause-refusals : goal.returns-in_err-plan_patch-clause-refusals
returns-in_err-plan_patch-clause-refusals g c =
    carried_so c.from_residual-in_err-plan_patch.result Memory _ c.from_residual-in_err-plan_patch.ensures.1 (inl (lacks-memory g.S.Store.facts c.args.blocks.now.disk.store c.branch_patch.new.blocks.disk.store))

pub returns-in_err-plan_patch-2-clause-value : goal.returns-in_err-plan_patch-2-clause-value
returns-in_err-plan_patch-2-clause-value g c = λ honest i j is.
    carried c.from_residual-in_err-plan_patch-2.result Memory _ _ c.from_residual-in_err-plan_patch-2.ensures.1 (inl (lacks-memory g.S.Store.facts c.args.blocks.now.disk.store c.branch_patch.new.blocks.disk.store))

pub returns-in_err-plan_patch-2-clause-refusals : goal.returns-in_err-plan_patch-2-clause-refusals
returns-in_err-plan_patch-2-clause-refusals g c =
    carried_so c.from_residual-in_err-plan_patch-2.result Memory _ c.from_residual-in_err-plan_patch-2.ensures.1 (inl (lacks-memory g.S.Store.facts c.args.blocks.now.disk.store c.branch_patch.new.blocks.disk.store))

pub returns-clause-value : goal.returns-clause-value
returns-clause-value g c = λ honest i j is.
    let a = c.args.blocks.now in let m = c.branch_patch.new.blocks in let d : Document = m.document in let b : ℕ = c.args.root.0 in let e = c.args.edit.now in let new = c.args.new.now in
    let same : d ≡ a.document = keeps-same g.S.Store.facts a m c.branch_patch.ensures.keeps honest in
    let raw : is_raw d b ≡ true = ap (λ (x : Document). is_raw x b) same ∙ c.requires.loaded.raw in
    let found : is_some (root_of (raw_bytes_of d b)) ≡ true = ap (λ (x : Document). is_some (root_of (raw_bytes_of x b))) same ∙ ap is_some c.requires.loaded.root in
    let other : e.link.handle.0 ≢ b = λ itself. true≢false (sym (eq-eqb e.link.handle.0 b itself) ∙ sym c.eq.ensures ∙ c.if-eq.false) in
    let edit = c.requires.edit (root_at d b) i j is in
    planned-within d b i j new e c.in_ok-patch.patch c.new.result c.in_ok-changes.changes.items c.plan_patch.new.changes.items c.plan_patch-2.new.changes.items
    raw found c.in_ok-changes.ensures.items other (c.requires.size ∙ is.size) edit (place-low c.args.spot.now c.requires.run (root_at d b) i j is)
    (c.in_ok-patch.ensures.leads (root_at d b) i j (length new.elements) is (sym (root-facts d b found).2) edit) c.in_ok-patch.ensures.short (rw c.new.ensures c.in_ok-branch.ensures.value)
    c.in_ok-plan_patch.ensures.planned c.in_ok-plan_patch-2.ensures.planned

pub returns-clause-listed : goal.returns-clause-listed
returns-clause-listed g c =
    let a = c.args.blocks.now in let m = c.branch_patch.new.blocks in let d : Document = m.document in let b : ℕ = c.args.root.0 in let e = c.args.edit.now in let new = c.args.new.now in
    let other : e.link.handle.0 ≢ b = λ itself. true≢false (sym (eq-eqb e.link.handle.0 b itself) ∙ sym c.eq.ensures ∙ c.if-eq.false) in
    let patches = c.in_ok-branch.ensures.value in
    (listed-within d b e c.in_ok-changes.changes.items c.plan_patch.new.changes.items c.plan_patch-2.new.changes.items c.in_ok-changes.ensures.items other
    (still_live g.S.Store.facts a m c.branch_patch.ensures.keeps b (raw_live a.document b c.requires.loaded.raw))
    (raw_live d e.link.handle.0 (under-raw d e.link.handle.0 new.size e.link.count patches.elements patches.branch).0)
    c.in_ok-plan_patch.ensures.listed c.in_ok-plan_patch-2.ensures.listed).applies
