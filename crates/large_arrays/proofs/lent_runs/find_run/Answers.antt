use Rattle.std.proofs.Common.{◌≡◌, ◌≢◌, ◌∙◌, ℕ, false, refl, sym, subst, inl, inr, eqb-true}
use Rattle.std.proofs.lemmas.Bool.{eqb-false}
use Rattle.geos_model.specs.Document.{Document, is_raw}
use Rattle.geos_model.specs.LargeLayout.{Root}
use Rattle.vm_blocks.specs.Keeping.{IsEnvironmentFault}
use Rattle.vm_blocks.proofs.KeepingLaws.{keeps-trans}
use Rattle.vm_chains.proofs.Loading.{carried, carried_so, still_room}
use Rattle.large_arrays.specs.LargeRuns.{IsRunRefused}
use Rattle.large_arrays.proofs.ElementAnswers.{at-end, stops-end, stops-refusal}
use Rattle.large_arrays.proofs.RunAnswers.{read-refused, root-before-run, run-refusal}
use Rattle.large_arrays.specs.LentRuns.{IsLentSpot}
use Rattle.large_arrays.proofs.LentRuns.{IsFoundLent, lent-before, lent-same, lent_answered, lent_missed, lent_refusals}
use Rattle.large_arrays.proofs.lent_runs.find_run.Goals as goal

pub returns-in_err-load_root-clause-value : goal.returns-in_err-load_root-clause-value
returns-in_err-load_root-clause-value g c = λ steady.
    let e = c.load_root.new.blocks in
    carried c.from_residual.result c.in_err-load_root.field-0.0 _ _ c.from_residual.ensures.1
    (elim c.in_err-load_root.ensures.value [
      | inl lack ↦ inl lack
      | inr first ↦ inr (root-before-run e.document c.args.root.0 c.args.i 1 c.in_err-load_root.field-0.0 first)
    ])

pub returns-in_err-load_root-clause-refusals : goal.returns-in_err-load_root-clause-refusals
returns-in_err-load_root-clause-refusals g c = carried_so c.from_residual.result c.in_err-load_root.field-0.0 _ c.from_residual.ensures.1 (inl (inl c.in_err-load_root.ensures.refusals))

pub returns-in_err-spot-clause-value : goal.returns-in_err-spot-clause-value
returns-in_err-spot-clause-value g c = λ steady.
    let m = c.load_root.new.blocks in let there = c.in_ok-load_root.ensures.value.1 in let fault = c.in_err-spot.field-0.0 in
    carried c.from_residual-in_err-spot.result fault _ _ c.from_residual-in_err-spot.ensures.1
    (inr (read-refused m.document c.args.root.0 there.root there.raw c.args.i 1 fault (subst (λ (r : Root). IsRunRefused r c.args.i 1 fault) c.loaded_root.ensures c.in_err-spot.ensures)))

pub returns-in_err-spot-clause-refusals : goal.returns-in_err-spot-clause-refusals
returns-in_err-spot-clause-refusals g c =
    let a = c.args.blocks.now in let m = c.load_root.new.blocks in let fault = c.in_err-spot.field-0.0 in
    carried_so c.from_residual-in_err-spot.result fault _ c.from_residual-in_err-spot.ensures.1
    (run-refusal (IsEnvironmentFault g.S.Store.facts a.disk.store m.disk.store) c.loaded_root.result a.document c.args.root.0 c.args.i 1 fault c.in_err-spot.ensures)

pub returns-then-eq-clause-value : goal.returns-then-eq-clause-value
returns-then-eq-clause-value g c = λ steady.
    let e = c.load_root.new.blocks in let there = c.in_ok-load_root.ensures.value.1 in let s = c.in_ok-spot.spot in
    inr (lent-same e.document c.args.root.0 c.args.i there.raw there.root s (subst (λ (r : Root). IsLentSpot r c.args.i s) c.loaded_root.ensures c.in_ok-spot.ensures) (eqb-true s.link.handle.0 c.args.root.0 (sym c.eq.ensures ∙ c.if-eq.true)))

pub returns-then-eq-clause-refusals : goal.returns-then-eq-clause-refusals
returns-then-eq-clause-refusals g c = inl (inr (inr refl))

pub load_branch-requires : goal.load_branch-requires
load_branch-requires g c = record { room = still_room g.S.Store.facts c.args.blocks.now c.load_root.new.blocks c.load_root.ensures.keeps c.requires.room }

pub returns-in_err-load_branch-clause-keeps : goal.returns-in_err-load_branch-clause-keeps
returns-in_err-load_branch-clause-keeps g c = keeps-trans g.S.Store.facts c.args.blocks.now c.load_root.new.blocks c.load_branch.new.blocks c.load_root.ensures.keeps c.load_branch.ensures.keeps

pub returns-in_err-load_branch-clause-value : goal.returns-in_err-load_branch-clause-value
returns-in_err-load_branch-clause-value g c = λ steady.
    let a = c.args.blocks.now in let m = c.load_root.new.blocks in let e = c.load_branch.new.blocks in let s = c.in_ok-spot.spot in let b : ℕ = c.args.root.0 in
    let there = c.in_ok-load_root.ensures.value.1 in
    let has : IsFoundLent m.document b c.args.i s = record { raw = there.raw; is = there.root; spot = subst (λ (r : Root). IsLentSpot r c.args.i s) c.loaded_root.ensures c.in_ok-spot.ensures } in
    carried c.from_residual-in_err-load_branch.result c.in_err-load_branch.field-0.0 _ _ c.from_residual-in_err-load_branch.ensures.1
    (lent_missed (IsEnvironmentFault g.S.Store.facts a.disk.store e.disk.store) e.document b c.args.i s c.in_err-load_branch.field-0.0
    (at-end g.S.Store.facts a m e c.load_root.ensures.keeps c.load_branch.ensures.keeps (λ (d : Document). IsFoundLent d b c.args.i s) steady has)
    (stops-end g.S.Store.facts a m e c.load_root.ensures.keeps c.load_branch.ensures.keeps (is_raw e.document s.link.handle.0 ≡ false) c.in_err-load_branch.field-0.0 c.in_err-load_branch.ensures.value))

pub returns-in_err-load_branch-clause-refusals : goal.returns-in_err-load_branch-clause-refusals
returns-in_err-load_branch-clause-refusals g c =
    let a = c.args.blocks.now in let m = c.load_root.new.blocks in let e = c.load_branch.new.blocks in let s = c.in_ok-spot.spot in
    carried_so c.from_residual-in_err-load_branch.result c.in_err-load_branch.field-0.0 _ c.from_residual-in_err-load_branch.ensures.1
    (inl (stops-refusal (IsEnvironmentFault g.S.Store.facts a.disk.store e.disk.store) a.document c.args.root.0 (is_raw e.document s.link.handle.0 ≡ false) c.in_err-load_branch.field-0.0
    (stops-end g.S.Store.facts a m e c.load_root.ensures.keeps c.load_branch.ensures.keeps (is_raw e.document s.link.handle.0 ≡ false) c.in_err-load_branch.field-0.0 c.in_err-load_branch.ensures.value)))

pub run_place-requires-clause-there : goal.run_place-requires-clause-there
run_place-requires-clause-there g c = lent-before c.loaded_root.result c.args.i c.in_ok-spot.spot c.in_ok-spot.ensures

pub returns-clause-keeps : goal.returns-clause-keeps
returns-clause-keeps g c = keeps-trans g.S.Store.facts c.args.blocks.now c.load_root.new.blocks c.load_branch.new.blocks c.load_root.ensures.keeps c.load_branch.ensures.keeps

pub returns-clause-value : goal.returns-clause-value
returns-clause-value g c = λ steady.
    let a = c.args.blocks.now in let m = c.load_root.new.blocks in let e = c.load_branch.new.blocks in let s = c.in_ok-spot.spot in let b : ℕ = c.args.root.0 in
    let there = c.in_ok-load_root.ensures.value.1 in
    let has : IsFoundLent m.document b c.args.i s = record { raw = there.raw; is = there.root; spot = subst (λ (r : Root). IsLentSpot r c.args.i s) c.loaded_root.ensures c.in_ok-spot.ensures } in
    let other : s.link.handle.0 ≢ b = eqb-false s.link.handle.0 b (sym c.eq.ensures ∙ c.if-eq.false) in
    lent_answered (IsEnvironmentFault g.S.Store.facts a.disk.store e.disk.store) e.document b c.args.i s c.run_place.result
    (at-end g.S.Store.facts a m e c.load_root.ensures.keeps c.load_branch.ensures.keeps (λ (d : Document). IsFoundLent d b c.args.i s) steady has) other c.run_place.ensures.value

pub returns-clause-refusals : goal.returns-clause-refusals
returns-clause-refusals g c =
    let a = c.args.blocks.now in let e = c.load_branch.new.blocks in
    lent_refusals (IsEnvironmentFault g.S.Store.facts a.disk.store e.disk.store) e.document a.document c.args.root.0 c.in_ok-spot.spot c.run_place.result c.run_place.ensures.value
