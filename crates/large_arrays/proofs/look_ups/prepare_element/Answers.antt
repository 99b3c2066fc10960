use Rattle.std.proofs.Common.{◌≡◌, ◌≢◌, ◌≤◌, ◌∙◌, ℕ, false, Some, sym, ap, subst, inl, inr, eqb-true}
use Rattle.std.proofs.lemmas.Bool.{eqb-false}
use Rattle.geos_model.specs.Document.{Document, is_raw}
use Rattle.geos_model.specs.declared.fault.Fault.{Fault}
use Rattle.vm_blocks.specs.Keeping.{IsEnvironmentFault}
use Rattle.vm_blocks.proofs.KeepingLaws.{keeps-trans}
use Rattle.vm_chains.proofs.Loading.{carried, carried_so, still_room}
use Rattle.geos_model.specs.LargeLayout.{Root, total_count}
use Rattle.large_arrays.specs.LargeLookUps.{IsElementSpot}
use Rattle.large_arrays.proofs.ElementAnswers.{root-before, get-past, get-same, IsFoundSpot, spot-before, answered, placed-refusals, branch-missed, at-end, stops-end, stops-refusal}
use Rattle.large_arrays.proofs.look_ups.prepare_element.Goals as goal

pub returns-in_err-load_root-clause-value : goal.returns-in_err-load_root-clause-value
returns-in_err-load_root-clause-value g c = λ steady.
    let e = c.load_root.new.blocks in
    carried c.from_residual.result c.in_err-load_root.field-0.0 _ _ c.from_residual.ensures.1
    (elim c.in_err-load_root.ensures.value [
      | inl lack ↦ inl lack
      | inr first ↦ inr (root-before e.document c.args.root.0 c.args.i c.in_err-load_root.field-0.0 first)
    ])

pub returns-in_err-spot-clause-value : goal.returns-in_err-spot-clause-value
returns-in_err-spot-clause-value g c = λ steady.
    let e = c.load_root.new.blocks in let there = c.in_ok-load_root.ensures.value.1 in let no = c.in_err-spot.ensures in
    carried c.from_residual-in_err-spot.result c.in_err-spot.field-0.0 _ _ c.from_residual-in_err-spot.ensures.1
    (inr (get-past e.document c.args.root.0 c.args.i there.raw there.root (subst (λ (r : Root). total_count r ≤ c.args.i) c.loaded_root.ensures no.1) ∙ ap (λ (f : Fault). Some f) (sym no.0)))

pub returns-then-eq-clause-value : goal.returns-then-eq-clause-value
returns-then-eq-clause-value g c = λ steady.
    let e = c.load_root.new.blocks in let there = c.in_ok-load_root.ensures.value.1 in let s = c.in_ok-spot.spot in
    inr (get-same e.document c.args.root.0 c.args.i there.raw there.root s (subst (λ (r : Root). IsElementSpot r c.args.i s) c.loaded_root.ensures c.in_ok-spot.ensures) (eqb-true s.link.handle.0 c.args.root.0 (sym c.eq.ensures ∙ c.if-eq.true)))

pub load_branch-requires : goal.load_branch-requires
load_branch-requires g c = record { room = still_room g.S.Store.facts c.args.blocks.now c.load_root.new.blocks c.load_root.ensures.keeps c.requires.room }

pub returns-in_err-load_branch-clause-keeps : goal.returns-in_err-load_branch-clause-keeps
returns-in_err-load_branch-clause-keeps g c = keeps-trans g.S.Store.facts c.args.blocks.now c.load_root.new.blocks c.load_branch.new.blocks c.load_root.ensures.keeps c.load_branch.ensures.keeps

pub returns-in_err-load_branch-clause-value : goal.returns-in_err-load_branch-clause-value
returns-in_err-load_branch-clause-value g c = λ steady.
    let a = c.args.blocks.now in let m = c.load_root.new.blocks in let e = c.load_branch.new.blocks in let s = c.in_ok-spot.spot in let b : ℕ = c.args.root.0 in
    let there = c.in_ok-load_root.ensures.value.1 in
    let has : IsFoundSpot m.document b c.args.i s = record { raw = there.raw; is = there.root; spot = subst (λ (r : Root). IsElementSpot r c.args.i s) c.loaded_root.ensures c.in_ok-spot.ensures } in
    carried c.from_residual-in_err-load_branch.result c.in_err-load_branch.field-0.0 _ _ c.from_residual-in_err-load_branch.ensures.1
    (branch-missed (IsEnvironmentFault g.S.Store.facts a.disk.store e.disk.store) e.document b c.args.i s c.in_err-load_branch.field-0.0
    (at-end g.S.Store.facts a m e c.load_root.ensures.keeps c.load_branch.ensures.keeps (λ (d : Document). IsFoundSpot d b c.args.i s) steady has)
    (stops-end g.S.Store.facts a m e c.load_root.ensures.keeps c.load_branch.ensures.keeps (is_raw e.document s.link.handle.0 ≡ false) c.in_err-load_branch.field-0.0 c.in_err-load_branch.ensures.value))

pub returns-in_err-load_branch-clause-refusals : goal.returns-in_err-load_branch-clause-refusals
returns-in_err-load_branch-clause-refusals g c =
    let a = c.args.blocks.now in let m = c.load_root.new.blocks in let e = c.load_branch.new.blocks in let s = c.in_ok-spot.spot in
    carried_so c.from_residual-in_err-load_branch.result c.in_err-load_branch.field-0.0 _ c.from_residual-in_err-load_branch.ensures.1
    (stops-refusal (IsEnvironmentFault g.S.Store.facts a.disk.store e.disk.store) a.document c.args.root.0 (is_raw e.document s.link.handle.0 ≡ false) c.in_err-load_branch.field-0.0
    (stops-end g.S.Store.facts a m e c.load_root.ensures.keeps c.load_branch.ensures.keeps (is_raw e.document s.link.handle.0 ≡ false) c.in_err-load_branch.field-0.0 c.in_err-load_branch.ensures.value))

pub element_place-requires-clause-there : goal.element_place-requires-clause-there
element_place-requires-clause-there g c =
    let m = c.load_root.new.blocks in let s = c.in_ok-spot.spot in let there = c.in_ok-load_root.ensures.value.1 in
    spot-before m.document c.args.root.0 c.args.i s (record { raw = there.raw; is = there.root; spot = subst (λ (r : Root). IsElementSpot r c.args.i s) c.loaded_root.ensures c.in_ok-spot.ensures })

pub returns-clause-keeps : goal.returns-clause-keeps
returns-clause-keeps g c = keeps-trans g.S.Store.facts c.args.blocks.now c.load_root.new.blocks c.load_branch.new.blocks c.load_root.ensures.keeps c.load_branch.ensures.keeps

pub returns-clause-value : goal.returns-clause-value
returns-clause-value g c = λ steady.
    let a = c.args.blocks.now in let m = c.load_root.new.blocks in let e = c.load_branch.new.blocks in let s = c.in_ok-spot.spot in let b : ℕ = c.args.root.0 in
    let there = c.in_ok-load_root.ensures.value.1 in
    let has : IsFoundSpot m.document b c.args.i s = record { raw = there.raw; is = there.root; spot = subst (λ (r : Root). IsElementSpot r c.args.i s) c.loaded_root.ensures c.in_ok-spot.ensures } in
    let other : s.link.handle.0 ≢ b = eqb-false s.link.handle.0 b (sym c.eq.ensures ∙ c.if-eq.false) in
    answered (IsEnvironmentFault g.S.Store.facts a.disk.store e.disk.store) e.document b c.args.i s c.element_place.result
    (at-end g.S.Store.facts a m e c.load_root.ensures.keeps c.load_branch.ensures.keeps (λ (d : Document). IsFoundSpot d b c.args.i s) steady has) other c.element_place.ensures.value

pub returns-clause-refusals : goal.returns-clause-refusals
returns-clause-refusals g c =
    let a = c.args.blocks.now in let e = c.load_branch.new.blocks in
    placed-refusals (IsEnvironmentFault g.S.Store.facts a.disk.store e.disk.store) e.document a.document c.args.root.0 c.in_ok-spot.spot c.element_place.result c.element_place.ensures.value
