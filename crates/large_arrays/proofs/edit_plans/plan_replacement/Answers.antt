use Rattle.std.proofs.Common.{◌≡◌, ◌∙◌, ◌≤◌, ℕ, true, is_some, sym, ap, subst, inl}
use Rattle.geos_model.specs.Document.{Document, is_raw, raw_bytes_of}
use Rattle.geos_model.specs.declared.fault.Fault.{Fault}
use Rattle.geos_model.specs.declared.fault.Fault.TheVariants.{Memory}
use Rattle.vm_blocks.specs.Keeping.{IsEnvironmentFault}
use Rattle.vm_blocks.proofs.KeepingLaws.{keeps-refl, keeps-same, keeps-steady, keeps-trans, keeps-was_steady, lacks-later, lacks-memory}
use Rattle.vm_chains.proofs.Loading.{carried, carried_so, still_room}
use Rattle.geos_model.specs.LargeBlocks.{root_at}
use Rattle.large_arrays.specs.Gathering.{IsGatheredWindow}
use Rattle.geos_model.specs.LargeLayout.{Root, root_of, total_count}
use Rattle.large_bodies.specs.SizedElements.{have_size}
use Rattle.large_arrays.specs.Spots.{IsSpot}
use Rattle.large_arrays.specs.WindowPlans.{HasGatheredRoot}
use Rattle.large_arrays.proofs.EditAnswers.{chain-later, handles-later, planned-nothing, planned-window, stopped-window}
use Rattle.large_arrays.proofs.GatheredWindows.{gathered-root}
use Rattle.large_arrays.proofs.SpotRuns.{read-run}
use Rattle.large_arrays.proofs.WithinEdits.{answered-within}
use Rattle.large_arrays.proofs.edit_plans.plan_replacement.Goals as goal

pub returns-in_err-plan_nothing-clause-keeps : goal.returns-in_err-plan_nothing-clause-keeps
returns-in_err-plan_nothing-clause-keeps g c = keeps-refl g.S.Store.facts c.args.blocks.now

pub returns-in_err-plan_nothing-clause-value : goal.returns-in_err-plan_nothing-clause-value
returns-in_err-plan_nothing-clause-value g c = λ honest.
    carried c.from_residual.result Memory _ _ c.from_residual.ensures.1 (inl (lacks-memory g.S.Store.facts c.args.blocks.now.disk.store c.args.blocks.now.disk.store))

pub returns-in_err-plan_nothing-clause-refusals : goal.returns-in_err-plan_nothing-clause-refusals
returns-in_err-plan_nothing-clause-refusals g c =
    carried_so c.from_residual.result Memory _ c.from_residual.ensures.1 (inl (lacks-memory g.S.Store.facts c.args.blocks.now.disk.store c.args.blocks.now.disk.store))

pub returns-then-is_nothing-clause-keeps : goal.returns-then-is_nothing-clause-keeps
returns-then-is_nothing-clause-keeps g c = keeps-refl g.S.Store.facts c.args.blocks.now

pub returns-in_err-spot-clause-keeps : goal.returns-in_err-spot-clause-keeps
returns-in_err-spot-clause-keeps g c = keeps-refl g.S.Store.facts c.args.blocks.now

pub returns-then-is_nothing-clause-value : goal.returns-then-is_nothing-clause-value
returns-then-is_nothing-clause-value g c = λ honest.
    let edit = c.args.edit.now in
    planned-nothing c.args.blocks.now.document c.args.root.0 edit.start edit.end edit.new_elements.elements c.in_ok-plan_nothing.field-0.items c.in_ok-plan_nothing.ensures.planned (sym c.is_nothing.ensures ∙ c.if-is_nothing.true)

pub returns-in_err-spot-clause-value : goal.returns-in_err-spot-clause-value
returns-in_err-spot-clause-value g c = λ honest.
    carried c.from_residual-in_err-spot.result Memory _ _ c.from_residual-in_err-spot.ensures.1 (inl (lacks-memory g.S.Store.facts c.args.blocks.now.disk.store c.args.blocks.now.disk.store))

pub returns-in_err-spot-clause-refusals : goal.returns-in_err-spot-clause-refusals
returns-in_err-spot-clause-refusals g c =
    carried_so c.from_residual-in_err-spot.result Memory _ c.from_residual-in_err-spot.ensures.1 (inl (lacks-memory g.S.Store.facts c.args.blocks.now.disk.store c.args.blocks.now.disk.store))

pub branch_edit-requires : goal.branch_edit-requires
branch_edit-requires g c =
    let d : Document = c.args.blocks.now.document in let b : ℕ = c.args.root.0 in let edit = c.args.edit.now in let s = c.in_ok-spot.spot in
    let is : IsSpot (root_at d b) edit.start edit.end s = subst (λ (r : Root). IsSpot r edit.start edit.end s) c.loaded_root.ensures c.in_ok-spot.ensures in
    read-run d b edit.start edit.end s (ap is_some c.requires.loaded.root) is c.requires.edit.order c.requires.edit.within

pub plan_within-requires-clause-run : goal.plan_within-requires-clause-run
plan_within-requires-clause-run g c =
    let d : Document = c.args.blocks.now.document in let b : ℕ = c.args.root.0 in let edit = c.args.edit.now in let s = c.in_ok-spot.spot in
    let is : IsSpot (root_at d b) edit.start edit.end s = subst (λ (r : Root). IsSpot r edit.start edit.end s) c.loaded_root.ensures c.in_ok-spot.ensures in
    read-run d b edit.start edit.end s (ap is_some c.requires.loaded.root) is c.requires.edit.order c.requires.edit.within

pub returns-in-Some-clause-value : goal.returns-in-Some-clause-value
returns-in-Some-clause-value g c = λ honest.
    let f = g.S.Store.facts in let a = c.args.blocks.now in let e = c.plan_within.new.blocks in let b : ℕ = c.args.root.0 in let edit = c.args.edit.now in
    let i : ℕ = edit.start in let j : ℕ = edit.end in let new = edit.new_elements in let s = c.in_ok-spot.spot in let can = c.requires.edit in
    let same : e.document ≡ a.document = keeps-same f a e c.plan_within.ensures.keeps honest in
    let is : IsSpot (root_at a.document b) i j s = subst (λ (r : Root). IsSpot r i j s) c.loaded_root.ensures c.in_ok-spot.ensures in
    let here : IsSpot (root_at e.document b) i j s = subst (λ (d : Document). IsSpot (root_at d b) i j s) (sym same) is in
    let sized : have_size (root_at e.document b).size new.elements ≡ true =
    ap (λ (n : ℕ). have_size n new.elements) (ap (λ (d : Document). (root_at d b).size) same ∙ sym can.size) ∙ c.in-Some.ensures.sized in
    answered-within e.document b i j new.elements
    (record {
      raw = ap (λ (d : Document). is_raw d b) same ∙ c.requires.loaded.raw;
      found = ap (λ (d : Document). is_some (root_of (raw_bytes_of d b))) same ∙ ap is_some c.requires.loaded.root;
    })
    can.order (subst (λ (d : Document). j ≤ total_count (root_at d b)) (sym same) can.within) sized (c.in-Some.ensures.edit (root_at e.document b) i j here).stays
    (sym c.is_nothing.ensures ∙ c.if-is_nothing.false) (λ changes. changes.items) (IsEnvironmentFault f a.disk.store e.disk.store) c.plan_within.result
    (c.plan_within.ensures.value honest i j here)

pub gather-requires : goal.gather-requires
gather-requires g c =
    let d : Document = c.args.blocks.now.document in let b : ℕ = c.args.root.0 in let edit = c.args.edit.now in let s = c.in_ok-spot.spot in
    let is : IsSpot (root_at d b) edit.start edit.end s = subst (λ (r : Root). IsSpot r edit.start edit.end s) c.loaded_root.ensures c.in_ok-spot.ensures in
    let can = c.requires.edit in record {
      room = c.requires.room;
      run = read-run d b edit.start edit.end s (ap is_some c.requires.loaded.root) is can.order can.within;
      size = can.size ∙ sym is.size;
    }

pub returns-in_err-gathered-clause-value : goal.returns-in_err-gathered-clause-value
returns-in_err-gathered-clause-value g c = λ honest.
    let f = g.S.Store.facts in let a = c.args.blocks.now in let m = c.gather.new.blocks in let b : ℕ = c.args.root.0 in let edit = c.args.edit.now in let s = c.in_ok-spot.spot in
    let is : IsSpot (root_at a.document b) edit.start edit.end s = subst (λ (r : Root). IsSpot r edit.start edit.end s) c.loaded_root.ensures c.in_ok-spot.ensures in
    let here : IsSpot (root_at m.document b) edit.start edit.end s =
    subst (λ (d : Document). IsSpot (root_at d b) edit.start edit.end s) (sym (keeps-same f a m c.gather.ensures.keeps honest)) is in
    let fault = c.in_err-gathered.field-0.0 in
    carried c.from_residual-in_err-gathered.result fault _ _ c.from_residual-in_err-gathered.ensures.1
    (stopped-window m.document b edit.start edit.end edit.new_elements.elements (sym c.is_nothing.ensures ∙ c.if-is_nothing.false) (IsEnvironmentFault f a.disk.store m.disk.store) fault
    (c.in_err-gathered.ensures.value honest edit.start edit.end here c.requires.edit.order))

pub returns-in_err-gathered-clause-refusals : goal.returns-in_err-gathered-clause-refusals
returns-in_err-gathered-clause-refusals g c =
    let lacks : Fault → Type 0 = IsEnvironmentFault g.S.Store.facts c.args.blocks.now.disk.store c.gather.new.blocks.disk.store in let fault = c.in_err-gathered.field-0.0 in
    carried_so c.from_residual-in_err-gathered.result fault _ c.from_residual-in_err-gathered.ensures.1
    (chain-later lacks lacks fault (λ fault lack. lack) c.in_err-gathered.ensures.refusals)

pub plan_window-requires : goal.plan_window-requires
plan_window-requires g c = record {
  room = still_room g.S.Store.facts c.args.blocks.now c.gather.new.blocks c.gather.ensures.keeps c.requires.room;
  gathered = c.in_ok-gathered.ensures.listed;
  root = λ steady.
      let f = g.S.Store.facts in let a = c.args.blocks.now in let m = c.gather.new.blocks in let b : ℕ = c.args.root.0 in let edit = c.args.edit.now in
      let i : ℕ = edit.start in let j : ℕ = edit.end in let new = edit.new_elements.elements in let s = c.in_ok-spot.spot in let loaded = c.requires.loaded in
      let honest = keeps-was_steady f a m c.gather.ensures.keeps steady in
      let same : m.document ≡ a.document = keeps-same f a m c.gather.ensures.keeps honest in
      let is : IsSpot (root_at a.document b) i j s = subst (λ (r : Root). IsSpot r i j s) c.loaded_root.ensures c.in_ok-spot.ensures in
      let here : IsSpot (root_at m.document b) i j s = subst (λ (d : Document). IsSpot (root_at d b) i j s) (sym same) is in
      let raw : is_raw m.document b ≡ true = ap (λ (d : Document). is_raw d b) same ∙ loaded.raw in
      let found : is_some (root_of (raw_bytes_of m.document b)) ≡ true = ap (λ (d : Document). is_some (root_of (raw_bytes_of d b))) same ∙ ap is_some loaded.root in
      let gathered = c.in_ok-gathered.gathered in
      subst (λ (n : ℕ). HasGatheredRoot m.document b n gathered) (sym here.branches)
      (gathered-root m.document b i j new gathered (c.in_ok-gathered.ensures.value honest i j here c.requires.edit.order) found c.requires.edit.order raw);
}

pub returns-clause-keeps : goal.returns-clause-keeps
returns-clause-keeps g c = keeps-trans g.S.Store.facts c.args.blocks.now c.gather.new.blocks c.plan_window.new.blocks c.gather.ensures.keeps c.plan_window.ensures.keeps

pub returns-clause-value : goal.returns-clause-value
returns-clause-value g c = λ honest.
    let f = g.S.Store.facts in let a = c.args.blocks.now in let m = c.gather.new.blocks in let e = c.plan_window.new.blocks in
    let b : ℕ = c.args.root.0 in let edit = c.args.edit.now in let i : ℕ = edit.start in let j : ℕ = edit.end in let new = edit.new_elements.elements in
    let s = c.in_ok-spot.spot in let order = c.requires.edit.order in
    let steady = keeps-steady f a m c.gather.ensures.keeps honest in
    let first : m.document ≡ a.document = keeps-same f a m c.gather.ensures.keeps honest in
    let next : e.document ≡ m.document = keeps-same f m e c.plan_window.ensures.keeps steady in
    let is : IsSpot (root_at a.document b) i j s = subst (λ (r : Root). IsSpot r i j s) c.loaded_root.ensures c.in_ok-spot.ensures in
    let here : IsSpot (root_at m.document b) i j s = subst (λ (d : Document). IsSpot (root_at d b) i j s) (sym first) is in
    let gathered : IsGatheredWindow e.document b i j new c.in_ok-gathered.gathered =
    subst (λ (d : Document). IsGatheredWindow d b i j new c.in_ok-gathered.gathered) (sym next) (c.in_ok-gathered.ensures.value honest i j here order) in
    planned-window e.document b i j new (sym c.is_nothing.ensures ∙ c.if-is_nothing.false) (λ changes. changes.items) (IsEnvironmentFault f m.disk.store e.disk.store) (IsEnvironmentFault f a.disk.store e.disk.store) c.plan_window.result
    (record {
      raw = ap (λ (d : Document). is_raw d b) (next ∙ first) ∙ c.requires.loaded.raw;
      found = ap (λ (d : Document). is_some (root_of (raw_bytes_of d b))) (next ∙ first) ∙ ap is_some c.requires.loaded.root;
    })
    order (λ fault lack. lacks-later f a m e.disk.store fault c.gather.ensures.keeps lack) gathered.looked
    (c.plan_window.ensures.value steady i j new order gathered)

pub returns-clause-refusals : goal.returns-clause-refusals
returns-clause-refusals g c =
    let f = g.S.Store.facts in let a = c.args.blocks.now in let m = c.gather.new.blocks in let e = c.plan_window.new.blocks in
    handles-later (IsEnvironmentFault f m.disk.store e.disk.store) (IsEnvironmentFault f a.disk.store e.disk.store) c.plan_window.result
    (λ fault lack. lacks-later f a m e.disk.store fault c.gather.ensures.keeps lack) c.plan_window.ensures.refusals
