use Rattle.std.proofs.Common.{◌≡◌, ℕ, IsTrue, List, sym, ap, subst, ◌∙◌, inr, arith}
use Rattle.document_file.specs.Ranges.{KeepsAll}
use Rattle.document_file.specs.Slots.{pair_extents, switched, FailedEarly, Failed, LeftBy, CrashLeavesSlots, Outlives, AreExtentsPlaced}
use Rattle.document_file.specs.declared.slot.Slots.{Slots}
use Rattle.document_file.specs.declared.slot.SpareSlot.TheVariants.{Prepared}
use Rattle.document_file.proofs.RangesLemmas.{slots_keep}
use Rattle.document_file.proofs.SlotsLemmas.{shut_before, shut_kept, turned_kept, Outlives-trans, prepared_leaves, as_before, as_shut, as_early, as_prepared, as_left, as_turned}
use Rattle.document_file.proofs.ResultLemmas.{on_err}
use Rattle.document_file.proofs.commit.commit_slots.Given.{Over}
use Rattle.document_file.proofs.commit.commit_slots.Goals.{After-open_gate}
use Rattle.document_file.proofs.commit.commit_slots.Goals as goal

pub returns-in_err-shut_gate-clause-crash : goal.returns-in_err-shut_gate-clause-crash
returns-in_err-shut_gate-clause-crash g c file holds leaves keeps =
    let slots = c.args.slots.now in
    as_left slots c.args.pair file _ _ (as_early slots slots c.args.pair file _ _ (as_before slots slots c.args.pair file _ _ (c.shut_gate.ensures.crash file holds leaves)))

pub returns-in_err-shut_gate-clause-early : goal.returns-in_err-shut_gate-clause-early
returns-in_err-shut_gate-clause-early g c =
    on_err c.from_residual.result _ (inr (λ file holds leaves. as_before c.args.slots.now c.args.slots.now c.args.pair file _ _ (c.shut_gate.ensures.crash file holds leaves)))

pub returns-in_err-shut_gate-clause-leaves : goal.returns-in_err-shut_gate-clause-leaves
returns-in_err-shut_gate-clause-leaves g c file holds leaves keeps = c.shut_gate.ensures.leaves file holds leaves

pub fill_slot-requires-clause-kept : goal.fill_slot-requires-clause-kept
fill_slot-requires-clause-kept g c = subst AreExtentsPlaced (sym c.in_ok-shut_gate.ensures.ok) (shut_kept c.args.slots.now c.requires.kept)

pub returns-in_err-fill_slot-clause-crash : goal.returns-in_err-fill_slot-clause-crash
returns-in_err-fill_slot-clause-crash g c file holds leaves keeps =
    let slots = c.args.slots.now in
    let pair = c.args.pair in
    let still = subst IsTrue (sym c.shut_gate.ensures.honest) holds in
    as_left slots pair file _ _ (as_early slots slots pair file _ _ (Outlives-trans _ _ _ file (λ s. FailedEarly slots s) (as_before slots slots pair file _ _ (c.shut_gate.ensures.crash file holds leaves))
    (as_shut slots c.shut_gate.new.slots pair file _ _ c.in_ok-shut_gate.ensures.ok (c.fill_slot.ensures.crash file still (c.shut_gate.ensures.leaves file holds leaves)))))

pub returns-in_err-fill_slot-clause-early : goal.returns-in_err-fill_slot-clause-early
returns-in_err-fill_slot-clause-early g c =
    let slots = c.args.slots.now in
    let pair = c.args.pair in
    on_err c.from_residual-in_err-fill_slot.result _ (inr (λ file holds leaves.
    let still = subst IsTrue (sym c.shut_gate.ensures.honest) holds in
    Outlives-trans _ _ _ file (λ s. FailedEarly slots s) (as_before slots slots pair file _ _ (c.shut_gate.ensures.crash file holds leaves))
    (as_shut slots c.shut_gate.new.slots pair file _ _ c.in_ok-shut_gate.ensures.ok (c.fill_slot.ensures.crash file still (c.shut_gate.ensures.leaves file holds leaves)))))

pub returns-in_err-fill_slot-clause-leaves : goal.returns-in_err-fill_slot-clause-leaves
returns-in_err-fill_slot-clause-leaves g c file holds leaves keeps =
    let still = subst IsTrue (sym c.shut_gate.ensures.honest) holds in
    c.fill_slot.ensures.leaves file still (c.shut_gate.ensures.leaves file holds leaves)

pub open_gate-requires-clause-kept : goal.open_gate-requires-clause-kept
open_gate-requires-clause-kept g c = subst AreExtentsPlaced (sym c.in_ok-shut_gate.ensures.ok) (shut_kept c.args.slots.now c.requires.kept)

-- all but the gate is on the disk
prepared_before : (g : Over) (c : After-open_gate g) (file : List ℕ) → IsTrue (g.S.Store.facts c.args.store.now).honest → CrashLeavesSlots (g.S.Store.facts c.args.store.now) c.args.slots.now file
    → KeepsAll (pair_extents c.args.pair) file (g.S.Store.facts c.args.store.now).content
    → IsTrue (g.S.Store.facts c.fill_slot.new.store).honest × CrashLeavesSlots (g.S.Store.facts c.fill_slot.new.store) (record c.shut_gate.new.slots { spare = Prepared c.args.pair }) file
prepared_before g c file holds leaves keeps =
    let now = c.shut_gate.new.slots in
    let pair = c.args.pair in
    let B = g.S.Store.facts c.shut_gate.new.store in
    let C = g.S.Store.facts c.fill_slot.new.store in
    let still = subst IsTrue (sym c.shut_gate.ensures.honest) holds in
    let es = pair_extents pair in
    let filled = c.fill_slot.ensures.leaves file still (c.shut_gate.ensures.leaves file holds leaves) in
    let kept = slots_keep es file B.content C.content c.requires.placed (c.fill_slot.ensures.elsewhere still) (slots_keep es file _ B.content c.requires.placed (c.shut_gate.ensures.elsewhere holds) keeps) in
    (subst IsTrue (sym c.fill_slot.ensures.honest) still, prepared_leaves now pair file C (c.in_ok-fill_slot.ensures.durable still) (c.in_ok-fill_slot.ensures.marked still) (c.in_ok-fill_slot.ensures.rest still) kept filled)

-- the gate is opened, or it isn't
opened_crash : (g : Over) (c : After-open_gate g) (file : List ℕ) → IsTrue (g.S.Store.facts c.args.store.now).honest → CrashLeavesSlots (g.S.Store.facts c.args.store.now) c.args.slots.now file
    → KeepsAll (pair_extents c.args.pair) file (g.S.Store.facts c.args.store.now).content
    → Outlives (g.S.Store.facts c.args.store.now) (g.S.Store.facts c.open_gate.new.store) file (λ s. Failed c.args.slots.now c.args.pair s)
opened_crash g c file holds leaves keeps =
    let slots = c.args.slots.now in
    let now = c.shut_gate.new.slots in
    let pair = c.args.pair in
    let still = subst IsTrue (sym c.shut_gate.ensures.honest) holds in
    let shut = c.shut_gate.ensures.leaves file holds leaves in
    let prepared = prepared_before g c file holds leaves keeps in
    Outlives-trans _ _ _ file (λ s. Failed slots pair s)
    (as_early slots now pair file _ _ (Outlives-trans _ _ _ file (λ s. FailedEarly slots s) (as_before slots slots pair file _ _ (c.shut_gate.ensures.crash file holds leaves))
    (as_shut slots now pair file _ _ c.in_ok-shut_gate.ensures.ok (c.fill_slot.ensures.crash file still shut))))
    (as_prepared slots now pair file _ _ c.in_ok-shut_gate.ensures.ok (c.open_gate.ensures.crash file prepared.0 prepared.1))

opened_leaves : (g : Over) (c : After-open_gate g) (file : List ℕ) → IsTrue (g.S.Store.facts c.args.store.now).honest → CrashLeavesSlots (g.S.Store.facts c.args.store.now) c.args.slots.now file
    → KeepsAll (pair_extents c.args.pair) file (g.S.Store.facts c.args.store.now).content → CrashLeavesSlots (g.S.Store.facts c.open_gate.new.store) c.open_gate.new.slots file
opened_leaves g c file holds leaves keeps =
    let prepared = prepared_before g c file holds leaves keeps in
    c.open_gate.ensures.leaves file prepared.0 prepared.1

-- what is known before the gate is opened holds of the slot that counted
opened_still : (g : Over) (c : After-open_gate g) (file : List ℕ) → IsTrue (g.S.Store.facts c.args.store.now).honest → CrashLeavesSlots (g.S.Store.facts c.args.store.now) c.args.slots.now file
    → KeepsAll (pair_extents c.args.pair) file (g.S.Store.facts c.args.store.now).content → CrashLeavesSlots (g.S.Store.facts c.open_gate.new.store) (record c.args.slots.now { spare = Prepared c.args.pair }) file
opened_still g c file holds leaves keeps =
    let prepared = prepared_before g c file holds leaves keeps in
    subst (λ (s : Slots). CrashLeavesSlots (g.S.Store.facts c.open_gate.new.store) (record s { spare = Prepared c.args.pair }) file) c.in_ok-shut_gate.ensures.ok (c.open_gate.ensures.still file prepared.0 prepared.1)

pub returns-in_err-open_gate-clause-crash : goal.returns-in_err-open_gate-clause-crash
returns-in_err-open_gate-clause-crash g c file holds leaves keeps =
    as_left c.args.slots.now c.args.pair file _ _ (opened_crash g (goal.at.returns-in_err-open_gate-clause-crash g c).After-open_gate file holds leaves keeps)

pub returns-in_err-open_gate-clause-leaves : goal.returns-in_err-open_gate-clause-leaves
returns-in_err-open_gate-clause-leaves g c file holds leaves keeps = opened_leaves g (goal.at.returns-in_err-open_gate-clause-leaves g c).After-open_gate file holds leaves keeps

pub shut_stale-requires-clause-kept : goal.shut_stale-requires-clause-kept
shut_stale-requires-clause-kept g c =
    let now = c.shut_gate.new.slots in
    let kept = subst AreExtentsPlaced (sym c.in_ok-shut_gate.ensures.ok) (shut_kept c.args.slots.now c.requires.kept) in
    subst AreExtentsPlaced (sym c.in_ok-open_gate.ensures.ok) (turned_kept now c.args.pair kept c.requires.placed)

pub returns-then-gives_sums-clause-crash : goal.returns-then-gives_sums-clause-crash
returns-then-gives_sums-clause-crash g c file holds leaves keeps =
    let at = (goal.at.returns-then-gives_sums-clause-crash g c).After-open_gate in
    let slots = c.args.slots.now in
    let pair = c.args.pair in
    let D = g.S.Store.facts c.open_gate.new.store in
    let still = subst IsTrue (sym (c.open_gate.ensures.honest ∙ c.fill_slot.ensures.honest ∙ c.shut_gate.ensures.honest)) holds in
    let turned = c.in_ok-open_gate.ensures.ok ∙ ap (λ s. switched s pair) c.in_ok-shut_gate.ensures.ok in
    Outlives-trans _ D _ file (λ s. LeftBy slots pair s) (as_left slots pair file _ _ (opened_crash g at file holds leaves keeps))
    (as_turned slots c.open_gate.new.slots pair file _ _ turned (c.shut_stale.ensures.crash file still (opened_leaves g at file holds leaves keeps)))

pub returns-then-gives_sums-clause-leaves : goal.returns-then-gives_sums-clause-leaves
returns-then-gives_sums-clause-leaves g c file holds leaves keeps =
    let still = subst IsTrue (sym (c.open_gate.ensures.honest ∙ c.fill_slot.ensures.honest ∙ c.shut_gate.ensures.honest)) holds in
    c.shut_stale.ensures.leaves file still (opened_leaves g (goal.at.returns-then-gives_sums-clause-leaves g c).After-open_gate file holds leaves keeps)

pub returns-else-gives_sums-clause-crash : goal.returns-else-gives_sums-clause-crash
returns-else-gives_sums-clause-crash g c file holds leaves keeps =
    as_left c.args.slots.now c.args.pair file _ _ (opened_crash g (goal.at.returns-else-gives_sums-clause-crash g c).After-open_gate file holds leaves keeps)

pub returns-else-gives_sums-clause-leaves : goal.returns-else-gives_sums-clause-leaves
returns-else-gives_sums-clause-leaves g c file holds leaves keeps = opened_leaves g (goal.at.returns-else-gives_sums-clause-leaves g c).After-open_gate file holds leaves keeps

pub returns-then-gives_sums-clause-shut : goal.returns-then-gives_sums-clause-shut
returns-then-gives_sums-clause-shut g c gives holds =
    let slots = c.args.slots.now in
    let still = subst IsTrue (sym (c.open_gate.ensures.honest ∙ c.fill_slot.ensures.honest ∙ c.shut_gate.ensures.honest)) holds in
    let turned : c.open_gate.new.slots ≡ switched slots c.args.pair = c.in_ok-open_gate.ensures.ok ∙ ap (λ s. switched s c.args.pair) c.in_ok-shut_gate.ensures.ok in
    let first = c.in_ok-shut_gate.ensures.failures in
    let second = c.in_ok-fill_slot.ensures.failures in
    let third = c.in_ok-open_gate.ensures.failures in
    shut_before (g.S.Store.facts c.args.store.now) (g.S.Store.facts c.open_gate.new.store) (g.S.Store.facts c.shut_stale.new.store) slots c.args.pair c.open_gate.new.slots (omega (arith, first, second, third)) turned (c.shut_stale.ensures.shut still)

pub returns-then-gives_sums-clause-still : goal.returns-then-gives_sums-clause-still
returns-then-gives_sums-clause-still g c file holds same leaves keeps = (let gives = c.gives_sums-gives_sums.ensures.0 c.if-gives_sums.true in absurd (cc (gives.0, gives.1, same)))

pub returns-else-gives_sums-clause-still : goal.returns-else-gives_sums-clause-still
returns-else-gives_sums-clause-still g c file holds same leaves keeps = opened_still g (goal.at.returns-else-gives_sums-clause-still g c).After-open_gate file holds leaves keeps
