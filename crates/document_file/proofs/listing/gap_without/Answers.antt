use Rattle.std.proofs.Common.{◌≤◌, ◌-◌, All, ℕ, take, get_or, sym, subst, arith}
use Rattle.std.proofs.lemmas.List.{take_more, take_all}
use Rattle.std.proofs.lemmas.List.Elements.{All-push}
use Rattle.geos_model.specs.declared.handle.VmHandle.{VmHandle}
use Rattle.document_file.proofs.listing.gap_without.Goals as goal

pub loop-block-preserved : goal.loop-block-preserved
loop-block-preserved c =
    let xs = c.args.removals.now in
    let i : ℕ = c.loop-block.block-index in
    let none : VmHandle = record { 0 = 0 } in
    let Spares : VmHandle → Type 0 = λ h. c.min-gap.result ≤ h.0 - 1 in
    let a = c.min-gap.ensures in let b = c.saturating_sub.ensures in let d = c.from.ensures in let was = c.loop-block.invariant.start in
    record {
      start = omega (arith, a, was);
      removals = subst (All Spares) (sym (take_more xs i none c.loop-block-test.true)) (All-push Spares (take i xs) (get_or xs i none)
          (λ k e low. let before = c.loop-block.invariant.removals k e low in omega (arith, a, before)) (omega (arith, a, b, d)));
    }

pub returns-clause-removals : goal.returns-clause-removals
returns-clause-removals c = subst (All (λ (h : VmHandle). c.loop-block.gap ≤ h.0 - 1)) (take_all c.loop-block.block-index c.args.removals.now c.loop-block-test.false) c.loop-block.invariant.removals
