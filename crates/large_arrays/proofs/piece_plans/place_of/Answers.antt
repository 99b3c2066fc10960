use Rattle.std.proofs.Common.{◌≡◌, ◌<◌, ℕ, List, length, get_or, sym, ap, ◌∙◌, inl, inr, arith}
use Rattle.std.proofs.lemmas.Bool.{cases_eq, eq-eqb, true≢false}
use Rattle.std.proofs.lemmas.List.{get_or-map, get_or_default, length-map}
use Rattle.large_arrays.specs.HandleLists.{old_handles}
use Rattle.large_arrays.specs.declared.handles.OldBranch.{OldBranch}
use Rattle.large_arrays.proofs.piece_plans.place_of.Goals as goal

-- the handle of the block at a place
handle_at : (olds : List OldBranch) (i : ℕ) (old : OldBranch) → i < length olds → old ≡ get_or olds i old → get_or (old_handles olds) i 0 ≡ old.handle.0
handle_at olds i old low is = get_or-map (λ (o : OldBranch). o.handle.0) olds i old 0 low ∙ sym (ap (λ (o : OldBranch). o.handle.0) is)

pub loop-i-preserved : goal.loop-i-preserved
loop-i-preserved c = λ k low same. elim (cases_eq k c.loop-i.i) [
  | inl here ↦
      (let olds = c.args.gathered.now.olds.items in
      let at : get_or (old_handles olds) c.loop-i.i 0 ≡ c.index.result.now.handle.0 = handle_at olds c.loop-i.i c.index.result.now (omega arith) c.index.ensures in
      let is : c.index.result.now.handle.0 ≡ c.args.handle.0 = sym at ∙ sym (ap (λ (n : ℕ). get_or (old_handles olds) n 0) here) ∙ same in
      true≢false (sym (eq-eqb c.index.result.now.handle.0 c.args.handle.0 is) ∙ sym c.eq.ensures ∙ c.if-eq.false))
  | inr other ↦ c.loop-i.invariant k (omega (arith, low, other)) same
]

pub returns : goal.returns
returns c = λ there.
    let hs = old_handles c.args.gathered.now.olds.items in
    let many = length-map c.args.gathered.now.olds.items (λ (o : OldBranch). o.handle.0) in
    let low = there.1 in
    c.loop-i.invariant there.0 (omega (arith, low, many)) (get_or_default hs there.0 0 c.args.handle.0 low ∙ there.2)
