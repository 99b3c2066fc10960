use Rattle.std.proofs.Common.{◌≡◌, ◌∙◌, ◌+◌, ℕ, drop, sum_by, sym, ap, take, arith}
use Rattle.std.proofs.lemmas.List.Sums.{sum_by-take-drop}
use Rattle.geos_model.specs.LargeLayout.{Root, total_count}
use Rattle.large_bodies.proofs.RootRuns.{few_without}
use Rattle.large_bodies.proofs.root.RootView.total_without.Goals as goal

pub loop-k-init : goal.loop-k-init
loop-k-init c =
    c.self.invariant.total ∙ ap (λ (r : Root). total_count r) c.self.view_is
    ∙ sym (sum_by-take-drop (λ (n : ℕ). n) c.args.self.now.counts c.args.first)

pub returns-clause-few : goal.returns-clause-few
returns-clause-few c =
    let counts = c.args.self.now.counts in
    let order = c.requires.order in
    let past = c.loop-k-test.false in
    let upto = c.loop-k.auto.k-end in
    let end : c.loop-k.k ≡ c.args.behind = omega arith in
    few_without c.self.inside c.self.invariant c.args.self.now c.self.view_is c.args.first c.args.behind c.loop-k.total order c.requires.within
    (c.loop-k.invariant ∙ ap (λ (k : ℕ). sum_by (λ (n : ℕ). n) (take c.args.first counts) + sum_by (λ (n : ℕ). n) (drop k counts)) end)
