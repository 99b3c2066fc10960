use Rattle.std.proofs.Common.{◌≡◌, ◌∙◌, ◌-◌, ℕ, List, [], ◌∷◌, ◌++◌, take, drop, min, sym, ap, arith}
use Rattle.std.proofs.lemmas.List.{map-append}
use Rattle.large_arrays.specs.Spots.{counts_of, link_handles}
use Rattle.large_arrays.specs.declared.spot.BranchLink.{BranchLink}
use Rattle.large_arrays.proofs.LinkRuns.{run_more, run_end}
use Rattle.large_arrays.proofs.spot.links_from.Goals as goal

none_taken : (xs : List ℕ) (a : ℕ) → [] ≡ take (a - a) (drop a xs)
none_taken xs a = let none : a - a ≡ 0 = omega arith in ap (λ (n : ℕ). take n (drop a xs)) (sym none)

pub loop-k-init : goal.loop-k-init
loop-k-init c = record {
  links = record {
    counts = ap counts_of c.new-links.ensures.items ∙ none_taken c.args.root.now.counts c.args.first;
    handles = ap link_handles c.new-links.ensures.items ∙ none_taken c.args.root.now.branches c.args.first;
  };
  none = λ over. omega arith;
}

pub loop-k-preserved : goal.loop-k-preserved
loop-k-preserved c =
    let r = c.args.root.now in let k : ℕ = c.loop-k.k in let a : ℕ = c.args.first in
    let link : BranchLink = record { handle = record { 0 = c.branch-root.result }; count = c.count.result } in
    let pushed : c.push.new.self.items ≡ c.loop-k.links.items ++ link ∷ [] = c.in_ok-push.ensures.items in
    let low = c.loop-k-test.true in let few = c.min-k-end.ensures in let counts = c.branches.ensures.counts in let branches = c.branches.ensures.branches in
    record {
      links = record {
        counts = ap counts_of pushed ∙ map-append (λ (l : BranchLink). l.count) c.loop-k.links.items (link ∷ [])
            ∙ ap (λ (xs : List ℕ). xs ++ c.count.result ∷ []) c.loop-k.invariant.links.counts
            ∙ ap (λ (x : ℕ). take (k - a) (drop a r.counts) ++ x ∷ []) c.count.ensures
            ∙ run_more r.counts a k c.loop-k.auto.k (omega (arith, low, few, counts));
        handles = ap link_handles pushed ∙ map-append (λ (l : BranchLink). l.handle.0) c.loop-k.links.items (link ∷ [])
            ∙ ap (λ (xs : List ℕ). xs ++ c.branch-root.result ∷ []) c.loop-k.invariant.links.handles
            ∙ ap (λ (x : ℕ). take (k - a) (drop a r.branches) ++ x ∷ []) c.branch-root.ensures
            ∙ run_more r.branches a k c.loop-k.auto.k (omega (arith, low, few, branches));
      };
      none = λ over. let from = c.loop-k.auto.k in absurd (omega (arith, low, from, over));
    }

pub returns : goal.returns
returns c =
    let r = c.args.root.now in let k : ℕ = c.loop-k.k in let a : ℕ = c.args.first in let b : ℕ = c.args.behind in
    let past = c.loop-k-test.false in let few = c.min-k-end.ensures in let counts = c.branches.ensures.counts in let branches = c.branches.ensures.branches in
    record {
      counts = c.loop-k.invariant.links.counts ∙ run_end r.counts a b c.min-k-end.result k c.loop-k.auto.k past c.loop-k.auto.k-end c.loop-k.invariant.none (few ∙ ap (λ (n : ℕ). min n b) counts);
      handles = c.loop-k.invariant.links.handles ∙ run_end r.branches a b c.min-k-end.result k c.loop-k.auto.k past c.loop-k.auto.k-end c.loop-k.invariant.none (few ∙ ap (λ (n : ℕ). min n b) branches);
    }
