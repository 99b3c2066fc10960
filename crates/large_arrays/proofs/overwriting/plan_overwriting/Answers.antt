use Rattle.std.proofs.Common.{◌≡◌, ◌∙◌, ◌∷◌, ◌+◌, ◌≤◌, ◌≢◌, ℕ, List, MatchResult, false, length, get_or, refl, sym, ap, subst, inl, inr, arith}
use Rattle.std.proofs.lemmas.Result.{IfOk-weaker}
use Rattle.geos_model.specs.ElementArray.{all_distinct}
use Rattle.geos_model.specs.declared.fault.Fault.{Fault}
use Rattle.geos_model.specs.declared.fault.Fault.TheVariants.{Memory}
use Rattle.geos_model.proofs.BlockLists.{distinct-rest}
use Rattle.vm_blocks.specs.Keeping.{IsEnvironmentFault}
use Rattle.vm_blocks.proofs.KeepingLaws.{keeps-refl, lacks-memory}
use Rattle.vm_chains.specs.Walking.{Stops}
use Rattle.vm_chains.proofs.Loading.{carried, carried_so}
use Rattle.large_arrays.specs.LargeRuns.{are_branches_under}
use Rattle.large_arrays.specs.Middle.{run_links}
use Rattle.large_arrays.specs.OverwritingPlans.{AreBranchesWritten}
use Rattle.large_arrays.specs.Spots.{counts_of, link_handles}
use Rattle.large_arrays.specs.declared.spot.BranchLink.{BranchLink}
use Rattle.large_arrays.proofs.OverwritingAnswers.{run-answered, run-enough, run-twice}
use Rattle.geos_model.proofs.OverwrittenPieces.{sum}
use Rattle.large_arrays.proofs.RunSpots.{has-links, run-same}
use Rattle.large_arrays.proofs.SpotRuns.{run-is}
use Rattle.large_arrays.proofs.overwriting.plan_overwriting.Goals as goal

pub overflow_add-spot : goal.overflow_add-spot
overflow_add-spot g c = (let run = has-links c.args.spot.now c.requires.run in let last = run.last in omega arith)

pub links_between-links-requires : goal.links_between-links-requires
links_between-links-requires g c =
    let has = run-is c.args.spot.now c.requires.run in
    let first = has.first in let order = has.order in let long = has.long in
    record { first = first; order = omega arith; within = omega arith }

pub returns-in_err-are_distinct-clause-keeps : goal.returns-in_err-are_distinct-clause-keeps
returns-in_err-are_distinct-clause-keeps g c = keeps-refl g.S.Store.facts c.args.blocks.now

pub returns-in_err-are_distinct-clause-value : goal.returns-in_err-are_distinct-clause-value
returns-in_err-are_distinct-clause-value g c = λ steady i is.
    carried c.from_residual.result Memory _ _ c.from_residual.ensures.1 (inl (lacks-memory g.S.Store.facts c.args.blocks.now.disk.store c.args.blocks.now.disk.store))

pub returns-in_err-are_distinct-clause-refusals : goal.returns-in_err-are_distinct-clause-refusals
returns-in_err-are_distinct-clause-refusals g c =
    carried_so c.from_residual.result Memory _ c.from_residual.ensures.1 (inl (lacks-memory g.S.Store.facts c.args.blocks.now.disk.store c.args.blocks.now.disk.store))

pub returns-then-not-branch-clause-keeps : goal.returns-then-not-branch-clause-keeps
returns-then-not-branch-clause-keeps g c = keeps-refl g.S.Store.facts c.args.blocks.now

pub returns-then-not-branch-clause-value : goal.returns-then-not-branch-clause-value
returns-then-not-branch-clause-value g c = λ steady i is.
    let b : ℕ = c.args.root.0 in let s = c.args.spot.now in
    let same : c.links_between-links.result.now ≡ run_links s = ◌∙◌ {A = List BranchLink} c.links_between-links.ensures (run-same s) in
    let distinct : c.in_ok-are_distinct.field-0 ≡ all_distinct (b ∷ link_handles (run_links s)) = c.in_ok-are_distinct.ensures ∙ ap (λ (ls : List BranchLink). all_distinct (b ∷ link_handles ls)) same in
    inr (refl, run-twice c.args.blocks.now.document b i c.args.new.now s c.requires.run is c.requires.some (sym distinct ∙ c.if-not-branch.true))

pub returns-then-not-branch-clause-refusals : goal.returns-then-not-branch-clause-refusals
returns-then-not-branch-clause-refusals g c = inr refl

pub plan_branches-requires : goal.plan_branches-requires
plan_branches-requires g c =
    let b : ℕ = c.args.root.0 in let s = c.args.spot.now in let has = run-is s c.requires.run in let size = c.requires.size in
    let same : c.links_between-links.result.now ≡ run_links s = ◌∙◌ {A = List BranchLink} c.links_between-links.ensures (run-same s) in
    let small = has.small in
    record {
      room = c.requires.room;
      once = distinct-rest b (link_handles c.links_between-links.result.now) (sym c.in_ok-are_distinct.ensures ∙ c.if-not-branch.false);
      first = λ some. subst (λ (ls : List BranchLink). s.start.1 ≤ get_or (counts_of ls) 0 0) (sym same) has.head;
      sized = subst (λ (n : ℕ). n ≢ 0) (sym size) c.requires.sized;
      small = omega arith;
    }

pub returns-clause-value : goal.returns-clause-value
returns-clause-value g c = λ steady i is.
    let a = c.args.blocks.now in let e = c.plan_branches.new.blocks in let b : ℕ = c.args.root.0 in let s = c.args.spot.now in let new = c.args.new.now in
    let lacks : Fault → Type 0 = IsEnvironmentFault g.S.Store.facts a.disk.store e.disk.store in
    let same : c.links_between-links.result.now ≡ run_links s = ◌∙◌ {A = List BranchLink} c.links_between-links.ensures (run-same s) in
    let distinct : c.in_ok-are_distinct.field-0 ≡ all_distinct (b ∷ link_handles (run_links s)) = c.in_ok-are_distinct.ensures ∙ ap (λ (ls : List BranchLink). all_distinct (b ∷ link_handles ls)) same in
    let enough : s.start.1 + length new.elements ≤ sum (counts_of c.links_between-links.result.now) =
    subst (λ (ls : List BranchLink). s.start.1 + length new.elements ≤ sum (counts_of ls)) (sym same) (run-enough e.document b i new s c.requires.run is c.requires.some) in
    run-answered (λ changes. changes.items) lacks lacks e.document b i new s c.plan_branches.result c.requires.run is c.requires.some c.requires.size (sym distinct ∙ c.if-not-branch.false)
    (λ fault lack. lack)
    (subst (λ (ls : List BranchLink). MatchResult c.plan_branches.result (λ changes. AreBranchesWritten e.document ls s.start.1 new changes.items)
    (Stops lacks (are_branches_under e.document new.size ls ≡ false))) same (c.plan_branches.ensures.value steady enough))

pub returns-clause-some : goal.returns-clause-some
returns-clause-some g c =
    let s = c.args.spot.now in let has = run-is s c.requires.run in
    let many : length c.links_between-links.result.now ≡ length (run_links s) = ap {A = List BranchLink} length (◌∙◌ {A = List BranchLink} c.links_between-links.ensures (run-same s)) in
    let long = has.many in let order = has.order in
    IfOk-weaker c.plan_branches.result _ _ (λ changes all. omega (arith, all, many, long, order)) c.plan_branches.ensures.many
