use Rattle.std.proofs.Common.{◌≡◌, ◌∙◌, ◌<◌, ℕ, List, None, Some, length, sym, ap, subst, arith}
use Rattle.std.proofs.lemmas.Result.{MatchResult-weaker}
use Rattle.geos_model.specs.LargeLayout.{branch_of}
use Rattle.large_arrays.specs.Middle.{run_links}
use Rattle.large_arrays.specs.RunReading.{run_count}
use Rattle.large_arrays.specs.declared.spot.BranchLink.{BranchLink}
use Rattle.large_arrays.proofs.SpotRuns.{run-is, run-link}
use Rattle.large_arrays.proofs.RunReads.{run-read, run-unread, with_ok}
use Rattle.large_arrays.proofs.middle.run_branch.Goals as goal

pub returns : goal.returns
returns c =
    let s = c.args.spot.now in let bodies = c.args.bodies.now in let n : ℕ = c.args.n in
    let has = run-is s c.requires.run in
    let many = c.requires.many in let within = c.requires.within in
    let low : n < length (run_links s) = omega arith in
    let counted : c.from.result ≡ run_count s n = c.from.ensures ∙ ap (λ (l : BranchLink). l.count) c.index-link.ensures ∙ sym (run-link s n c.index-link.result.now low) in
    let same : c.as_slice.result.now ≡ c.index-bodies-n.result.items = c.as_slice.ensures.value in
    MatchResult-weaker c.read_branch.result (with_ok c.read_branch.result _ _ _ c.read_branch.ensures.value c.read_branch.ensures.plain)
    (λ view is.
    run-read s has bodies many n c.from.result c.index-bodies-n.result view.array c.requires.short within counted c.index-bodies-n.is
    (subst (λ (bytes : List ℕ). branch_of s.size c.from.result bytes ≡ Some view.array.elements) same is.0) is.1)
    (λ fault bad. (
      bad.0,
      run-unread s has bodies many n c.from.result c.index-bodies-n.result within counted c.index-bodies-n.is
          (subst (λ (bytes : List ℕ). branch_of s.size c.from.result bytes ≡ None) same bad.1),
    ))
