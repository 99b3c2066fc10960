use Rattle.std.proofs.Common.{◌≡◌, ◌∙◌, ◌+◌, ℕ, drop, Some, refl, subst, ap, arith}
use Rattle.geos_model.specs.Document.{raw_bytes_of}
use Rattle.chunk_arrays.proofs.PlaceLemmas.{place-within}
use Rattle.large_arrays.specs.Loading.{branch_under}
use Rattle.large_arrays.proofs.LoadedBranches.{placed-within}
use Rattle.large_arrays.proofs.LentRuns.{lent_bytes}
use Rattle.large_arrays.proofs.lent_runs.run_place.Goals as goal

pub overflow_add-result : goal.overflow_add-result
overflow_add-result g c =
    let a = c.in_ok-view.view.array in let there = c.requires.there in let e = c.in_ok-view.ensures {u = tt} in
    let many = e.plain.1 in let from = c.from.ensures in let short = e.short in let at = c.place.ensures.place in
    let within = place-within a c.args.spot.now.before (omega (arith, there, many, from)) in
    omega (arith, short, at, within)

pub returns-clause-value : goal.returns-clause-value
returns-clause-value g c =
    let a = c.in_ok-view.view.array in let e = c.in_ok-view.ensures {u = tt} in let s = c.args.spot.now in let d = c.args.blocks.now.document in
    let there = c.requires.there in let many = e.plain.1 in let from = c.from.ensures in
    record {
      block = refl;
      elements = a.elements;
      branch = subst (λ (n : ℕ). branch_under d s.link.handle.0 s.size n ≡ Some a.elements) c.from.ensures e.value;
      bytes = ap (λ (n : ℕ). drop (2 + n) (raw_bytes_of d s.link.handle.0)) c.place.ensures.place
          ∙ lent_bytes d s.link.handle.0 s.size c.from.result a c.requires.size e.value e.plain s.before (omega (arith, there, many, from));
    }

pub returns-clause-ready : goal.returns-clause-ready
returns-clause-ready g c =
    let a = c.in_ok-view.view.array in let e = c.in_ok-view.ensures {u = tt} in let s = c.args.spot.now in let d = c.args.blocks.now.document in
    let there = c.requires.there in let many = e.plain.1 in let from = c.from.ensures in let at = c.place.ensures.place in
    let within = placed-within d s.link.handle.0 s.size c.from.result a c.requires.size e.value e.plain s.before (omega (arith, there, many, from)) in
    record { loaded = c.requires.loaded.loaded; raw = c.requires.loaded.raw; within = omega (arith, at, within) }
