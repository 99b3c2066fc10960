use Rattle.std.proofs.Common.{◌≡◌, ◌∙◌, ◌+◌, ◌-◌, ℕ, take, drop, Some, subst, ap₂, arith}
use Rattle.geos_model.specs.Document.{raw_bytes_of}
use Rattle.chunk_arrays.proofs.PlaceLemmas.{place-within, place-order}
use Rattle.large_arrays.specs.Loading.{branch_under}
use Rattle.large_arrays.proofs.LoadedBranches.{placed-within, placed-element}
use Rattle.large_arrays.proofs.look_ups.element_place.Goals as goal

pub overflow_add-result : goal.overflow_add-result
overflow_add-result g c =
    let a = c.in_ok-view.view.array in let there = c.requires.there in let e = c.in_ok-view.ensures {u = tt} in
    let many = e.plain.1 in let from = c.from.ensures in let short = e.short in let at = c.place.ensures.place in
    let within = place-within a c.args.spot.now.before (omega (arith, there, many, from)) in
    omega (arith, short, at, within)

pub overflow_add-result-2 : goal.overflow_add-result-2
overflow_add-result-2 g c =
    let a = c.in_ok-view.view.array in let there = c.requires.there in let e = c.in_ok-view.ensures {u = tt} in
    let many = e.plain.1 in let from = c.from.ensures in let short = e.short in let at = c.place-2.ensures.place in
    let within = place-within a (c.args.spot.now.before + 1) (omega (arith, there, many, from)) in
    omega (arith, short, at, within)

pub returns-clause-value : goal.returns-clause-value
returns-clause-value g c =
    let a = c.in_ok-view.view.array in let e = c.in_ok-view.ensures {u = tt} in let s = c.args.spot.now in let d = c.args.blocks.now.document in
    let there = c.requires.there in let many = e.plain.1 in let from = c.from.ensures in
    record {
      elements = a.elements;
      branch = subst (λ (n : ℕ). branch_under d s.link.handle.0 s.size n ≡ Some a.elements) c.from.ensures e.value;
      bytes = ap₂ (λ (to from : ℕ). take (2 + to - (2 + from)) (drop (2 + from) (raw_bytes_of d s.link.handle.0))) c.place-2.ensures.place c.place.ensures.place
          ∙ placed-element d s.link.handle.0 s.size c.from.result a c.requires.size e.value e.plain s.before (omega (arith, there, many, from));
    }

pub returns-clause-ready : goal.returns-clause-ready
returns-clause-ready g c =
    let a = c.in_ok-view.view.array in let e = c.in_ok-view.ensures {u = tt} in let s = c.args.spot.now in let d = c.args.blocks.now.document in
    let there = c.requires.there in let many = e.plain.1 in let from = c.from.ensures in let at = c.place.ensures.place in let behind = c.place-2.ensures.place in
    let up = place-order a s.before (s.before + 1) (omega arith) in
    let within = placed-within d s.link.handle.0 s.size c.from.result a c.requires.size e.value e.plain (s.before + 1) (omega (arith, there, many, from)) in
    record { block = c.requires.loaded; order = omega (arith, at, behind, up); within = omega (arith, behind, within) }
