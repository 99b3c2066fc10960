use Rattle.std.proofs.Common.{◌≡◌, ◌∙◌, ◌+◌, ◌-◌, ◌++◌, ◌∷◌, ℕ, List, [], length, ap, ap₂, arith}
use Rattle.std.specs.List.{splice}
use Rattle.chunk_edits.specs.Patching.{PatchPiece, Keep, Put, PatchLeads}
use Rattle.chunk_arrays.proofs.PlaceLemmas.{place-within, place-step}
use Rattle.geos_model.specs.LargeLayout.{branch_bytes}
use Rattle.large_arrays.proofs.WrittenBranches.{array-patch, branch-long, new-short, written-long}
use Rattle.large_arrays.proofs.overwriting.run_patch.Goals as goal

pub overflow_add-start : goal.overflow_add-start
overflow_add-start c =
    let a = c.args.view.now.array in let short = c.requires.short in let within = c.requires.within in
    let place = c.place-start.ensures.place in let low = place-within a c.args.from (omega arith) in
    omega (arith, short, place, low)

pub overflow_sub-behind : goal.overflow_sub-behind
overflow_sub-behind c =
    let a = c.args.view.now.array in let within = c.requires.within in let count = c.count.ensures.value in
    let place = c.place.ensures.place in let low = place-within a (c.args.from + c.count.result) (omega arith) in
    omega (arith, place, low, ap {A = List ℕ} (λ (bytes : List ℕ). length bytes) c.bytes.ensures)

pub overflow_cast-start : goal.overflow_cast-start
overflow_cast-start c =
    let a = c.args.view.now.array in let short = c.requires.short in let within = c.requires.within in
    let place = c.place-start.ensures.place in let low = place-within a c.args.from (omega arith) in
    omega (arith, short, place, low)

pub put-requires-clause-old : goal.put-requires-clause-old
put-requires-clause-old c =
    let a = c.args.view.now.array in let short = c.requires.short in let within = c.requires.within in let count = c.count.ensures.value in
    let to : ℕ = c.args.from + c.count.result in
    let low = place-within a to (omega arith) in let step = place-step a c.args.from to (omega arith) in
    let bytes = ap {A = List ℕ} (λ (xs : List ℕ). length xs) c.run.ensures in
    omega (arith, short, low, step, bytes)

pub put-requires-clause-new : goal.put-requires-clause-new
put-requires-clause-new c =
    let a = c.args.view.now.array in let short = c.requires.short in let within = c.requires.within in
    let most = new-short a c.args.new.now.size c.args.new.now.elements c.args.view.now.even c.requires.plain.0 c.requires.sized c.count.ensures.sized (omega arith) in
    let bytes = ap {A = List ℕ} (λ (xs : List ℕ). length xs) c.bytes-2.ensures.value in
    omega (arith, short, most, bytes)

pub returns : goal.returns
returns c =
    let v = c.args.view.now in let xs = v.array.elements in let size : ℕ = c.args.new.now.size in let from : ℕ = c.args.from in let new = c.args.new.now.elements in
    let to : ℕ = from + c.count.result in
    let pieces : c.keep-2.new.self ≡ Keep (2 + c.place-start.result) ∷ Put c.run.result.now c.bytes-2.result.now ∷ Keep (length c.bytes.result.now - c.place.result) ∷ [] =
    ◌∙◌ {A = List PatchPiece} c.in_ok-keep-2.ensures.ok (ap (λ (ps : List PatchPiece). ps ++ Keep (length c.bytes.result.now - c.place.result) ∷ []) (
    ◌∙◌ {A = List PatchPiece} c.in_ok-put.ensures.ok (ap (λ (ps : List PatchPiece). ps ++ Put c.run.result.now c.bytes-2.result.now ∷ []) (
    ◌∙◌ {A = List PatchPiece} c.in_ok-keep.ensures.ok (ap (λ (ps : List PatchPiece). ps ++ Keep (2 + c.place-start.result) ∷ []) c.in_ok-patch.ensures))))) in
    let leads : PatchLeads c.keep-2.new.self (branch_bytes size xs) (branch_bytes size (splice xs from (from + length new) new)) =
    array-patch v.array size from new c.keep-2.new.self to (2 + c.place-start.result) (length c.bytes.result.now - c.place.result)
    c.run.result.now c.bytes-2.result.now c.requires.plain c.requires.sized c.requires.within (ap (λ (n : ℕ). from + n) c.count.ensures.value)
    (ap (λ (n : ℕ). 2 + n) c.place-start.ensures.place) (ap₂ (λ (bytes : List ℕ) (n : ℕ). length bytes - n) c.bytes.ensures c.place.ensures.place)
    c.run.ensures c.bytes-2.ensures.value pieces in
    let old = branch-long size v.array c.requires.plain in let short = c.requires.short in let high = leads.peak in
    let long = written-long v.array size from new v.even c.requires.plain c.requires.sized c.count.ensures.sized c.requires.within in
    record { leads = leads; short = omega (arith, old, short, high, long) }
