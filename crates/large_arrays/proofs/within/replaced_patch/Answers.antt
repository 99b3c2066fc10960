use Rattle.std.proofs.Common.{◌≡◌, ◌∙◌, ◌-◌, ◌++◌, ◌∷◌, ◌==◌, ℕ, List, [], false, length, refl, ap, ap₂, arith}
use Rattle.std.specs.List.{splice}
use Rattle.chunk_edits.specs.Patching.{PatchPiece, Keep, Put, PatchLeads}
use Rattle.chunk_arrays.proofs.PlaceLemmas.{place-within, place-step}
use Rattle.geos_model.specs.LargeLayout.{branch_bytes}
use Rattle.large_arrays.proofs.WithinPatches.{array-short, array-within, new-few}
use Rattle.large_arrays.proofs.WrittenBranches.{branch-long, some-size}
use Rattle.large_arrays.proofs.within.replaced_patch.Goals as goal

pub overflow_sub-behind : goal.overflow_sub-behind
overflow_sub-behind c =
    let a = c.args.view.now.array in let fits = c.requires.fits in let many = c.requires.plain.1 in let within = fits.within in
    let place = c.place.ensures.place in let low = place-within a c.args.edit.now.to (omega arith) in
    omega (arith, place, low, ap {A = List ℕ} (λ (bytes : List ℕ). length bytes) c.bytes.ensures)

pub overflow_cast-start : goal.overflow_cast-start
overflow_cast-start c =
    let a = c.args.view.now.array in let short = c.requires.short in let fits = c.requires.fits in let many = c.requires.plain.1 in let order = fits.order in let within = fits.within in
    let place = c.place-start.ensures.place in let low = place-within a c.args.edit.now.from (omega arith) in
    omega (arith, short, place, low)

pub put-requires-2-clause-old : goal.put-requires-2-clause-old
put-requires-2-clause-old c =
    let a = c.args.view.now.array in let e = c.args.edit.now in let short = c.requires.short in let fits = c.requires.fits in let many = c.requires.plain.1 in let order = fits.order in let within = fits.within in
    let low = place-within a e.to (omega arith) in let step = place-step a e.from e.to order in
    let bytes = ap {A = List ℕ} (λ (xs : List ℕ). length xs) c.run.ensures in
    omega (arith, short, low, step, bytes)

pub put-requires-2-clause-new : goal.put-requires-2-clause-new
put-requires-2-clause-new c =
    let e = c.args.edit.now in let new = c.args.new.now in let fits = c.requires.fits in let count = fits.count in
    let most = new-few new.size e.count new.elements (some-size new.size fits.sized) c.bytes-2.ensures.sized (omega arith) fits.fits in
    let bytes = ap {A = List ℕ} (λ (xs : List ℕ). length xs) c.bytes-2.ensures.value in
    omega (arith, most, bytes)

pub returns : goal.returns
returns c =
    let v = c.args.view.now in let a = v.array in let e = c.args.edit.now in let new = c.args.new.now in let fits = c.requires.fits in let plain = c.requires.plain in
    let start : ℕ = c.place-start.result - 2 in let rest : ℕ = length c.bytes.result.now - c.place.result in
    let head : List ℕ = c.as_slice.result.now in let after : List ℕ = c.as_slice-2.result.now in let old : List ℕ = c.run.result.now in let bytes : List ℕ = c.bytes-2.result.now in
    let one : (new.size == 0) ≡ false = some-size new.size fits.sized in
    let pieces : c.keep-2.new.self ≡ Put head after ∷ Keep start ∷ Put old bytes ∷ Keep rest ∷ [] =
    ◌∙◌ {A = List PatchPiece} c.in_ok-keep-2.ensures.ok (ap (λ (ps : List PatchPiece). ps ++ Keep rest ∷ []) (
    ◌∙◌ {A = List PatchPiece} c.in_ok-put-2.ensures.ok (ap (λ (ps : List PatchPiece). ps ++ Put old bytes ∷ []) (
    ◌∙◌ {A = List PatchPiece} c.in_ok-keep.ensures.ok (ap (λ (ps : List PatchPiece). ps ++ Keep start ∷ []) (
    ◌∙◌ {A = List PatchPiece} c.in_ok-put.ensures.ok (ap (λ (ps : List PatchPiece). ps ++ Put head after ∷ []) c.in_ok-patch.ensures))))))) in
    let leads : PatchLeads c.keep-2.new.self (branch_bytes new.size a.elements) (branch_bytes new.size (splice a.elements e.from e.to new.elements)) =
    array-within a new.size e.link.count e.count e.from e.to new.elements c.keep-2.new.self start rest head after old bytes plain one fits.order fits.within fits.count
    (c.as_slice.ensures ∙ c.count_bytes-old.ensures) (c.as_slice-2.ensures ∙ c.count_bytes.ensures)
    (ap (λ (n : ℕ). n - 2) c.place-start.ensures.place) (ap₂ (λ (l : List ℕ) (n : ℕ). length l - n) c.bytes.ensures c.place.ensures.place)
    c.run.ensures c.bytes-2.ensures.value pieces in
    let before = branch-long new.size a (plain.0, refl, plain.2) in let short = c.requires.short in let high = leads.peak in
    let long = array-short a new.size e.link.count e.count e.from e.to new.elements v.even plain one fits.order fits.within fits.count c.bytes-2.ensures.sized fits.fits in
    record { leads = leads; short = omega (arith, before, short, high, long) }
