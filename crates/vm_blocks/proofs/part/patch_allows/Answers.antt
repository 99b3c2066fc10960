use Rattle.std.proofs.Common.{◌≡◌, ◌+◌, ◌-◌, ◌^◌, ◌<◌, ℕ, List, Bool, true, length, min, replicate, inl, inr, sym, ap, subst, ◌∙◌, arith}
use Rattle.std.proofs.lemmas.Bool.{cases_lt}
use Rattle.std.proofs.lemmas.List.{length-replicate}
use Rattle.std.specs.FinMap.{contains_key}
use Rattle.geos_model.specs.Heap.{ChunkMap, chunk_bytes, fits_with, is_heap_map}
use Rattle.geos_model.proofs.HeapTables.{chunk_bytes_le, fits_with-many}
use Rattle.chunk_edits.specs.Patching.{directed_pieces, peak, total_taken}
use Rattle.vm_blocks.proofs.PartLemmas.{directed_peak}
use Rattle.vm_blocks.proofs.part.patch_allows.Goals as goal

-- a number that is cut where no word holds it is the same for a heap, which has no room for as many bytes
module _ (m : ChunkMap) (h : ℕ) (heap : is_heap_map m ≡ true) (live : contains_key m h ≡ true) (n k : ℕ) (cut : n ≡ min k (2 ^ 64 - 1)) where
  room_cut : (r : Bool) → ((bytes : List ℕ) → length bytes ≡ 0 + n → r ≡ fits_with m h bytes) → r ≡ fits_with m h (replicate k 0)
  room_cut r fit = elim (cases_lt 65520 k) [
    | inl many ↦
        let more : 65520 < n = omega arith in
        fit (replicate n 0) (length-replicate {A = ℕ} n 0 ∙ omega arith) ∙ fits_with-many m h (replicate n 0) heap live (omega (arith, length-replicate {A = ℕ} n 0))
        ∙ sym (fits_with-many m h (replicate k 0) heap live (omega (arith, length-replicate {A = ℕ} k 0)))
    | inr few ↦ fit (replicate k 0) (length-replicate {A = ℕ} k 0 ∙ omega arith)
  ]

  size_cut : length (chunk_bytes m h) ≡ n → k ≡ length (chunk_bytes m h)
  size_cut is = let few = chunk_bytes_le m h heap live in omega (arith, few, is)

pub returns-then-is_sized : goal.returns-then-is_sized
returns-then-is_sized c =
    let m = c.args.heap.now.chunks in let h = c.args.chunk.0 in
    let ps = directed_pieces c.args.direction c.args.patch.now in
    let valid = c.in-Some.ensures.valid in
    let same = c.in-Some.ensures.value.0 in
    let is = c.in-Some.ensures.value.1 in
    let live : contains_key m h ≡ true = subst (λ (k : ℕ). contains_key m k ≡ true) same is.live in
    let bytes : chunk_bytes m h ≡ c.found_bytes-size.result.now = ap (λ (k : ℕ). chunk_bytes m k) (sym same) ∙ sym c.found_bytes-size.ensures in
    let size : total_taken ps ≡ length (chunk_bytes m h) = size_cut m h valid live c.size_before.result (total_taken ps) c.size_before.ensures (ap length bytes ∙ c.if-is_sized.true) in
    let room : c.has_room.result ≡ fits_with m h (replicate (peak ps) 0) =
    room_cut m h valid live c.peak.result (peak c.args.patch.now) c.peak.ensures c.has_room.result (λ bs long. c.has_room.ensures bs (omega (arith, long)) ∙ ap (λ (k : ℕ). fits_with m k bs) same)
    ∙ ap (λ (k : ℕ). fits_with m h (replicate k 0)) (sym (directed_peak c.args.direction c.args.patch.now)) in
    (λ fit. record { live = live; size = size; fits = sym room ∙ fit }, λ allows. room ∙ allows.fits)
