use Rattle.std.proofs.Common.{◌≡◌, ◌++◌, ◌∙◌, ◌-◌, ◌/◌, ℕ, List, ap, length, take, drop, arith, length-drop, length-take-le}
use Rattle.std.specs.FinMap.{insert}
use Rattle.geos_model.specs.Heap.{chunk_bytes}
use Rattle.raw_region.specs.Bytes.{put}
use Rattle.chunk_edits.specs.Patching.{rebased}
use Rattle.chunk_edits.proofs.PatchingLemmas.{length-rebased}
use Rattle.chunk_edits.proofs.RebasingLemmas.{put_back_part}
use Rattle.chunk_edits.proofs.patch.rebase_chunk.Goals as goal

pub returns : goal.returns
returns c =
    let m = c.args.heap.now.chunks in let h = c.args.h.0 in let at = c.args.at in let end = c.args.end in
    let bytes = chunk_bytes m h in let lent = c.chunk_mut-chunk.result.now in
    let part = take (end - at) (drop at bytes) in
    let n = (end - at) / 2 in
    let count : length part ≡ end - at = length-take-le (end - at) (drop at bytes) (omega (arith, length-drop at bytes)) in
    let done : c.rebase.new.words ≡ rebased n c.args.from c.args.to part =
    c.rebase.ensures
    ∙ (ap (λ (l : List ℕ). rebased (length (take (end - at) (drop at l)) / 2) c.args.from c.args.to (take (end - at) (drop at l))) c.chunk_mut-chunk.ensures.value
    ∙ ap (λ (k : ℕ). rebased (k / 2) c.args.from c.args.to part) count) in
    let size : length (rebased n c.args.from c.args.to part) ≡ end - at = let twice = length-rebased n c.args.from c.args.to part in omega (arith, twice) in
    ap (λ (l : List ℕ). insert m h (put bytes 0 (take at l ++ (c.rebase.new.words ++ drop (end - at) (drop at l))))) c.chunk_mut-chunk.ensures.value
    ∙ (ap (λ (l : List ℕ). insert m h (put bytes 0 (take at bytes ++ (l ++ drop (end - at) (drop at bytes))))) done
    ∙ ap (insert m h) (put_back_part bytes (rebased n c.args.from c.args.to part) at end c.requires.order c.requires.within size))
