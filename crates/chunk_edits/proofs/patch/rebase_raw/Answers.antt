use Rattle.std.proofs.Common.{◌≡◌, ◌∙◌, ◌-◌, ◌/◌, ℕ, List, ap, length, take, drop, arith, length-drop, length-take-le}
use Rattle.raw_region.specs.Bytes.{put}
use Rattle.chunk_edits.specs.Patching.{rebased}
use Rattle.chunk_edits.proofs.PatchingLemmas.{length-rebased}
use Rattle.chunk_edits.proofs.RebasingLemmas.{put_lent}
use Rattle.chunk_edits.proofs.patch.rebase_raw.Goals as goal

pub returns : goal.returns
returns c =
    let bytes = c.args.body.now in let at = c.args.at in let end = c.args.end in
    let part = take (end - at) (drop at bytes) in
    let n = (end - at) / 2 in
    let lent : c.slice_mut.result.now ≡ part = c.slice_mut.ensures.value ∙ ap (λ (k : ℕ). take k (drop at bytes)) (omega arith) in
    let count : length part ≡ end - at = length-take-le (end - at) (drop at bytes) (omega (arith, length-drop at bytes)) in
    let done : c.rebase.new.words ≡ rebased n c.args.from c.args.to part =
    c.rebase.ensures
    ∙ (ap (λ (l : List ℕ). rebased (length l / 2) c.args.from c.args.to l) lent
    ∙ ap (λ (k : ℕ). rebased (k / 2) c.args.from c.args.to part) count) in
    let size : length (rebased n c.args.from c.args.to part) ≡ end - at = let twice = length-rebased n c.args.from c.args.to part in omega (arith, twice) in
    ap (λ (l : List ℕ). put bytes at (take (end - at) l)) done
    ∙ put_lent bytes (rebased n c.args.from c.args.to part) at end c.requires.order c.requires.within size
