use Rattle.std.proofs.Common.{◌≡◌, ◌+◌, ◌++◌, ◌∙◌, arith, ap, ap₂, sym, length, take, drop, slice_range, List, ℕ}
use Rattle.std.proofs.lemmas.List.{take-take}
use Rattle.std.proofs.lemmas.List.Edits.{length-between}
use Rattle.std.proofs.lemmas.Slice.{between_is}
use Rattle.raw_region.specs.Bytes.{put}
use Rattle.raw_region.proofs.Blocks.{put_in_back}
use Rattle.raw_region.proofs.moving.copy_up.Goals as goal

pub returns : goal.returns
returns c =
    let xs = c.args.bytes.now in let from = c.args.from in let to = c.args.to in let n = c.args.n in
    let f = c.split_at_mut-front.result.0.now in let b = c.split_at_mut-front.result.1.now in let new = c.copy_from_slice.new.self in
    let run = slice_range xs from (from + n) in let long = length-between xs from (from + n) (omega (arith, c.requires.target, c.requires.apart)) in
    let inside : slice_range f from (from + n) ≡ run =
    between_is f from (from + n) ∙ (ap (λ (l : List ℕ). drop from (take (from + n) l)) c.split_at_mut-front.ensures.front ∙ (ap (drop from) (take-take (from + n) to xs c.requires.apart) ∙ sym (between_is xs from (from + n)))) in
    let is : new ≡ run = c.copy_from_slice.ensures.after ∙ inside in
    let size : length new ≡ n = ap length is ∙ omega (arith, long) in
    ap (λ (k : ℕ). f ++ (new ++ drop k b)) (sym size)
    ∙ (sym (put_in_back f b new (omega (arith, size, c.split_at_mut-front.ensures.back_len, c.requires.target)))
    ∙ (ap₂ (λ (l : List ℕ) (k : ℕ). put l k new) (sym c.split_at_mut-front.ensures.value) c.split_at_mut-front.ensures.front_len ∙ ap (λ (l : List ℕ). put xs to l) is))
