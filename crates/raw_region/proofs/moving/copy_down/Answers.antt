use Rattle.std.proofs.Common.{◌≡◌, ◌+◌, ◌-◌, ◌++◌, ◌∙◌, arith, ap, ap₂, sym, length, take, slice_range, List, ℕ}
use Rattle.std.proofs.lemmas.List.Edits.{length-between}
use Rattle.raw_region.specs.Bytes.{put}
use Rattle.raw_region.proofs.Blocks.{put_part, put_in_front}
use Rattle.raw_region.proofs.moving.copy_down.Goals as goal

pub returns : goal.returns
returns c =
    let xs = c.args.bytes.now in let from = c.args.from in let to = c.args.to in let n = c.args.n in
    let f = c.split_at_mut-front.result.0.now in let b = c.split_at_mut-front.result.1.now in let new = c.copy_from_slice.new.self in
    let run = slice_range xs from (from + n) in let long = length-between xs from (from + n) (omega (arith, c.requires.source)) in
    let count : n ≡ from + n - from = omega arith in
    let is : new ≡ run = c.copy_from_slice.ensures.after ∙ ap₂ (λ (k : ℕ) (l : List ℕ). take k l) count c.split_at_mut-front.ensures.back in
    let size : length new ≡ n = ap length is ∙ omega (arith, long) in
    ap (λ (l : List ℕ). l ++ b) (put_part f new to (to + n - to) (omega (arith, size, c.split_at_mut-front.ensures.front_len, c.requires.apart)) (omega (arith, size)))
    ∙ (sym (put_in_front f b new to (omega (arith, size, c.split_at_mut-front.ensures.front_len, c.requires.apart))) ∙ (ap (λ (l : List ℕ). put l to new) (sym c.split_at_mut-front.ensures.value) ∙ ap (λ (l : List ℕ). put xs to l) is))
