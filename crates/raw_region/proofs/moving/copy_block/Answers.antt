use Rattle.std.proofs.Common.{◌≡◌, ◌+◌, ◌-◌, ◌∙◌, arith, ap, length, slice_range, List, ℕ}
use Rattle.std.proofs.lemmas.List.{take_at}
use Rattle.std.proofs.lemmas.List.Edits.{length-between}
use Rattle.raw_region.specs.Bytes.{put}
use Rattle.raw_region.proofs.Blocks.{put_part}
use Rattle.raw_region.proofs.moving.copy_block.Goals as goal

pub returns : goal.returns
returns c =
    let xs = c.args.bytes.now in let to = c.args.to in let end = c.args.from + c.args.n in
    let run = slice_range xs c.args.from end in let long = length-between xs c.args.from end (omega (arith, c.requires.source)) in
    let first : c.copy_from_slice.new.self ≡ run = c.copy_from_slice.ensures.after in
    let is : c.copy_from_slice-2.new.self ≡ run = c.copy_from_slice-2.ensures.after ∙ (take_at c.copy_from_slice.new.self _ c.args.n (omega (arith, ap length first, long)) ∙ first) in
    put_part xs c.copy_from_slice-2.new.self to (to + c.args.n - to) (omega (arith, ap length is, long, c.requires.target)) (omega (arith, ap length is, long)) ∙ ap (λ (l : List ℕ). put xs to l) is
