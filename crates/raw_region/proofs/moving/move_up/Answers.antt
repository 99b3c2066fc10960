use Rattle.std.proofs.Common.{◌≤◌, ◌+◌, ◌-◌, arith, rules}
use Rattle.raw_region.proofs.Blocks.{no_block, block_up}
use Rattle.raw_region.proofs.moving.move_up.Goals as goal

pub loop-left-init : goal.loop-left-init
loop-left-init c = (omega arith, no_block c.args.bytes.now (c.args.to + c.args.n) (c.args.from + c.args.n) (c.args.from + c.args.n) (omega arith) c.requires.target)

pub loop-left-preserved : goal.loop-left-preserved
loop-left-preserved c =
    let left = c.loop-left.left in let k = c.min-k.result in let at = left - k in let step : k ≤ left = search rules in let within = c.loop-left.invariant.0 in
    (omega (arith, within), block_up c.args.bytes.now c.loop-left.bytes c.move_block.new.bytes c.args.from c.args.to c.args.n left at k c.requires.up c.requires.target (omega (arith, step)) within c.loop-left.invariant.1 c.move_block.ensures)
