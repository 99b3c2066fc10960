use Rattle.std.proofs.Common.{◌≤◌, ◌+◌, arith, rules}
use Rattle.raw_region.proofs.Blocks.{no_block, block_down}
use Rattle.raw_region.proofs.moving.move_down.Goals as goal

pub loop-done-init : goal.loop-done-init
loop-done-init c = (omega arith, no_block c.args.bytes.now c.args.to c.args.from (c.args.from + 0) (omega arith) (omega (arith, c.requires.down, c.requires.source)))

pub loop-done-preserved : goal.loop-done-preserved
loop-done-preserved c =
    let within : c.loop-done.done + c.min-k.result ≤ c.args.n = search rules in
    (within, block_down c.args.bytes.now c.loop-done.bytes c.move_block.new.bytes c.args.from c.args.to c.loop-done.done c.min-k.result c.requires.down (omega (arith, within, c.requires.source)) c.loop-done.invariant.1 c.move_block.ensures)
