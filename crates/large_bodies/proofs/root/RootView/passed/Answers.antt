use Rattle.std.proofs.Common.{◌+◌, ◌*◌, arith}
use Rattle.chunk_arrays.proofs.CutLemmas.{word_at-lt}
use Rattle.large_bodies.proofs.RootRuns.{room}
use Rattle.large_bodies.proofs.PlaceBlocks.{block_more}
use Rattle.large_bodies.proofs.root.RootView.passed.Goals as goal

pub block_total-total-requires-clause-few : goal.block_total-total-requires-clause-few
block_total-total-requires-clause-few c =
    let most = word_at-lt c.self.inside.bytes.now c.self.invariant.are_bytes 4 in
    let all = c.self.invariant.branches in
    let low = c.loop-block-test.true in
    omega (arith, most, all, low)

pub block_total-total-requires-clause-within : goal.block_total-total-requires-clause-within
block_total-total-requires-clause-within c =
    let many = (room c.self.inside c.self.invariant c.args.self.now c.self.view_is).counts in
    let low = c.loop-block-test.true in
    omega (arith, many, low)

pub returns-then-left-total-clause-within : goal.returns-then-left-total-clause-within
returns-then-left-total-clause-within c =
    let many = (room c.self.inside c.self.invariant c.args.self.now c.self.view_is).counts in
    let low = c.loop-block-test.true in
    omega (arith, many, low)

pub loop-block-preserved : goal.loop-block-preserved
loop-block-preserved c =
    let past = c.if-left-total.false in record {
      before =
          block_more c.args.self.now.counts (64 * c.loop-block.block) (64 * (c.loop-block.block + 1)) c.block_total-total.result c.loop-block.left c.args.i
          (omega arith) c.block_total-total.ensures c.loop-block.invariant.before (omega (arith, past));
      between = λ _. omega (arith, past);
    }

pub returns-clause-within : goal.returns-clause-within
returns-clause-within c =
    let many = (room c.self.inside c.self.invariant c.args.self.now c.self.view_is).counts in
    let all = c.self.invariant.branches in
    let some = c.self.invariant.parts.head.length.some in
    omega (arith, many, all, some)
