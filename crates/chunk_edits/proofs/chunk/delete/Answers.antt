use Rattle.std.proofs.Common.{◌+◌, [], arith}
use Rattle.chunk_edits.proofs.SplicingLemmas.{length-splice}
use Rattle.chunk_edits.proofs.chunk.delete.Goals as goal

pub returns-clause-no_longer : goal.returns-clause-no_longer
returns-clause-no_longer c =
    let all = c.args.bytes.now in let at = c.args.at in let n = c.args.n in let within = c.in_ok-gone.ensures.0 in
    omega (arith, within, length-splice all [] at (at + n) (omega (arith, within)))
