use Rattle.std.proofs.Common.{◌+◌, length, arith}
use Rattle.chunk_edits.proofs.SplicingLemmas.{length-splice}
use Rattle.chunk_edits.proofs.chunk.write.Goals as goal

pub returns-clause-no_longer : goal.returns-clause-no_longer
returns-clause-no_longer c =
    let all = c.args.bytes.now in let new = c.args.new.now in let at = c.args.at in let within = c.in_ok-old.ensures.0 in
    omega (arith, within, length-splice all new at (at + length new) (omega (arith, within)))
