use Rattle.chunk_arrays.proofs.ReplacingLemmas.{short-accepted}
use Rattle.chunk_arrays.proofs.rewriting.rewrite.Goals as goal

pub runs_of-runs-requires-clause-short : goal.runs_of-runs-requires-clause-short
runs_of-runs-requires-clause-short c = short-accepted _ c.in_ok-patch.ensures.accepted
