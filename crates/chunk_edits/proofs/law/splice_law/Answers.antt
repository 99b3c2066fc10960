use Rattle.chunk_edits.proofs.SplicingLemmas.{leads_back}
use Rattle.chunk_edits.proofs.law.splice_law.Goals as goal

pub returns : goal.returns
returns c = leads_back
