use Rattle.chunk_edits.proofs.PatchingLemmas.{patch_leads_back}
use Rattle.chunk_edits.proofs.law.patch_law.Goals as goal

pub returns : goal.returns
returns c = patch_leads_back
