use Rattle.document_file.proofs.PassingLemmas as passing
use Rattle.document_file.proofs.law.passing_law.Goals as goal

pub returns : goal.returns
returns g c = passing.passing_law g.S.Store.facts g.met.S.Store.timely
