use Rattle.document_file.proofs.CrashesLemmas as crashes
use Rattle.document_file.proofs.law.crash_law.Goals as goal

pub returns : goal.returns
returns g c = crashes.crash_law g.S.Store.facts g.met.S.Store.timely
