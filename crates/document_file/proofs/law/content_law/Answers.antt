use Rattle.document_file.proofs.ContentLemmas.{settled_content}
use Rattle.document_file.proofs.law.content_law.Goals as goal

pub returns : goal.returns
returns g c disk crash_consistent none = settled_content g.S.Store.facts g.met.S.Store.timely disk crash_consistent none
