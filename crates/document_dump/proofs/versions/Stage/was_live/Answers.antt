use Rattle.std.proofs.Common.{sym}
use Rattle.document_dump.proofs.Steps.{live-empty}
use Rattle.document_dump.proofs.versions.Stage.was_live.Goals as goal

pub returns-in-Saved : goal.returns-in-Saved
returns-in-Saved g c = rw c.in-Saved.is (sym (live-empty c.args.block.0))
