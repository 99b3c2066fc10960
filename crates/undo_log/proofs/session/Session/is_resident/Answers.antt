use Rattle.std.proofs.Common.{ap, ◌∙◌}
use Rattle.vm_blocks.specs.Keeping.{is_loaded}
use Rattle.undo_log.specs.Sessions.{SessionState, cache_of}
use Rattle.undo_log.proofs.session.Session.is_resident.Goals as goal

pub returns : goal.returns
returns g c = c.is_resident.ensures ∙ ap (λ (s : SessionState g.row.S.Denot). is_loaded (cache_of s) c.args.block.0) c.self.view_is
