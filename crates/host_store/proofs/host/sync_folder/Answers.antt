use Rattle.host_store.proofs.Tries.{IsInterruptedOften-more}
use Rattle.host_store.proofs.host.sync_folder.Goals as goal

pub loop-tried-preserved : goal.loop-tried-preserved
loop-tried-preserved g c =
    IsInterruptedOften-more (λ s. g.S.System.calls.syncs_folder s c.args.path.now) c.args.system.now c.loop-tried.system c.sync_folder.new.self c.loop-tried.tried c.sync_folder.result c.in-Err-Interrupted.field-0 c.loop-tried.invariant c.sync_folder.ensures
    c.in-Err-Interrupted.is c.in-Err-Interrupted.field-0-is
