use Rattle.host_store.proofs.Tries.{IsInterruptedOften-more}
use Rattle.host_store.proofs.host.open_file.Goals as goal

pub loop-tried-preserved : goal.loop-tried-preserved
loop-tried-preserved g c =
    IsInterruptedOften-more (λ s. g.S.System.calls.opens s c.args.path.now c.args.make) c.args.system.now c.loop-tried.system c.open.new.self c.loop-tried.tried c.open.result c.in-Err-Interrupted.field-0 c.loop-tried.invariant c.open.ensures
    c.in-Err-Interrupted.is c.in-Err-Interrupted.field-0-is
