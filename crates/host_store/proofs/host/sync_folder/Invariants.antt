use Rattle.host_store.specs.System.{IsInterruptedOften}
use Rattle.host_store.proofs.host.sync_folder.Given as goal

abbrev pub invariant-loop-tried : goal.invariant-loop-tried
invariant-loop-tried g l = IsInterruptedOften (λ s. g.S.System.calls.syncs_folder s l.path) l.fn.system l.tried l.system
