use Rattle.host_store.specs.System.{IsInterruptedOften}
use Rattle.host_store.proofs.host.open_file.Given as goal

abbrev pub invariant-loop-tried : goal.invariant-loop-tried
invariant-loop-tried g l = IsInterruptedOften (λ s. g.S.System.calls.opens s l.path l.make) l.fn.system l.tried l.system
