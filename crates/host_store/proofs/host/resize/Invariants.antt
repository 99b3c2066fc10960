use Rattle.host_store.proofs.Tries.{IsTrying}
use Rattle.host_store.proofs.host.resize.Given as goal

abbrev pub invariant-loop-tried : goal.invariant-loop-tried
invariant-loop-tried g l = let facts = g.F.SystemFile.facts in IsTrying l.tried (facts l.fn.file) (facts l.file)
