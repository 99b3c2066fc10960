use Rattle.host_store.proofs.Tries.{IsReading}
use Rattle.host_store.proofs.host.read_whole.Given as goal

abbrev pub invariant-loop-tried : goal.invariant-loop-tried
invariant-loop-tried g l = let facts = g.F.SystemFile.facts in IsReading l.at l.tried l.done l.buffer (facts l.fn.file) (facts l.file)
