use Rattle.host_store.proofs.Tries.{IsWriting}
use Rattle.host_store.proofs.host.write_whole.Given as goal

abbrev pub invariant-loop-tried : goal.invariant-loop-tried
invariant-loop-tried g l = let facts = g.F.SystemFile.facts in IsWriting l.at l.tried l.done l.bytes (facts l.fn.file) (facts l.file)
