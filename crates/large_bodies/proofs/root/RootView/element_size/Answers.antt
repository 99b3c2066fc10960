use Rattle.std.proofs.Common.{arith}
use Rattle.chunk_arrays.proofs.CutLemmas.{word_at-lt}
use Rattle.large_bodies.proofs.root.RootView.element_size.Goals as goal

pub returns-clause-small : goal.returns-clause-small
returns-clause-small c = let low = word_at-lt c.self.inside.bytes.now c.self.invariant.are_bytes 10 in let is = c.self.invariant.size in omega (arith, low, is)
