use Rattle.std.proofs.Common.{◌≡◌, ℕ, List, [], ◌++◌, length}
use Rattle.chunk_arrays.specs.Drafting.{Adds}
use Rattle.chunk_arrays.proofs.draft.Draft.cut.Given as goal

abbrev pub invariant-loop-rest : goal.invariant-loop-rest
invariant-loop-rest l = (done : List ℕ) × ((l.bytes ≡ done ++ l.rest) × Adds l.fn.self l.self done [])

abbrev pub decreases-loop-rest : goal.decreases-loop-rest
decreases-loop-rest l = length l.rest
