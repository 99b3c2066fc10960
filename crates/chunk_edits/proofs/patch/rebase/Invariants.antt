use Rattle.std.proofs.Common.{◌≡◌, ◌*◌, ◌++◌, drop}
use Rattle.chunk_edits.specs.Patching.{rebased}
use Rattle.chunk_edits.proofs.patch.rebase.Given as goal

abbrev pub invariant-loop-i : goal.invariant-loop-i
invariant-loop-i l = l.words ≡ rebased l.i l.from l.to l.fn.words ++ drop (2 * l.i) l.fn.words
