use Rattle.file_space.proofs.SpaceLemmas.{Compared}
use Rattle.file_space.proofs.free_space.largest_hint.Given as goal

abbrev pub invariant-loop-hint : goal.invariant-loop-hint
invariant-loop-hint l = Compared l.fn.hints l.pages l.hint-index l.largest
