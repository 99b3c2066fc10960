use Rattle.std.proofs.Common.{◌≡◌, ◌<◌, ◌≤◌, ◌*◌, ◌+◌, ℕ, length, get_or}
use Rattle.lmem_heap.specs.Pieces.{word_in}
use Rattle.lmem_heap.specs.Edits.{IsWordRaised}
use Rattle.lmem_heap.proofs.compaction.raising.raise_words.Given as goal

abbrev pub invariant-loop-i : goal.invariant-loop-i
invariant-loop-i l =
    (length l.table ≡ length l.fn.table)
    × ((j : ℕ) → j < l.i → IsWordRaised (word_in l.fn.table (2 * j)) (word_in l.table (2 * j)) l.fn.from (l.fn.from + l.fn.span + 1) l.fn.by)
    × ((k : ℕ) → 2 * l.i ≤ k → get_or l.table k 0 ≡ get_or l.fn.table k 0)
