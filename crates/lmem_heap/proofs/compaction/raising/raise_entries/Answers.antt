use Rattle.std.proofs.Common.{◌≡◌, ◌+◌, ◌-◌, ℕ, subst, arith}
use Rattle.lmem_heap.specs.Edits.{AreWordsRaised}
use Rattle.lmem_heap.proofs.RaisingLemmas.{table_raised}
use Rattle.lmem_heap.proofs.compaction.raising.raise_entries.Goals as goal

pub returns-then-from-to : goal.returns-then-from-to
returns-then-from-to c =
    let to : c.args.from + (c.args.to - c.args.from - 1) + 1 ≡ c.args.to = omega (arith, c.if-from-to.true) in
    let raised = subst (λ (k : ℕ). AreWordsRaised c.slice_mut.result.now c.raise_words.new.table c.args.from k c.args.by) to c.raise_words.ensures in
    table_raised c.args.region.now c.slice_mut.result.now c.raise_words.new.table c.args.t c.args.from c.args.to c.args.by c.requires.long c.requires.within c.slice_mut.ensures.value (omega (arith, c.slice_mut.ensures.len)) raised
