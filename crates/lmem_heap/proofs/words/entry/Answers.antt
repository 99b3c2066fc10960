use Rattle.std.proofs.Common.{◌∙◌}
use Rattle.lmem_heap.proofs.EditLemmas.{entry_word}
use Rattle.lmem_heap.proofs.words.entry.Goals as goal

pub returns-clause-value : goal.returns-clause-value
returns-clause-value c = c.word_in.ensures.value ∙ entry_word c.args.region.now c.args.i c.entry_at.result c.entry_at.ensures
