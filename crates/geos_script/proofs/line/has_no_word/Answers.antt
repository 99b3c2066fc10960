use Rattle.std.proofs.Common.{ap, ◌∙◌}
use Rattle.geos_script.specs.Making.{is_no_word}
use Rattle.geos_script.proofs.Words.{words-some}
use Rattle.geos_script.proofs.line.has_no_word.Goals as goal

pub returns-else-is_empty : goal.returns-else-is_empty
returns-else-is_empty c =
    let front = c.without_blanks.ensures in
    c.is_empty-else-is_empty.ensures ∙ words-some c.without_blanks.result.now front.solid ∙ ap is_no_word front.words
