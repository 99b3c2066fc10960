use Rattle.std.proofs.Common.{sym, ◌∙◌, ◌<◌, length, arith}
use Rattle.std.proofs.lemmas.Bool.Decides.{nat_tests}
use Rattle.geos_script.proofs.Words.{word_some, words-cut, words-none}
use Rattle.geos_script.proofs.line.next_word.Goals as goal

pub returns-then-is_empty : goal.returns-then-is_empty
returns-then-is_empty c = sym c.without_blanks-text.ensures.words ∙ words-none c.without_blanks-text.result.now (grind (arith, nat_tests))

pub returns : goal.returns
returns c =
    let text = c.without_blanks-text.result.now in
    let word = c.word_len.ensures in
    let end = c.word_len.result in
    let there : 0 < length text = grind (arith, nat_tests) in
    let some = word_some text end there (c.without_blanks-text.ensures.solid there) word.ends in
    rw (c.split_at.ensures.front, c.split_at.ensures.back)
    (sym c.without_blanks-text.ensures.words ∙ words-cut text end some word.within word.before word.ends)
