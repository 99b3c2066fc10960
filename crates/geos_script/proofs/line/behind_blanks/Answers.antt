use Rattle.std.proofs.Common.{sym, ap, ◌∙◌}
use Rattle.geos_model.specs.Script.{words}
use Rattle.geos_script.proofs.Words.{solid_front, take_rest, words-skip}
use Rattle.geos_script.proofs.line.behind_blanks.Goals as goal

pub returns-clause-words : goal.returns-clause-words
returns-clause-words c =
    let text = c.args.text.now in
    let n = c.run_of.result in
    ap words (take_rest text n) ∙ sym (words-skip text n c.run_of.ensures.within c.run_of.ensures.before)

pub returns-clause-solid : goal.returns-clause-solid
returns-clause-solid c =
    solid_front c.args.text.now _ c.run_of.result c.run_of.ensures.ends (take_rest c.args.text.now c.run_of.result)
