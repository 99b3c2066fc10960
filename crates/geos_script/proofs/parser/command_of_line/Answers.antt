use Rattle.std.proofs.Common.{subst, sym, ap, ◌∙◌}
use Rattle.geos_model.specs.Script.{command_of_words}
use Rattle.geos_script.specs.Reading.{ReadsAs, command_has_bytes, putting}
use Rattle.geos_script.proofs.Names.{command_of_words-named}
use Rattle.geos_script.proofs.parser.command_of_line.Goals as goal

pub returns : goal.returns
returns c =
    let named = ap command_of_words c.in-Some.ensures ∙ command_of_words-named c.in-Some.name.now _ c.if-starts_with.ensures.value in
    subst (λ o. ReadsAs command_has_bytes o (putting c.command_of.result c.command_of.new.place)) (sym named) c.command_of.ensures
