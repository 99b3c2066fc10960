use Rattle.std.proofs.Common.{◌∙◌}
use Rattle.clap.specs.Words.{found_of}
use Rattle.document_commands.proofs.Entered.{set_told}
use Rattle.document_commands.proofs.commands.is_set.Goals as goal

pub returns : goal.returns
returns c = c.unwrap_or.ensures ∙ set_told _ (found_of c.args.matches.now) c.args.name.now c.get_one.result c.get_one.ensures.none c.get_one.ensures.value
