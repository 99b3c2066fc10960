use Rattle.std.proofs.Common.{sym, arith, refl, subst}
use Rattle.geos_model.specs.Script.{command}
use Rattle.geos_script.specs.Reading.{ReadsAs, command_has_bytes, putting}
use Rattle.geos_script.proofs.Parses.{reads_ok, reads_bad, reads_memory}
use Rattle.geos_script.proofs.Words.{command-long, command-short}
use Rattle.geos_script.proofs.parser.read_command.Goals as goal

pub returns-then-line-gt-LONGEST_LINE-clause-bad : goal.returns-then-line-gt-LONGEST_LINE-clause-bad
returns-then-line-gt-LONGEST_LINE-clause-bad c = (λ e. command-long c.args.line.now (omega arith), λ none. refl)

-- what was read is the line's command
reads : (c : goal.After-command_of_line) → ReadsAs command_has_bytes (command c.args.line.now) (putting c.command_of_line.result c.command_of_line.new.place)
reads c =
    subst (λ o. ReadsAs command_has_bytes o (putting c.command_of_line.result c.command_of_line.new.place))
    (sym (command-short c.args.line.now (omega arith))) c.command_of_line.ensures

pub returns-clause-ok : goal.returns-clause-ok
returns-clause-ok c = reads_ok _ c.command_of_line.result _ (reads c)

pub returns-clause-bad : goal.returns-clause-bad
returns-clause-bad c = reads_bad _ c.command_of_line.result _ (reads c)

pub returns-clause-memory : goal.returns-clause-memory
returns-clause-memory c = reads_memory _ c.command_of_line.result _ (reads c)
