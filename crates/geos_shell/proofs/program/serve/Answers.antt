use Rattle.std.proofs.Common.{inr}
use Rattle.command_lines.specs.Options.{line_of_options}
use Rattle.geos_shell.proofs.program.serve.Goals as goal

-- The files are opened, and the script is answered.
pub returns-in-Ok-begin-clause-comes_to : goal.returns-in-Ok-begin-clause-comes_to
returns-in-Ok-begin-clause-comes_to g c =
    let begun = c.in-Ok-begin.begun in
    inr (
      line_of_options c.in-Ok.options,
      c.in-Ok.ensures.ok.0,
      c.in-Ok.ensures.ok.1,
      inr (record { begun = c.begin.new.files; session = begun.0; target = begun.1; begins = c.in-Ok-begin.ensures.ok; answers = c.answer.ensures.answered }),
    )
