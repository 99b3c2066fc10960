use Rattle.std.proofs.Common.{◌∙◌, ap, drop, length}
use Rattle.std.proofs.Math.Seq.{drop-append_seam}
use Rattle.std.proofs.lemmas.Result.{on_ok_weaker}
use Rattle.geos_model.specs.Script.{command}
use Rattle.geos_script.specs.Printing.{command_text}
use Rattle.geos_script.proofs.Printing.{command_of_text}
use Rattle.geos_script.proofs.commands.push_command.Goals as goal

pub returns-clause-law : goal.returns-clause-law
returns-clause-law c =
    let old = c.args.out.now.items in
    let text = command_text c.args.command.now in
    on_ok_weaker c.push_row.result
    (λ pushed is. ap command (ap (drop (length old)) pushed ∙ drop-append_seam old text) ∙ command_of_text c.args.command.now is)
    c.push_row.ensures.ok
