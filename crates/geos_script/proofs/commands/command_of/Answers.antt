use Rattle.std.proofs.Common.{◌≡◌, false, length, inl, refl, arith}
use Rattle.std.proofs.lemmas.Bool.Decides.{nat_tests}
use Rattle.geos_model.specs.Script as script
use Rattle.geos_script.proofs.Rows.{is_length, of_no_length}
use Rattle.geos_script.proofs.commands.command_of.Goals as goal

pub returns-in_default : goal.returns-in_default
returns-in_default c =
    let other : is_length (length c.args.name.now) ≡ false = grind (arith, nat_tests) in
    inl (refl, of_no_length c.args.name.now (script.words c.args.text.now) other)
