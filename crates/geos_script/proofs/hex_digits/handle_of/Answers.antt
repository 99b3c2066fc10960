use Rattle.std.proofs.Common.{◌∙◌}
use Rattle.geos_script.proofs.Handles.{handle-tried}
use Rattle.geos_script.proofs.hex_digits.handle_of.Goals as goal

pub returns : goal.returns
returns c =
    c.ok.ensures.value
    ∙ handle-tried c.args.a c.args.b c.args.c c.args.d _ _ _ _ c.value_of.ensures.value c.value_of-2.ensures.value c.value_of-3.ensures.value c.value_of-4.ensures.value c.try_from.result c.try_from.ensures
