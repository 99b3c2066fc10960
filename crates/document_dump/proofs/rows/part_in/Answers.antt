use Rattle.std.proofs.Common.{◌-◌, ◌∙◌, ap, drop, length, length-drop, arith}
use Rattle.std.proofs.lemmas.List.{take_all}
use Rattle.byteorder.specs.Endian.{little_number}
use Rattle.document_dump.proofs.rows.part_in.Goals as goal

pub returns : goal.returns
returns c =
    c.from.ensures ∙ c.read_u16.ensures
    ∙ ap (little_number 2) (take_all (length c.args.extra.now - 2) (drop 2 c.args.extra.now) (omega (arith, length-drop 2 c.args.extra.now)))
