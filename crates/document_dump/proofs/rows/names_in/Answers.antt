use Rattle.std.proofs.Common.{◌≡◌, false, is_some, sym, ap, ◌∙◌}
use Rattle.geos_model.specs.NameArray.{name_array_of}
use Rattle.name_arrays.proofs.ReadingLemmas.{known_names}
use Rattle.document_dump.proofs.RowsMade.{unnamed}
use Rattle.document_dump.proofs.rows.names_in.Goals as goal

pub returns-then-not-is_name_array : goal.returns-then-not-is_name_array
returns-then-not-is_name_array c = λ a is.
    let other : is_some (name_array_of c.args.bytes.now) ≡ false =
    ap (λ l. is_some (name_array_of l)) (sym c.new-known.ensures) ∙ sym c.is_name_array.ensures ∙ c.if-not-is_name_array.true in
    unnamed c.args.bytes.now a is other

pub names_of-requires : goal.names_of-requires
names_of-requires c =
    known_names c.new-known.result c.in-Ok.view.array c.in-Ok.ensures (sym c.is_name_array.ensures ∙ c.if-not-is_name_array.false)
