use Rattle.std.proofs.Common.{◌≡◌, ◌∙◌, ℕ, true, is_some, ap, length}
use Rattle.geos_model.specs.Array.{Array}
use Rattle.geos_model.specs.Words.{word_at}
use Rattle.geos_model.specs.ElementArray.{slots_read}
use Rattle.geos_model.proofs.ElementArrays.{slots_of-is}
use Rattle.name_arrays.proofs.ReadingLemmas.{known_slots, known_sound}
use Rattle.document_dump.proofs.RowsMade.{names_is}
use Rattle.document_dump.proofs.rows.names_of.Goals as goal

pub part_in-part-requires : goal.part_in-part-requires
part_in-part-requires c =
    let a : Array = c.args.view.array in
    ap length c.extra.ensures ∙ (slots_of-is 4 a (slots_read a) (known_slots a c.requires).0).0

pub known_slots-slots-requires-clause-known : goal.known_slots-slots-requires-clause-known
known_slots-slots-requires-clause-known c = ap is_some (known_slots c.args.view.array c.requires).0

pub returns : goal.returns
returns c =
    let a : Array = c.args.view.array in
    let s = c.known_slots-slots.result in
    let part : ℕ = c.part_in-part.result in
    let number : part ≡ word_at a.extra 2 = c.part_in-part.ensures ∙ ap (λ l. word_at l 2) c.extra.ensures in
    let slots = c.known_slots-slots.ensures.0 in
    rw (names_is a s.slots part slots number (known_sound a s part slots number c.requires)) c.if_own_names.ensures
