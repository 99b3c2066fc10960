-- The slots of the array, and the size of a part, are those that it has as one of names.
use Rattle.std.proofs.Common.{◌≡◌, ◌∙◌, ℕ, true, is_some, ap, length}
use Rattle.geos_model.specs.Array.{Array}
use Rattle.geos_model.specs.Words.{word_at}
use Rattle.geos_model.specs.ElementArray.{slots_read}
use Rattle.geos_model.specs.NameArray.{is_sound_names}
use Rattle.geos_model.proofs.ElementArrays.{slots_of-is}
use Rattle.name_arrays.specs.Reading.{named_array}
use Rattle.name_arrays.proofs.ReadingLemmas.{known_slots, known_sound, small_part, more_of}
use Rattle.name_arrays.proofs.names.known_names.Goals as goal

pub part_in-part-requires : goal.part_in-part-requires
part_in-part-requires c =
    let a : Array = c.args.view.array in
    ap length c.extra.ensures ∙ (slots_of-is 4 a (slots_read a) (known_slots a c.requires).0).0

pub known_slots-slots-requires-clause-known : goal.known_slots-slots-requires-clause-known
known_slots-slots-requires-clause-known c = ap is_some (known_slots c.args.view.array c.requires).0

pub invariant_of-result : goal.invariant_of-result
invariant_of-result c =
    let a : Array = c.args.view.array in
    let s = c.known_slots-slots.result in
    let h = c.known_slots-slots.ensures in
    let part : ℕ = c.part_in-part.result in
    let number : part ≡ word_at a.extra 2 = c.part_in-part.ensures ∙ ap (λ l. word_at l 2) c.extra.ensures in
    let sound : is_sound_names (named_array s part) ≡ true = known_sound a s part h.0 number c.requires in
    record { sound = sound; more = more_of a s part h.1 number (small_part (named_array s part) sound) h.2 }

pub returns-clause-part : goal.returns-clause-part
returns-clause-part c = c.part_in-part.ensures ∙ ap (λ l. word_at l 2) c.extra.ensures
