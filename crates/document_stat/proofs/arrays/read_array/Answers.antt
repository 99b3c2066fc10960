use Rattle.std.proofs.Common.{◌≡◌, List, ℕ, None, Some, is_some, Option, sym, ap, ◌∙◌}
use Rattle.std.specs.Prelude.{if◌then◌else◌}
use Rattle.std.specs.Option.{option_and_then}
use Rattle.geos_model.specs.Array.{Array, array_of}
use Rattle.geos_model.specs.ElementArray.{element_array_of, slots_of}
use Rattle.geos_model.specs.NameArray.{name_array_of, names_of}
use Rattle.document_stat.specs.Arrays.{kind_of_array}
use Rattle.lmem_heap.specs.declared.known.ArrayKind.{ArrayKind}
use Rattle.lmem_heap.specs.declared.known.ArrayKind.TheVariants as kinds
use Rattle.document_stat.proofs.arrays.read_array.Goals as goal

abbrev kind_if : Option Array → Option ArrayKind
kind_if o =
    if is_some (option_and_then names_of o) then Some kinds.Name
    else if is_some (option_and_then (slots_of 2) o) then Some kinds.Element
    else if is_some o then Some kinds.Chunk
    else None

no_array : (bytes : List ℕ) → array_of bytes ≡ None → kind_of_array bytes ≡ None
unfolding name_array_of element_array_of
no_array bytes none = ap kind_if none

pub returns-in-Err : goal.returns-in-Err
returns-in-Err c = no_array c.args.bytes.now (ap array_of (sym c.new-known.ensures) ∙ c.in-Err.ensures.1)
