-- An array of slots as it lies in a chunk, and what a patch makes of it.
use Rattle.std.specs.Prelude.{◌≡◌, ℕ, ◌+◌, List, [], true}
use Rattle.geos_model.specs.Refusal.{Conditions}
use Rattle.geos_model.specs.Array.{Array, array_bytes}
use Rattle.geos_model.specs.ArrayEdits.{too_long}
use Rattle.geos_model.specs.ElementArray.{Slots, slots_array, is_sound}
use Rattle.geos_model.specs.declared.fault.Fault.{Fault}
use Rattle.chunk_edits.specs.Splicing.{RefusesToBuild}
use Rattle.chunk_edits.specs.declared.runs.ArrayPatch.{ArrayPatch}
use Rattle.chunk_arrays.specs.Replacing.{ReplacesAt}

pub record Slotted : Type 0 where
  pub more : List ℕ  -- the extra bytes behind the newest free token
  pub slots : Slots
  pub sound : is_sound slots ≡ true

abbrev pub slotted_array : Slotted → Array
slotted_array s = slots_array s.more s.slots

-- the bytes of slots, with these extra bytes behind the newest free token
unfoldable pub slotted_bytes : List ℕ → Slots → List ℕ
slotted_bytes more slots = array_bytes (slots_array more slots)

-- The patch leads from a chunk's bytes to others, by putting an element in the place of this one, or behind the last.
abbrev pub ReplacesOne : Conditions → List ℕ → List ℕ → ℕ → ArrayPatch → Type 0
ReplacesOne own old new t p = ReplacesAt own old new t (t + 1) 1 p

-- from the bytes of an array it leads to those with other slots
abbrev pub GivesSlots : Slotted → Slots → ℕ → ArrayPatch → Type 0
GivesSlots s slots t p = ReplacesOne [] (slotted_bytes s.more s.slots) (slotted_bytes s.more slots) t p

-- lack of memory, or the new array would be longer than any chunk
abbrev pub RefusesSlots : Slotted → Slots → Fault → Type 0
RefusesSlots s slots fault = RefusesToBuild (too_long (slotted_bytes s.more slots)) fault
