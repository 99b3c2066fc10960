-- The free space of a file, where it is known.
use Rattle.std.specs.Prelude.{◌≡◌, ◌+◌, List, ◌∷◌, ◌++◌, Option, IfSome, length, Bool, if◌then◌else◌}
use Rattle.file_format.specs.declared.file.Extent.{Extent}
use Rattle.file_space.specs.Space.{Space, AreTaken}
use Rattle.document_file.specs.Slots.{block_extents, stored_extents, marked_extents}
use Rattle.document_file.specs.declared.table.BlockTable.{BlockTable}
use Rattle.document_file.specs.declared.slot.Slots.{Slots}

-- these extents are the ones that are taken, where it is known
abbrev pub IsSpaceOf : List Extent → Option Space → Type 0
IsSpaceOf extents space = IfSome space (λ s. AreTaken extents s)

-- these extents more are taken
pub record MarksTaken (extents : List Extent) (old new : Space) : Type 0 where
  pub count : new.count ≡ old.count + length extents
  pub taken : (taken : List Extent) → AreTaken taken old → AreTaken (extents ++ taken) new

-- these extents are taken in place of others, whatever else is
abbrev pub TakesPlaceOf : List Extent → List Extent → Space → Space → Type 0
TakesPlaceOf gone extents old new = (rest : List Extent) → AreTaken (gone ++ rest) old → AreTaken (extents ++ rest) new

-- others are taken, and these are some of them
abbrev pub AreAmongTaken : List Extent → Space → Type 0
AreAmongTaken extents space = (rest : List Extent) × AreTaken (extents ++ rest) space

-- what the saved document lies on once the live one is committed with this directory, and saved too or not
abbrev pub next_saved : Extent → BlockTable → Slots → Bool → List Extent
next_saved directory live slots saves =
    if saves then directory ∷ block_extents live.places.items else stored_extents slots.committed.saved

-- all that the slots stand on then, and the marked document
abbrev pub next_extents : Extent → BlockTable → Slots → Bool → List Extent
next_extents directory live slots saves =
    (directory ∷ block_extents live.places.items)
    ++ (next_saved directory live slots saves ++ marked_extents slots.marked)
