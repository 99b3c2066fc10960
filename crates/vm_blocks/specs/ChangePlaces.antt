-- Where a change changes a document.
use Rattle.std.specs.Prelude.{List, [], ◌∷◌, length, map}
use Rattle.geos_model.specs.Document.{handles_of}
use Rattle.geos_model.specs.Places.{block_place, raw_run, taken_back}
use Rattle.geos_model.specs.declared.handle.ChunkHandle.{ChunkHandle}
use Rattle.geos_model.specs.declared.handle.VmHandle.{VmHandle}
use Rattle.geos_model.specs.declared.place.Place.{Place}
use Rattle.geos_model.specs.declared.place.Place.TheVariants as place
use Rattle.chunk_edits.specs.Runs.{runs_places}
use Rattle.chunk_edits.specs.Splicing.{Splice}
use Rattle.chunk_edits.specs.declared.direction.Direction.{Direction}
use Rattle.chunk_edits.specs.declared.direction.Direction.TheVariants.{Forwards, Backwards}
use Rattle.document_file.specs.Members.{imaged_blocks}
use Rattle.document_file.specs.declared.member.Member.{Member}
use Rattle.vm_blocks.specs.declared.change.Change.{Change}
use Rattle.vm_blocks.specs.declared.change.Change.TheVariants as changes
use Rattle.vm_blocks.specs.declared.change.PartChange.{PartChange}
use Rattle.vm_blocks.specs.declared.change.PartChange.TheVariants as parts

abbrev pub member_places : List Member → List Place
member_places ms = map block_place (handles_of (imaged_blocks ms))

abbrev pub run_of : VmHandle → ChunkHandle → Splice → Place
run_of b c s = place.Run b c s.at (length s.old) (length s.new)

abbrev pub part_places : VmHandle → PartChange → List Place
part_places b (parts.Raw s) = raw_run b s.at (length s.old) (length s.new)
part_places b (parts.RawPatch ps) = place.Block b ∷ []
part_places b (parts.Chunk c s) = run_of b c s ∷ []
part_places b (parts.Patch c ps runs) = runs_places b c runs
part_places b (parts.ChunkIn c content) = place.Chunk b c ∷ []
part_places b (parts.ChunkOut c content) = place.Chunk b c ∷ []

-- those that a change changes, in order
abbrev pub change_places : Change → List Place
change_places (changes.BlocksIn ms) = member_places ms.list.items
change_places (changes.BlocksOut ms) = member_places ms.list.items
change_places (changes.Part b part) = part_places b part
change_places (changes.Attributes b old new) = place.Attributes b ∷ []
change_places (changes.Map old new) = place.MapBlock ∷ []

-- those that it changes where it is carried out in a direction
abbrev pub directed_places : Direction → Change → List Place
directed_places Forwards change = change_places change
directed_places Backwards change = taken_back (change_places change)
