-- How many bytes a change is charged for: those that it holds, the zeros that it need not hold, and of a patch also
-- those that stay, before and after it.
use Rattle.std.specs.Prelude.{ℕ, ◌+◌, length}
use Rattle.geos_model.specs.Cost.{images_length}
use Rattle.chunk_edits.specs.Patching.{total_given, total_taken}
use Rattle.document_file.specs.Members.{imaged_blocks}
use Rattle.vm_blocks.specs.Changes.{content_bytes}
use Rattle.vm_blocks.specs.declared.change.Change.{Change}
use Rattle.vm_blocks.specs.declared.change.Change.TheVariants as changes
use Rattle.vm_blocks.specs.declared.change.PartChange.{PartChange}
use Rattle.vm_blocks.specs.declared.change.PartChange.TheVariants as parts

abbrev pub part_cost : PartChange → ℕ
part_cost (parts.Raw s) = length s.old + length s.new
part_cost (parts.RawPatch ps) = total_taken ps + total_given ps
part_cost (parts.Chunk c s) = length s.old + length s.new
part_cost (parts.Patch c ps runs) = total_taken ps + total_given ps
part_cost (parts.ChunkIn c content) = length (content_bytes content)
part_cost (parts.ChunkOut c content) = length (content_bytes content)

abbrev pub change_cost : Change → ℕ
change_cost (changes.BlocksIn ms) = images_length (imaged_blocks ms.list.items)
change_cost (changes.BlocksOut ms) = images_length (imaged_blocks ms.list.items)
change_cost (changes.Part b part) = part_cost part
change_cost (changes.Attributes b old new) = 0
change_cost (changes.Map old new) = 0
