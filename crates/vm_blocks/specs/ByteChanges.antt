-- A change of a run of bytes that are lent, as the change that it is.
use Rattle.std.specs.Prelude.{Bool, true, false, Option, None, Some}
use Rattle.geos_model.specs.declared.handle.ChunkHandle.{ChunkHandle}
use Rattle.chunk_edits.specs.Splicing.{Splice}
use Rattle.vm_blocks.specs.declared.byte_change.ByteChange.{ByteChange}
use Rattle.vm_blocks.specs.declared.change.Change.{Change}
use Rattle.vm_blocks.specs.declared.change.Change.TheVariants as changes
use Rattle.vm_blocks.specs.declared.change.PartChange.{PartChange}
use Rattle.vm_blocks.specs.declared.change.PartChange.TheVariants as parts

-- a part of a chunk is replaced, or one of a raw body where there is no chunk
abbrev pub part_in : Option ChunkHandle → Splice → PartChange
part_in None s = parts.Raw s
part_in (Some chunk) s = parts.Chunk chunk s

abbrev pub byte_part : ByteChange → PartChange
byte_part c = part_in c.chunk (record { at = c.at; old = c.old.now; new = c.new.now })

abbrev pub byte_change : ByteChange → Change
byte_change c = changes.Part c.block (byte_part c)

-- whether a change replaces a part of a raw body or of a chunk

abbrev pub replaces_bytes : PartChange → Bool
replaces_bytes (parts.Raw s) = true
replaces_bytes (parts.RawPatch ps) = false
replaces_bytes (parts.Chunk c s) = true
replaces_bytes (parts.Patch c ps runs) = false
replaces_bytes (parts.ChunkIn c content) = false
replaces_bytes (parts.ChunkOut c content) = false

abbrev pub is_byte_change : Change → Bool
is_byte_change (changes.BlocksIn ms) = false
is_byte_change (changes.BlocksOut ms) = false
is_byte_change (changes.Part b part) = replaces_bytes part
is_byte_change (changes.Attributes b old new) = false
is_byte_change (changes.Map old new) = false
