-- How many bytes an undo record of an edit may hold.
use Rattle.std.specs.Prelude.{ℕ, ◌+◌, ◌*◌, ◌-◌, ◌&&◌, if◌then◌else◌, List, length, replicate, sum_by}
use Rattle.std.specs.Option.{option_map_or}
use Rattle.std.specs.FinMap.{empty, get}
use Rattle.geos_model.specs.Array.{array_bytes}
use Rattle.geos_model.specs.ArrayEdits.{new_array}
use Rattle.geos_model.specs.ElementArray.{element_bytes}
use Rattle.geos_model.specs.ElementEdits.{no_slots}
use Rattle.geos_model.specs.NameArray.{name_bytes}
use Rattle.geos_model.specs.NameEdits.{no_names}
use Rattle.geos_model.specs.Image.{image}
use Rattle.geos_model.specs.Meaning.{chunk_at}
use Rattle.geos_model.specs.Document.{Block, Document, is_live, raw_bytes_of}
use Rattle.geos_model.specs.LargeEdits.{new_array_blocks}
use Rattle.geos_model.specs.ChangedBlocks.{inserted_blocks, set_blocks, deleted_blocks}
use Rattle.geos_model.specs.Chain.{chain_blocks, chain_blocks_of, copies_of}
use Rattle.geos_model.specs.declared.command.Body.TheVariants.{Raw, Heap}
use Rattle.geos_model.specs.declared.command.Edit.{Edit}
use Rattle.geos_model.specs.declared.command.Edit.TheVariants as edits

-- how far two numbers are apart
abbrev pub difference : ℕ → ℕ → ℕ
difference m n = (m - n) + (n - m)

-- how long the image of a block is, 0 where it isn't live
abbrev pub image_length : Document → ℕ → ℕ
image_length d h = option_map_or (λ b. length (image b.body)) (get d.blocks h) 0

-- how long the images of these blocks are together
abbrev pub images_length : List (ℕ × Block) → ℕ
images_length blocks = sum_by (λ p. length (image p.1.body)) blocks

-- how many bytes a chunk has before an edit and after it
abbrev pub both_lengths : Document → Document → ℕ → ℕ → ℕ
both_lengths before after b c = length (chunk_at before b c) + length (chunk_at after b c)

-- Of a block of a large array that changes, the bytes of its body before and after; of one that comes or goes, the
-- length of its image.
abbrev pub block_cost : Document → Document → ℕ → ℕ
block_cost before after h =
    if is_live before h && is_live after h then length (raw_bytes_of before h) + length (raw_bytes_of after h)
    else image_length before h + image_length after h

-- so of all of these
abbrev pub large_cost : Document → Document → List ℕ → ℕ
large_cost before after changed = sum_by (λ h. block_cost before after h) changed

-- For a user ID, a type or the map block nothing. For blocks made or freed the lengths of their images, for a chunk
-- made or freed its bytes. For a write twice the bytes written, for other changes within a chunk or a raw body the
-- bytes that it gains and loses; for a raw body replaced the old and the new one; for an edit of an array all bytes of
-- its chunk before and after, and for one of a large array those of the blocks that change.
abbrev pub cost : Edit → Document → Document → ℕ
cost (edits.NewRaw uid size) before after = length (image (Raw (replicate size 0)))
cost (edits.NewHeap uid) before after = length (image (Heap empty))
cost (edits.FreeBlock b) before after = image_length before b.0
cost (edits.CopyBlock b) before after = image_length before b.0
cost (edits.WriteRaw b at bytes) before after = 2 * length bytes
cost (edits.SpliceRaw b at n bytes) before after = n + length bytes
cost (edits.Attach b bytes) before after = length (raw_bytes_of before b.0) + length bytes
cost (edits.SetUserId b uid) before after = 0
cost (edits.SetType b heap_type) before after = 0
cost (edits.SetMap b) before after = 0
cost (edits.Alloc b n) before after = n
cost (edits.Free b c) before after = length (chunk_at before b.0 c.0)
cost (edits.Resize b c n) before after = difference n (length (chunk_at before b.0 c.0))
cost (edits.Insert b c at n) before after = n
cost (edits.Delete b c at n) before after = n
cost (edits.Write b c at bytes) before after = 2 * length bytes
cost (edits.Splice b c at n bytes) before after = n + length bytes
cost (edits.CreateArray b size extra) before after = length (array_bytes (new_array size extra))
cost (edits.InsertElement b c i element) before after = both_lengths before after b.0 c.0
cost (edits.SetElement b c i element) before after = both_lengths before after b.0 c.0
cost (edits.ResizeElement b c i n) before after = both_lengths before after b.0 c.0
cost (edits.DeleteElements b c i k) before after = both_lengths before after b.0 c.0
cost (edits.ZeroArray b c) before after = both_lengths before after b.0 c.0
cost (edits.CreateElementArray b size) before after = length (element_bytes (no_slots size))
cost (edits.AddElement b c element) before after = both_lengths before after b.0 c.0
cost (edits.AddReference b c t) before after = both_lengths before after b.0 c.0
cost (edits.RemoveReference b c t) before after = both_lengths before after b.0 c.0
cost (edits.DeleteElement b c t) before after = both_lengths before after b.0 c.0
cost (edits.ChangeElement b c t element) before after = both_lengths before after b.0 c.0
cost (edits.CreateNameArray b part) before after = length (name_bytes (no_names part))
cost (edits.AddName b c text part replace) before after = both_lengths before after b.0 c.0
cost (edits.ChangeName b c t text) before after = both_lengths before after b.0 c.0
cost (edits.SetNamePart b c t part) before after = both_lengths before after b.0 c.0
cost (edits.RemoveName b c t) before after = both_lengths before after b.0 c.0
cost (edits.CopyChain b) before after = images_length (copies_of before (chain_blocks before b.0))
cost (edits.FreeChain b) before after = images_length (chain_blocks_of before (chain_blocks before b.0))
cost (edits.CreateLarge uid size) before after = images_length (new_array_blocks before uid size)
cost (edits.InsertLarge b i bytes) before after = large_cost before after (inserted_blocks before b.0 i.0 bytes)
cost (edits.SetLarge b i bytes) before after = large_cost before after (set_blocks before b.0 i.0 bytes)
cost (edits.DeleteLarge b i n) before after = large_cost before after (deleted_blocks before b.0 i.0 n.0)
