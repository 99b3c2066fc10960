-- The block that was read.
use Rattle.std.specs.Prelude.{Option, Some, None}
use Rattle.geos_model.specs.Document.{Block}
use Rattle.geos_model.specs.declared.command.Body.{Body}
use Rattle.geos_model.specs.declared.command.Body.TheVariants as bodies
use Rattle.document_diff.specs.declared.block.BodyRead.{BodyRead}
use Rattle.document_diff.specs.declared.block.BodyRead.TheVariants as read
use Rattle.document_diff.specs.declared.block.BlockRead.{BlockRead}

abbrev pub body_as_read : BodyRead → Body
body_as_read (read.Raw bytes) = bodies.Raw bytes.items
body_as_read (read.Heap heap) = bodies.Heap heap.chunks

abbrev pub block_as_read : BlockRead → Block
block_as_read block = record { attributes = block.attributes; body = body_as_read block.body }

abbrev pub found_block : Option BlockRead → Option Block
found_block None = None
found_block (Some block) = Some (block_as_read block)
