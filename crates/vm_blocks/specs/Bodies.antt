-- What callers see of the body of a block in memory.
use Rattle.geos_model.specs.declared.command.Body.{Body}
use Rattle.geos_model.specs.declared.command.Body.TheVariants.{Raw, Heap}
use Rattle.vm_blocks.specs.declared.body.BlockBody.{BlockBody}
use Rattle.vm_blocks.specs.declared.body.BlockBody.TheVariants as block_bodies

-- a body, as the document has it
abbrev pub body_value : BlockBody → Body
body_value (block_bodies.Raw bytes) = Raw bytes
body_value (block_bodies.Heap heap) = Heap heap.chunks
