-- Where a run was found in a body.
use Rattle.std.specs.Prelude.{◌≡◌, Option, Some, None}
use Rattle.geos_model.specs.declared.handle.ChunkHandle.{ChunkHandle}
use Rattle.lmem_heap.specs.Found.{IsFoundIn, handle_found}
use Rattle.vm_blocks.specs.declared.body.BlockBody.{BlockBody}
use Rattle.vm_blocks.specs.declared.body.BlockBody.TheVariants as bodies
use Rattle.vm_blocks.specs.declared.run.FoundRun.{FoundRun}
use Rattle.vm_blocks.specs.declared.run.FoundRun.TheVariants as found_runs

-- a run with no chunk in a raw body, and another in its chunk
abbrev pub IsRunFound : Option ChunkHandle → BlockBody → FoundRun → Type 0
IsRunFound None (bodies.Raw bytes) found_runs.Raw = Unit {0}
IsRunFound None (bodies.Raw bytes) (found_runs.Chunk found) = ⊥
IsRunFound None (bodies.Heap heap) found_runs.Raw = ⊥
IsRunFound None (bodies.Heap heap) (found_runs.Chunk found) = ⊥
IsRunFound (Some c) (bodies.Raw bytes) found_runs.Raw = ⊥
IsRunFound (Some c) (bodies.Raw bytes) (found_runs.Chunk found) = ⊥
IsRunFound (Some c) (bodies.Heap heap) found_runs.Raw = ⊥
IsRunFound (Some c) (bodies.Heap heap) (found_runs.Chunk found) = (handle_found found ≡ c.0) × IsFoundIn heap found
