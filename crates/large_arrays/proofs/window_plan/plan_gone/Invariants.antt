use Rattle.std.proofs.Common.{◌≡◌, take, Some}
use Rattle.std.specs.FinMap.{get}
use Rattle.std.specs.List.{All, AllZip}
use Rattle.geos_model.specs.Document.{handles_of}
use Rattle.document_file.specs.Members.{imaged_blocks}
use Rattle.vm_chains.specs.Numbers.{numbers}
use Rattle.large_arrays.specs.Gathering.{HasOldBody}
use Rattle.large_arrays.proofs.window_plan.plan_gone.Given as goal

abbrev pub invariant-loop-handle : goal.invariant-loop-handle
invariant-loop-handle g l = record {
  handles : handles_of (imaged_blocks l.gone.items) ≡ numbers (take l.handle-index l.freed);
  stand : AllZip (λ old body. HasOldBody l.blocks.document old.handle.0 body.items) l.gathered.olds.items l.gathered.bodies.items
      → All (λ p. get l.blocks.document.blocks p.0 ≡ Some p.1) (imaged_blocks l.gone.items);
}
