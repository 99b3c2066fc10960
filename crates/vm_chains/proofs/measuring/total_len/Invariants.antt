use Rattle.std.proofs.Common.{◌≡◌, ◌≤◌, ◌*◌, length, take}
use Rattle.std.specs.List.{sum_by}
use Rattle.geos_model.specs.Document.{raw_bytes_of}
use Rattle.geos_model.specs.Heap.{capacity}
use Rattle.vm_blocks.specs.Keeping.{IsHonest}
use Rattle.vm_chains.proofs.measuring.total_len.Given as goal

abbrev pub invariant-loop-handle : goal.invariant-loop-handle
invariant-loop-handle g l = record {
  total : IsHonest g.S.Store.facts l.blocks.disk.store → l.total ≡ sum_by (λ h. length (raw_bytes_of l.blocks.document h.0)) (take l.handle-index l.handles);
  small : l.total ≤ capacity * l.handle-index;
}
