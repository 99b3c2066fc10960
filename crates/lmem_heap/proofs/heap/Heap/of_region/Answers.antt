use Rattle.std.proofs.Common.{ap, ◌∙◌}
use Rattle.geos_model.proofs.Table.{table_map}
use Rattle.geos_model.proofs.Tables.{table_map-nil}
use Rattle.lmem_heap.proofs.heap.Heap.of_region.Goals as goal

pub returns : goal.returns
returns c = ap (table_map 2 16) c.of_region.ensures.chunks ∙ table_map-nil 2 16
