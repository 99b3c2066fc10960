-- What a view keeps of the bytes of a root.
use Rattle.std.specs.Prelude.{◌≡◌, ◌≤◌, length}
use Rattle.geos_model.specs.Words.{word_at}
use Rattle.geos_model.specs.Heap.{capacity}
use Rattle.chunk_arrays.specs.Parts.{AreByteValues}
use Rattle.geos_model.specs.LargeLayout.{root_read, total_count}
use Rattle.large_bodies.specs.RootParts.{HasRoot, branches_in}
use Rattle.large_bodies.specs.declared.root.RootView.TheInside.{Inside}

pub record IsRootView (v : Inside) : Type 0 where
  pub parts : HasRoot v.bytes.now
  pub are_bytes : AreByteValues v.bytes.now
  pub short : length v.bytes.now ≤ capacity
  pub branches : v.branches ≡ branches_in v.bytes.now
  pub size : v.size ≡ word_at v.bytes.now 10
  pub total : v.total ≡ total_count (root_read v.bytes.now)
