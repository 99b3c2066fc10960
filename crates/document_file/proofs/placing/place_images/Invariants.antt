use Rattle.std.proofs.Common.{◌≡◌, ◌+◌, List}
use Rattle.file_format.specs.declared.file.Extent.{Extent}
use Rattle.file_space.specs.Space.{AreTaken}
use Rattle.document_file.proofs.PlacingLemmas.{IsPlacing}
use Rattle.document_file.proofs.placing.place_images.Given as goal

abbrev pub invariant-loop-put : goal.invariant-loop-put
invariant-loop-put l = record {
  count : l.space.count ≡ l.fn.space.count + l.put-index;
  placing : (taken : List Extent) → AreTaken taken l.fn.space → IsPlacing taken l.puts l.put-index l.extents.items l.space;
}
