use Rattle.std.proofs.Common.{[], ◌∷◌, sym}
use Rattle.std.specs.FinMap.{empty}
use Rattle.geos_model.proofs.Validity.{empty-heap}
use Rattle.geos_model.specs.declared.command.Body.TheVariants.{Heap}
use Rattle.document_file.proofs.ImageLemmas.{image_is, image_read, image-nothing}
use Rattle.document_file.proofs.image.Image.empty_heap.Goals as goal

pub invariant_of-result : goal.invariant_of-result
invariant_of-result c = image_is (Heap empty) (1 ∷ 0 ∷ 0 ∷ []) empty-heap (sym image-nothing)

pub returns : goal.returns
returns c = image_read (Heap empty) (1 ∷ 0 ∷ 0 ∷ []) empty-heap (sym image-nothing)
