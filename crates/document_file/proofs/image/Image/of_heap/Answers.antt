use Rattle.std.proofs.Common.{◌∙◌}
use Rattle.geos_model.specs.declared.command.Body.TheVariants.{Heap}
use Rattle.document_file.proofs.ImageLemmas.{image_is, image_read}
use Rattle.document_file.proofs.image.Image.of_heap.Goals as goal

pub invariant_of-result : goal.invariant_of-result
invariant_of-result c = image_is (Heap c.args.heap.now.chunks) c.from_vec.result c.in_ok-image.ensures.valid (c.from_vec.ensures ∙ c.in_ok-image.ensures.bytes)

pub returns : goal.returns
returns c = image_read (Heap c.args.heap.now.chunks) c.from_vec.result c.in_ok-image.ensures.valid (c.from_vec.ensures ∙ c.in_ok-image.ensures.bytes)
