use Rattle.std.proofs.Common.{subst}
use Rattle.document_file.specs.Images.{IsImage}
use Rattle.document_file.proofs.ImageLemmas.{some_image}
use Rattle.document_file.proofs.image.Image.from_bytes.Goals as goal

pub invariant_of-result : goal.invariant_of-result
invariant_of-result c = subst IsImage c.as_slice.ensures (some_image c.as_slice.result.now c.in-Some.ensures.image)
