use Rattle.std.proofs.Common.{◌≤◌, ◌+◌, length, replicate, arith}
use Rattle.std.proofs.Math.ListN.{length-replicate}
use Rattle.geos_model.specs.declared.command.Body.TheVariants.{Raw}
use Rattle.geos_model.specs.Heap.{capacity}
use Rattle.document_file.proofs.ImageLemmas.{image_is, image_read, raw_valid, image-zeros}
use Rattle.document_file.proofs.image.Image.zeros.Goals as goal

pub invariant_of-result : goal.invariant_of-result
invariant_of-result c =
    let few : length (replicate c.args.size 0) ≤ capacity = simp length-replicate (omega (arith, c.requires)) in
    image_is (Raw (replicate c.args.size 0)) (replicate (c.args.size + 1) 0) (raw_valid _ few) (image-zeros c.args.size)

pub returns : goal.returns
returns c =
    let few : length (replicate c.args.size 0) ≤ capacity = simp length-replicate (omega (arith, c.requires)) in
    image_read (Raw (replicate c.args.size 0)) (replicate (c.args.size + 1) 0) (raw_valid _ few) (image-zeros c.args.size)
