use Rattle.std.proofs.Common.{◌∙◌}
use Rattle.geos_model.specs.declared.command.Body.TheVariants.{Raw}
use Rattle.document_file.proofs.ImageLemmas.{image_is, image_read, raw_valid}
use Rattle.document_file.proofs.image.Image.from_raw.Goals as goal

pub invariant_of-result : goal.invariant_of-result
invariant_of-result c = image_is (Raw c.args.bytes.items) c.from_vec.result (raw_valid c.args.bytes.items c.requires) (c.from_vec.ensures ∙ c.in_ok-image.ensures)

pub returns : goal.returns
returns c = image_read (Raw c.args.bytes.items) c.from_vec.result (raw_valid c.args.bytes.items c.requires) (c.from_vec.ensures ∙ c.in_ok-image.ensures)
