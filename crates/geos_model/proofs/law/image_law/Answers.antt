use Rattle.geos_model.proofs.Images.{image-injective_body, body_read-body, length_image_body_le}
use Rattle.geos_model.proofs.law.image_law.Goals as goal

pub returns : goal.returns
returns c = (image-injective_body, body_read-body, length_image_body_le)
