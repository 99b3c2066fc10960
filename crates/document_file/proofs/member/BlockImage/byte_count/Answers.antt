use Rattle.std.proofs.Common.{length, ap, arith}
use Rattle.geos_model.proofs.Images.{length_image_body_le}
use Rattle.document_file.proofs.member.BlockImage.byte_count.Goals as goal

pub returns-clause-small : goal.returns-clause-small
returns-clause-small c = let most = length_image_body_le c.args.self.now.image c.args.self.now.valid in omega (arith, most, ap length c.as_slice.ensures)
