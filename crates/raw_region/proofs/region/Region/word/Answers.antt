use Rattle.std.proofs.Common.{ap, ◌∙◌}
use Rattle.byteorder.specs.Endian.{little_number}
use Rattle.raw_region.proofs.Puts.{word-slice}
use Rattle.raw_region.proofs.region.Region.word.Goals as goal

pub returns : goal.returns
returns c = c.read_u16.ensures ∙ (ap (little_number 2) c.slice.ensures.value ∙ word-slice c.args.self.now c.args.at)
