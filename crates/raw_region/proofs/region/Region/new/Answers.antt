use Rattle.std.proofs.Common.{arith}
use Rattle.raw_region.proofs.Puts.{behind_first}
use Rattle.raw_region.proofs.region.Region.new.Goals as goal

pub returns : goal.returns
returns c = behind_first c.in_ok-raw.raw.bytes 16 65520 65536 0 (omega arith) c.in_ok-raw.ensures
