use Rattle.std.proofs.Common.{sym}
use Rattle.geos_script.proofs.Spelling.{decoded-none}
use Rattle.geos_script.proofs.operands.bytes_of_pairs.Goals as goal

pub returns-then-not-decode_into : goal.returns-then-not-decode_into
returns-then-not-decode_into c = decoded-none c.args.digits.now (sym c.if-not-decode_into.ensures.tells)
