use Rattle.std.proofs.Common.{sym, refl, inr}
use Rattle.geos_script.proofs.Spelling.{spelled_some}
use Rattle.geos_script.proofs.operands.refused.Goals as goal

-- The word spells bytes, so only memory can run out for them.
pub returns-then-spells_bytes : goal.returns-then-spells_bytes
returns-then-spells_bytes c = inr (refl, spelled_some c.args.word.now c.requires (sym c.if-spells_bytes.ensures))
