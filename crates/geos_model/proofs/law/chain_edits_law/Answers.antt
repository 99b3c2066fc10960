use Rattle.geos_model.proofs.ChainEdits.{chain-copy, chain-free}
use Rattle.geos_model.proofs.law.chain_edits_law.Goals as goal

pub returns : goal.returns
returns c = record { copy = λ d b. chain-copy d b.0; free = λ d b. chain-free d b.0 }
