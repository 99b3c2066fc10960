-- The blocks of a plan.
use Rattle.std.specs.Prelude.{◌≡◌, ℕ, List, Some}
use Rattle.geos_model.specs.Chain.{chain, chain_blocks_of}
use Rattle.geos_model.specs.Document.{Block, Document, handles_of}

-- those of a chain as they are, in its order
pub record AreChainBlocks (d : Document) (root : ℕ) (ps : List (ℕ × Block)) : Type 0 where
  pub walked : chain d root ≡ Some (handles_of ps)
  pub saved : ps ≡ chain_blocks_of d (handles_of ps)
