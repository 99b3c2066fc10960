use Rattle.geos_model.proofs.Chains.{chain-walk, walk-chain, chain-members}
use Rattle.geos_model.proofs.Relinking.{relinked-relinked}
use Rattle.geos_model.proofs.ChainCopies.{new-new}
use Rattle.geos_model.proofs.CopiedChains.{chain-copied}
use Rattle.geos_model.proofs.ChainShapes.{chain-shapes}
use Rattle.geos_model.proofs.law.chain_law.Goals as goal

pub returns : goal.returns
returns c = record {
  walk = λ d h hs valid. (chain-walk d h hs, walk-chain d h hs valid);
  members = chain-members;
  handles = new-new;
  relinked = relinked-relinked;
  shapes = chain-shapes;
  copy = chain-copied;
}
