use Rattle.std.proofs.Common.{refl}
use Rattle.chunk_arrays.proofs.DraftingLemmas.{adds-kept}
use Rattle.chunk_arrays.proofs.draft.Draft.keep.Goals as goal

pub returns : goal.returns
returns c = adds-kept _ _ c.args.bytes.now refl refl
