use Rattle.std.proofs.Common.{◌≡◌, ◌++◌, Some, MatchResult, sym, subst}
use Rattle.geos_model.specs.Meaning.{on_chunk}
use Rattle.geos_model.specs.Refusal.{Conditions, first_refusal}
use Rattle.doc_edits.specs.Found.{AreLate, IsChunkAt}
use Rattle.doc_edits.proofs.FoundChunks.{found_chunk}
use Rattle.doc_edits.proofs.found.bytes_in.Goals as goal

pub returns : goal.returns
returns c = λ d b at. subst (λ r. MatchResult r (λ bytes. IsChunkAt d b c.args.chunk.0 bytes.now) (λ fault. (rest : Conditions) → AreLate rest → first_refusal (on_chunk d b c.args.chunk.0 ++ rest) ≡ Some fault)) (sym c.ok_or.ensures.value)
    (found_chunk d b c.args.chunk.0 c.args.heap.now.chunks (λ bytes. bytes.now) c.chunk.result at c.chunk.ensures.valid c.chunk.ensures.value)
