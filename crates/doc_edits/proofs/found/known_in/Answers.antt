use Rattle.std.proofs.Common.{◌≡◌, ◌++◌, Option, None, Some, MatchResult, refl, sym, subst, ◌∙◌}
use Rattle.std.specs.Option.{option_map}
use Rattle.geos_model.specs.Meaning.{on_chunk}
use Rattle.geos_model.specs.Refusal.{Conditions, first_refusal}
use Rattle.doc_edits.specs.Found.{AreLate, IsChunkAt}
use Rattle.doc_edits.proofs.FoundChunks.{found_chunk}
use Rattle.doc_edits.proofs.found.known_in.Goals as goal

-- bytes as they are
as_is : {X : Type 0} (o : Option X) → option_map (λ x. x) o ≡ o
as_is None = refl
as_is (Some x) = refl

pub returns : goal.returns
returns c = λ d b at. subst (λ r. MatchResult r (λ bytes. IsChunkAt d b c.args.chunk.0 bytes) (λ fault. (rest : Conditions) → AreLate rest → first_refusal (on_chunk d b c.args.chunk.0 ++ rest) ≡ Some fault)) (sym c.ok_or.ensures.value)
    (found_chunk d b c.args.chunk.0 c.args.heap.now.chunks (λ bytes. bytes) c.known_chunk.result at c.known_chunk.ensures.valid (as_is c.known_chunk.result ∙ c.known_chunk.ensures.value))
