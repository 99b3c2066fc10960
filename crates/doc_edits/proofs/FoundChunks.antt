-- What is found under the handle of a chunk.
use Rattle.std.proofs.Common.{◌≡◌, ℕ, List, [], ◌++◌, true, Option, None, Some, MatchResult, is_some, unwrap_or, sym, ap, subst}
use Rattle.std.specs.Option.{option_map, option_map_or, ok_or}
use Rattle.std.specs.FinMap.{empty, get, contains_key}
use Rattle.geos_model.specs.Heap.{ChunkMap, is_heap_map}
use Rattle.geos_model.specs.Document.{Document, Block, chunks_of, chunks_of_body}
use Rattle.geos_model.specs.Meaning.{on_chunk}
use Rattle.geos_model.specs.Refusal.{Conditions, first_refusal}
use Rattle.geos_model.specs.declared.fault.Fault.TheVariants.{NoChunk}
use Rattle.doc_edits.specs.Found.{AreLate, IsHeapAt, IsChunkAt}
use Rattle.doc_edits.proofs.Refusals.{no_chunk}

-- what is looked up of a heap is a chunk of the document, or there is none
pub found_chunk : {X : Type 0} (d : Document) (h c : ℕ) (m : ChunkMap) (now : X → List ℕ) (o : Option X) → IsHeapAt d h m → is_heap_map m ≡ true → option_map now o ≡ get m c
    → MatchResult (ok_or o NoChunk) (λ x. IsChunkAt d h c (now x)) (λ fault. (rest : Conditions) → AreLate rest → first_refusal (on_chunk d h c ++ rest) ≡ Some fault)
found_chunk d h c m now None at valid got = λ rest late. no_chunk d h c m rest at (ap is_some (sym got)) late
found_chunk d h c m now (Some x) at valid got =
    let is : m ≡ chunks_of d h = sym (ap (λ (o : Option Block). option_map_or (λ b. chunks_of_body b.body) o empty) at) in
    record {
      heap = subst (IsHeapAt d h) is at;
      live = subst (λ n. contains_key n c ≡ true) is (ap is_some (sym got));
      valid = subst (λ n. is_heap_map n ≡ true) is valid;
      value = subst (λ n. now x ≡ unwrap_or (get n c) []) is (ap (λ (o : Option (List ℕ)). unwrap_or o []) got);
    }
