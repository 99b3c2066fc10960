-- An accepted edit that puts bytes in a chunk of a valid document meets what the laws of array edits ask.
use Rattle.std.proofs.Common.{◌≡◌, ℕ, ◌≤◌, ◌<◌, Bool, true, false, ◌==◌, ◌&&◌, List, [], ◌∷◌, ◌++◌, length, Option, Some, None, find, unwrap_or, refl, sym, ap, ◌∙◌, inl, inr, arith}
use Rattle.std.proofs.lemmas.Bool.{cases_Bool, cond-true, cond-false}
use Rattle.std.proofs.lemmas.List.Folds.{list_any-append}
use Rattle.std.specs.Option.{option_map_or}
use Rattle.std.specs.FinMap.{insert, empty, contains_key}
use Rattle.geos_model.specs.Refusal.{Conditions, number_of_fault, one_order, applies, first_refusal}
use Rattle.geos_model.specs.Heap.{is_chunk_handle, chunk_bytes, fits_with, fits_new, longest_chunk}
use Rattle.geos_model.specs.Document.{Block, Document, chunks_of_body, chunks_of, is_heap, attributes_of, IsValid}
use Rattle.geos_model.specs.Meaning.{chunk_at, with_chunk, new_chunk_handle, makes_chunk, no_place, no_room, on_heap, on_chunk, on_new_chunk, on_new_bytes}
use Rattle.geos_model.specs.EditLaws.{HasBytes, ChunkEditsLaw}
use Rattle.geos_model.specs.declared.fault.Fault.{Fault}
use Rattle.geos_model.specs.declared.fault.Fault.TheVariants.{NoChunk, WrongKind, Full}
use Rattle.geos_model.specs.declared.command.Body.TheVariants.{Heap}
use Rattle.geos_model.proofs.Refusals.{none_applies, or_none}
use Rattle.geos_model.proofs.HeapEdits.{get-put_same, heap-insert, placed}
use Rattle.geos_model.proofs.ChunkLengths.{in_heap}
use Rattle.geos_model.proofs.Validity.{not_false, full_last, chunks-heap, chunk_handle}

-- some condition of a part applies where one of the whole does
fewer_found : (p q : Fault → Bool) (faults : List Fault) → ((f : Fault) → q f ≡ false → p f ≡ false) → find q faults ≡ None → find p faults ≡ None
fewer_found p q [] fewer none = refl
fewer_found p q (f ∷ faults) fewer none = elim (cases_Bool (q f)) [
  | inl e ↦ let some : Some f ≡ None = sym (cond-true (q f) _ _ e) ∙ none in absurd (cc some)
  | inr e ↦ cond-false (p f) _ _ (fewer f e) ∙ fewer_found p q faults fewer (sym (cond-false (q f) _ _ e) ∙ none)
]

-- where nothing refuses, nothing in the middle of the conditions does
pub accepted_middle : (before own behind : Conditions) → first_refusal (before ++ (own ++ behind)) ≡ None → first_refusal own ≡ None
accepted_middle before own behind none = fewer_found (applies own) (applies (before ++ (own ++ behind))) one_order (λ f fails.
    let test : Fault × Bool → Bool = λ c. (number_of_fault c.0 == number_of_fault f) && c.1 in
    let rest = or_none (sym (list_any-append test before (own ++ behind)) ∙ fails) in
    (or_none (sym (list_any-append test own behind) ∙ rest.1)).0) none

module _ (d : Document) (valid : IsValid d) (b c : ℕ) (own : Conditions) (bytes : List ℕ) where
  -- the bytes stand in the chunk
  there : chunk_at (with_chunk d b c bytes) b c ≡ bytes
  there =
      let block : Block = record { attributes = attributes_of d b; body = Heap (insert (chunks_of d b) c bytes) } in
      ap (λ (o : Option Block). chunk_bytes (option_map_or (λ x. chunks_of_body x.body) o empty) c) (get-put_same d.blocks b block b refl)
      ∙ ap (λ (o : Option (List ℕ)). unwrap_or o []) (get-put_same (chunks_of d b) c bytes c refl)

  -- in a heap where they fit they are few
  few : is_heap d b ≡ true → is_chunk_handle c ≡ true → fits_with (chunks_of d b) c bytes ≡ true → length bytes < 65536
  few heap handle room =
      let whole = heap-insert (chunks_of d b) c bytes (chunks-heap d b valid heap) handle room in
      let short : length bytes ≤ longest_chunk = in_heap (insert (chunks_of d b) c bytes) c bytes whole (get-put_same (chunks_of d b) c bytes c refl) in
      omega (arith, short)

made : (d : Document) (b : ℕ) (own : Conditions) (bytes : List ℕ) → IsValid d → first_refusal (on_new_chunk d b own bytes) ≡ None
    → HasBytes own bytes (makes_chunk d b bytes).0 b (new_chunk_handle d b)
made d b own bytes valid none =
    let cs : Conditions = on_new_chunk d b own bytes in
    let heap = not_false (is_heap d b) (or_none (none_applies cs none WrongKind refl)).0 in
    let place = placed (chunks_of d b) bytes (full_last own (fits_new (chunks_of d b) bytes) (none_applies cs none Full refl)) in
    record {
      accepted = accepted_middle (on_heap d b) own (no_place (chunks_of d b) bytes) none;
      few = few d valid b (new_chunk_handle d b) own bytes heap place.0 place.1;
      there = there d valid b (new_chunk_handle d b) own bytes;
    }

changed : (d : Document) (b c : ℕ) (own : Conditions) (bytes : List ℕ) → IsValid d → first_refusal (on_new_bytes d b c own bytes) ≡ None
    → HasBytes own bytes (with_chunk d b c bytes) b c
changed d b c own bytes valid none =
    let cs : Conditions = on_new_bytes d b c own bytes in
    let heap = not_false (is_heap d b) (or_none (none_applies cs none WrongKind refl)).0 in
    let live = not_false (contains_key (chunks_of d b) c) (or_none (none_applies cs none NoChunk refl)).0 in
    let room = full_last own (fits_with (chunks_of d b) c bytes) (none_applies cs none Full refl) in
    record {
      accepted = accepted_middle (on_chunk d b c) own (no_room (chunks_of d b) c bytes) none;
      few = few d valid b c own bytes heap (chunk_handle d valid b c heap live) room;
      there = there d valid b c own bytes;
    }

pub chunk_edits_law : ChunkEditsLaw
chunk_edits_law = record { made = made; changed = changed }
