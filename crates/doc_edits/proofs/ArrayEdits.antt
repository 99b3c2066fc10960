-- What the edits of arrays are as edits of a chunk's bytes.
use Rattle.std.proofs.Common.{ℕ, ◌+◌, List, length, refl}
use Rattle.geos_model.specs.ArrayEdits.{array_in, element_inserted, element_set, element_resized, elements_deleted, array_zeroed, on_array, insert_conditions, set_conditions, resize_conditions, delete_conditions}
use Rattle.geos_model.specs.Document.{Document}
use Rattle.geos_model.specs.declared.command.Done.TheVariants as done
use Rattle.geos_model.specs.declared.command.Edit.TheVariants as edits
use Rattle.geos_model.specs.declared.handle.ChunkHandle.{ChunkHandle}
use Rattle.geos_model.specs.declared.handle.VmHandle.{VmHandle}
use Rattle.doc_edits.proofs.ChunkParts.{EditsChunk, one_at}

module _ (d : Document) (b : VmHandle) (c : ChunkHandle) where
  pub inserted : (i : ℕ) (element : List ℕ) → EditsChunk (edits.InsertElement b c i element) d b c (λ old. insert_conditions old i element) (λ old. element_inserted old i element) (λ old. record { from = i; to = i; others = 1 }) done.Nothing
  inserted i element = record { are_own = λ old. refl; refusals = refl; does = refl; kind = refl; cost = λ after. refl; places = refl }

  pub given : (i : ℕ) (element : List ℕ) → EditsChunk (edits.SetElement b c i element) d b c (λ old. set_conditions old i element) (λ old. element_set old i element) (λ old. one_at i) done.Nothing
  given i element = record { are_own = λ old. refl; refusals = refl; does = refl; kind = refl; cost = λ after. refl; places = refl }

  pub sized : (i n : ℕ) → EditsChunk (edits.ResizeElement b c i n) d b c (λ old. resize_conditions old i) (λ old. element_resized old i n) (λ old. one_at i) done.Nothing
  sized i n = record { are_own = λ old. refl; refusals = refl; does = refl; kind = refl; cost = λ after. refl; places = refl }

  pub deleted : (i k : ℕ) → EditsChunk (edits.DeleteElements b c i k) d b c (λ old. delete_conditions old i k) (λ old. elements_deleted old i k) (λ old. record { from = i; to = i + k; others = 0 }) done.Nothing
  deleted i k = record { are_own = λ old. refl; refusals = refl; does = refl; kind = refl; cost = λ after. refl; places = refl }

  pub zeroed : EditsChunk (edits.ZeroArray b c) d b c on_array array_zeroed (λ old. record { from = 0; to = length (array_in old).elements; others = 0 }) done.Nothing
  zeroed = record { are_own = λ old. refl; refusals = refl; does = refl; kind = refl; cost = λ after. refl; places = refl }
