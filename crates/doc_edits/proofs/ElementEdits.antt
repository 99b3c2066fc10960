-- What the edits of element arrays are as edits of a chunk's bytes.
use Rattle.std.proofs.Common.{◌≡◌, ℕ, List, refl, sym, subst}
use Rattle.geos_model.specs.ElementEdits.{element_added as bytes_added, token_added, reference_added, reference_removed, element_deleted, element_changed as bytes_changed, on_token, add_conditions, add_reference_conditions, change_conditions}
use Rattle.geos_model.specs.Document.{Document}
use Rattle.geos_model.specs.Meaning.{chunk_at}
use Rattle.geos_model.specs.declared.command.Done.TheVariants as done
use Rattle.geos_model.specs.declared.command.Edit.TheVariants as edits
use Rattle.geos_model.specs.declared.handle.ChunkHandle.{ChunkHandle}
use Rattle.geos_model.specs.declared.handle.Token.{Token}
use Rattle.geos_model.specs.declared.handle.VmHandle.{VmHandle}
use Rattle.doc_edits.proofs.ChunkParts.{EditsChunk, one_at}

module _ (d : Document) (b : VmHandle) (c : ChunkHandle) where
  -- with its token
  pub element_added : (element : List ℕ) (token : Token) → token.0 ≡ token_added (chunk_at d b.0 c.0) element
      → EditsChunk (edits.AddElement b c element) d b c (λ old. add_conditions old element) (λ old. bytes_added old element) (λ old. one_at (token_added old element)) (done.Token token)
  element_added element token t =
      subst (λ (n : ℕ). EditsChunk (edits.AddElement b c element) d b c (λ old. add_conditions old element) (λ old. bytes_added old element) (λ old. one_at (token_added old element)) (done.Token (record { 0 = n }))) (sym t)
      (record { are_own = λ old. refl; refusals = refl; does = refl; kind = refl; cost = λ after. refl; places = refl })

  pub referenced : (token : Token) → EditsChunk (edits.AddReference b c token) d b c (λ old. add_reference_conditions old token.0) (λ old. reference_added old token.0) (λ old. one_at token.0) done.Nothing
  referenced token = record { are_own = λ old. refl; refusals = refl; does = refl; kind = refl; cost = λ after. refl; places = refl }

  pub unreferenced : (token : Token) → EditsChunk (edits.RemoveReference b c token) d b c (λ old. on_token old token.0) (λ old. reference_removed old token.0) (λ old. one_at token.0) done.Nothing
  unreferenced token = record { are_own = λ old. refl; refusals = refl; does = refl; kind = refl; cost = λ after. refl; places = refl }

  pub freed : (token : Token) → EditsChunk (edits.DeleteElement b c token) d b c (λ old. on_token old token.0) (λ old. element_deleted old token.0) (λ old. one_at token.0) done.Nothing
  freed token = record { are_own = λ old. refl; refusals = refl; does = refl; kind = refl; cost = λ after. refl; places = refl }

  pub element_changed : (token : Token) (element : List ℕ)
      → EditsChunk (edits.ChangeElement b c token element) d b c (λ old. change_conditions old token.0 element) (λ old. bytes_changed old token.0 element) (λ old. one_at token.0) done.Nothing
  element_changed token element = record { are_own = λ old. refl; refusals = refl; does = refl; kind = refl; cost = λ after. refl; places = refl }
