-- What the edits of name arrays are as edits of a chunk's bytes.
use Rattle.std.proofs.Common.{◌≡◌, ℕ, List, Bool, refl, sym, subst}
use Rattle.geos_model.specs.NameEdits.{name_added as bytes_added, name_token_added, name_changed, name_part_set, name_reference_removed, on_name_token, add_name_conditions, change_name_conditions, set_part_conditions}
use Rattle.geos_model.specs.Document.{Document}
use Rattle.geos_model.specs.Meaning.{chunk_at}
use Rattle.geos_model.specs.declared.command.Done.TheVariants as done
use Rattle.geos_model.specs.declared.command.Edit.TheVariants as edits
use Rattle.geos_model.specs.declared.handle.ChunkHandle.{ChunkHandle}
use Rattle.geos_model.specs.declared.handle.Token.{Token}
use Rattle.geos_model.specs.declared.handle.VmHandle.{VmHandle}
use Rattle.doc_edits.proofs.ChunkParts.{EditsChunk, one_at}

module _ (d : Document) (b : VmHandle) (c : ChunkHandle) where
  -- with its token
  pub name_added : (name part : List ℕ) (replace : Bool) (token : Token) → token.0 ≡ name_token_added (chunk_at d b.0 c.0) name part replace
      → EditsChunk (edits.AddName b c name part replace) d b c (λ old. add_name_conditions old name part) (λ old. bytes_added old name part replace) (λ old. one_at (name_token_added old name part replace)) (done.Token token)
  name_added name part replace token t =
      subst (λ (n : ℕ). EditsChunk (edits.AddName b c name part replace) d b c (λ old. add_name_conditions old name part) (λ old. bytes_added old name part replace) (λ old. one_at (name_token_added old name part replace)) (done.Token (record { 0 = n }))) (sym t)
      (record { are_own = λ old. refl; refusals = refl; does = refl; kind = refl; cost = λ after. refl; places = refl })

  pub renamed : (token : Token) (name : List ℕ)
      → EditsChunk (edits.ChangeName b c token name) d b c (λ old. change_name_conditions old token.0 name) (λ old. name_changed old token.0 name) (λ old. one_at token.0) done.Nothing
  renamed token name = record { are_own = λ old. refl; refusals = refl; does = refl; kind = refl; cost = λ after. refl; places = refl }

  pub part_given : (token : Token) (part : List ℕ)
      → EditsChunk (edits.SetNamePart b c token part) d b c (λ old. set_part_conditions old token.0 part) (λ old. name_part_set old token.0 part) (λ old. one_at token.0) done.Nothing
  part_given token part = record { are_own = λ old. refl; refusals = refl; does = refl; kind = refl; cost = λ after. refl; places = refl }

  pub name_unreferenced : (token : Token) → EditsChunk (edits.RemoveName b c token) d b c (λ old. on_name_token old token.0) (λ old. name_reference_removed old token.0) (λ old. one_at token.0) done.Nothing
  name_unreferenced token = record { are_own = λ old. refl; refusals = refl; does = refl; kind = refl; cost = λ after. refl; places = refl }
