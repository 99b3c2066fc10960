-- What is found out of a block before its edits are written.
use Rattle.std.specs.Prelude.{◌≡◌, ℕ, true, false}
use Rattle.geos_model.specs.Document.{Document, is_live, attributes_of, block_at, is_valid_body}
use Rattle.geos_model.specs.Image.{image}
use Rattle.document_dump.specs.Changes.{is_made}
use Rattle.document_dump.specs.declared.changes.Change.{Change}
use Rattle.document_dump.specs.declared.changes.Change.TheVariants.{Free, Goes, Keeps, Made}

abbrev pub IsChange : Document → Document → ℕ → Change → Type 0
IsChange old new h Free = (is_made old new h ≡ false) × (is_live old h ≡ false) × (is_live new h ≡ false)
IsChange old new h Goes = (is_made old new h ≡ false) × (is_live old h ≡ true) × (is_live new h ≡ false)
IsChange old new h (Keeps before after) =
    (is_made old new h ≡ false) × (is_live old h ≡ true) × (is_live new h ≡ true) × (before ≡ attributes_of old h)
    × (after ≡ attributes_of new h)
IsChange old new h (Made replaces attributes bytes) =
    (is_made old new h ≡ true) × (replaces ≡ is_live old h) × (attributes ≡ attributes_of new h)
    × (is_valid_body (block_at new h).body ≡ true) × (bytes.items ≡ image (block_at new h).body)
