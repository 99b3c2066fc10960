-- What differs between two documents, as text.
use Rattle.std.specs.Prelude.{◌≡◌, ℕ, List, Bool, true, ◌==◌, length}
use Rattle.geos_model.specs.Document.{Document}
use Rattle.document_file.specs.StoredDocuments.{StoredState}
use Rattle.document_diff.specs.Differences.{compared}
use Rattle.document_diff.specs.Lines.{diff_lines}
use Rattle.document_diff.specs.declared.version.Version.{Version}
use Rattle.document_diff.specs.declared.version.Version.TheVariants as versions

-- the one of a file's documents
abbrev pub document_by : {S : Type 0} → Version → StoredState S → Document
document_by versions.Updated file = file.updated
document_by versions.Saved file = file.saved

abbrev pub diff_text : Document → Document → List ℕ
diff_text old new = diff_lines (compared old new)

-- there are no bytes
abbrev pub is_no_text : List ℕ → Bool
is_no_text bytes = length bytes == 0

-- it is said that they are the same just where they are
pub record TellsSame (old new : Document) (same : Bool) : Type 0 where
  pub only : same ≡ true → old ≡ new
  pub whenever : old ≡ new → same ≡ true
