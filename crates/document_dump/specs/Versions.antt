-- The documents of a file between which a dump's edits lead.
use Rattle.geos_model.specs.Document.{Document, empty_document}
use Rattle.document_file.specs.StoredDocuments.{StoredState}
use Rattle.document_dump.specs.declared.versions.Stage.{Stage}
use Rattle.document_dump.specs.declared.versions.Stage.TheVariants as stages

abbrev pub old_in : {S : Type 0} → Stage → StoredState S → Document
old_in stages.Saved file = empty_document
old_in stages.Open file = file.saved

abbrev pub new_in : {S : Type 0} → Stage → StoredState S → Document
new_in stages.Saved file = file.saved
new_in stages.Open file = file.updated
