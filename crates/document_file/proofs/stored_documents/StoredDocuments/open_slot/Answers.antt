use Rattle.std.proofs.Common.{◌≡◌, Ok, sym, subst}
use Rattle.file_format.specs.Slots.{number_of, slot_stands}
use Rattle.document_file.specs.Documents.{documents_in}
use Rattle.document_file.proofs.stored_documents.StoredDocuments.open_slot.Goals as goal

pub returns-in-Ok-clause-stands : goal.returns-in-Ok-clause-stands
returns-in-Ok-clause-stands g c so =
    subst (λ f. slot_stands (g.S.Store.facts c.args.store).content (number_of c.args.second) ≡ Ok (documents_in f c.in-Ok.pair)) (sym (c.in-Ok.ensures.looks.unchanged so).content) (c.in-Ok.ensures.stands so)
