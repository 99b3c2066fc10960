-- The documents of a slot as callers see them, and what calls leave of them that only read.
use Rattle.std.specs.Prelude.{IsTrue, refl}
use Rattle.std.specs.Coded.{Coded, code_by, coded×}
use Rattle.vm_store.specs.Facts.{StoreFacts}
use Rattle.geos_model.specs.Document.{Document}
use Rattle.geos_model.proofs.Codes.{document_code}
use Rattle.file_format.specs.Reading.{OnlyReadsStore}
use Rattle.document_file.specs.Disk.{SameUnlessCorrupt, IsFileDocument}
use Rattle.document_file.specs.Documents.{document_in, AreImaged}
use Rattle.document_file.specs.Sound.{AreTables}
use Rattle.document_file.specs.Sums.{HaveSums}
use Rattle.document_file.specs.declared.table.Pair.{Pair}

-- the store, and the updated and the saved document to which one of its slots leads
pub record StoredState (S : Type 0) : Type 0 where
  pub store : S
  pub updated : Document
  pub saved : Document

abbrev pub stored_state_code : {S : Type 0} → Coded S → Coded (StoredState S)
stored_state_code {S} s =
    code_by (S × (Document × Document)) (coded× s (coded× document_code document_code))
    (λ d. (d.store, (d.updated, d.saved))) (λ p. record { store = p.0; updated = p.1.0; saved = p.1.1 }) (λ _. refl)

abbrev pub stored_state : {S : Type 0} → (S → StoreFacts) → S → Pair → StoredState S
stored_state facts store pair =
    let file = (facts store).content in
    record {
      store = store;
      updated = document_in file pair.updated.table.value;
      saved = document_in file pair.saved.table.value;
    }

-- The tables can be, and an honest store has the image of each block, with its sum.
pub record LieIn (store : StoreFacts) (pair : Pair) : Type 0 where
  pub tables : AreTables pair
  pub updated : IsTrue store.honest → AreImaged store.content pair.updated.table.value.places.items
  pub saved : IsTrue store.honest → AreImaged store.content pair.saved.table.value.places.items
  pub updated_sums : IsTrue store.honest → HaveSums store.content pair.updated.table.value.places.items
  pub saved_sums : IsTrue store.honest → HaveSums store.content pair.saved.table.value.places.items

-- both are documents of a file
pub record AreFileDocuments {S : Type 0} (facts : S → StoreFacts) (state : StoredState S) : Type 0 where
  pub updated : IsFileDocument (facts state.store).honest state.updated
  pub saved : IsFileDocument (facts state.store).honest state.saved

-- A call that only reads: nothing is written, and the documents stay as far as the store gives back what it has.
pub record OnlyReadsDocuments {S : Type 0} (facts : S → StoreFacts) (old new : StoredState S) : Type 0 where
  pub store : OnlyReadsStore (facts old.store) (facts new.store)
  pub updated : SameUnlessCorrupt (facts old.store).honest old.updated new.updated
  pub saved : SameUnlessCorrupt (facts old.store).honest old.saved new.saved
