-- The documents of a slot, and calls that only read them.
use Rattle.std.proofs.Common.{◌≡◌, ℕ, IsTrue, List, Ok, sym, ap, ap₂, subst, ◌∙◌}
use Rattle.vm_store.specs.Facts.{StoreFacts, IsTimely}
use Rattle.file_format.specs.File.{both, saved_sum, summed_document, working_sum, pair_of}
use Rattle.file_format.specs.declared.file.Slot.{Slot}
use Rattle.file_format.specs.Reading.{OnlyReadsStore}
use Rattle.document_file.specs.Disk.{SameUnlessCorrupt}
use Rattle.document_file.specs.Documents.{AreImaged, AreStored, blocks_in, documents_in}
use Rattle.document_file.specs.Opened.{AreReadDocuments}
use Rattle.document_file.specs.StoredDocuments.{AreFileDocuments, LieIn, OnlyReadsDocuments, StoredState, stored_state}
use Rattle.document_file.specs.Sums.{HaveSums}
use Rattle.document_file.specs.declared.table.Pair.{Pair}
use Rattle.file_format.proofs.LooksLemmas.{OnlyReadsStore-refl, OnlyReadsStore-trans, still_holds}
use Rattle.document_file.proofs.OpenedLemmas.{IsChecked, pair_stands}
use Rattle.document_file.proofs.PassingLemmas.{SameUnlessCorrupt-refl, SameUnlessCorrupt-trans}
use Rattle.document_file.proofs.StandsLemmas.{summed_stored}
use Rattle.document_file.proofs.SumsLemmas.{summed_have}
use Rattle.document_file.proofs.TableLemmas.{listed, places_drift}

-- What is read.

pub read_lie : (old new : StoreFacts) (version n : ℕ) (pair : Pair) → OnlyReadsStore old new → AreReadDocuments n pair → (IsTrue old.honest → AreStored version old.content pair) → LieIn new pair
read_lie old new version n pair looks are stored =
    let now = still_holds (λ file. AreStored version file pair) old new looks stored in
    record {
      tables = record { updated = are.updated.table; saved = are.saved.table };
      updated = λ so. (now so).updated.images;
      saved = λ so. (now so).saved.images;
      updated_sums = λ so. summed_have _ _ _ (now so).updated.sums;
      saved_sums = λ so. summed_have _ _ _ (now so).saved.sums;
    }

pub read_stands : (file : List ℕ) (n : ℕ) (s : Slot) (pair : Pair) → IsChecked s → AreReadDocuments n pair → AreStored s.version file pair → pair.updated.directory ≡ s.working → pair.saved.directory ≡ s.saved → pair.updated.sum ≡ working_sum s → pair.saved.sum ≡ saved_sum s
    → pair_of file s ≡ Ok (documents_in file pair)
read_stands file n s pair good are stored working saved first second =
    pair_stands file s good
    ∙ ap₂ both (ap₂ (summed_document s.version file) (sym first) (sym working) ∙ summed_stored s.version file pair.updated are.updated.table stored.updated)
    (ap₂ (summed_document s.version file) (sym second) (sym saved) ∙ summed_stored s.version file pair.saved are.saved.table stored.saved)

-- What always holds.

module _ {S : Type 0} (facts : S → StoreFacts) where
  pub state_listed : (store : S) (pair : Pair) → LieIn (facts store) pair → AreFileDocuments facts (stored_state facts store pair)
  state_listed store pair lie =
      let f = facts store in
      record {
        updated = listed f.honest f.content pair.updated.table.value lie.tables.updated lie.updated;
        saved = listed f.honest f.content pair.saved.table.value lie.tables.saved lie.saved;
      }

  pub still_lie : (a b : S) (pair : Pair) → OnlyReadsStore (facts a) (facts b) → LieIn (facts a) pair → LieIn (facts b) pair
  still_lie a b pair looks lie = record {
    tables = lie.tables;
    updated = still_holds (λ file. AreImaged file pair.updated.table.value.places.items) (facts a) (facts b) looks lie.updated;
    saved = still_holds (λ file. AreImaged file pair.saved.table.value.places.items) (facts a) (facts b) looks lie.saved;
    updated_sums = still_holds (λ file. HaveSums file pair.updated.table.value.places.items) (facts a) (facts b) looks lie.updated_sums;
    saved_sums = still_holds (λ file. HaveSums file pair.saved.table.value.places.items) (facts a) (facts b) looks lie.saved_sums;
  }

  -- Calls that only read.

  rested : (a b : S) (pair : Pair) → OnlyReadsStore (facts a) (facts b) → OnlyReadsDocuments facts (stored_state facts a pair) (stored_state facts b pair)
  rested a b pair looks =
      let updated = pair.updated.table.value in
      let saved = pair.saved.table.value in
      record {
        store = looks;
        updated = places_drift (facts a).honest (facts a).content (facts b).content updated.places.items updated.map_block (λ so. ap (λ f. blocks_in f updated.places.items) (looks.unchanged so).content);
        saved = places_drift (facts a).honest (facts a).content (facts b).content saved.places.items saved.map_block (λ so. ap (λ f. blocks_in f saved.places.items) (looks.unchanged so).content);
      }

  pub state_reads : (a b : S) (pair : Pair) (d : StoredState S) → stored_state facts a pair ≡ d → OnlyReadsStore (facts a) (facts b) → OnlyReadsDocuments facts d (stored_state facts b pair)
  state_reads a b pair d is looks = subst (λ e. OnlyReadsDocuments facts e (stored_state facts b pair)) is (rested a b pair looks)

  pub OnlyReadsDocuments-refl : (a : StoredState S) → OnlyReadsDocuments facts a a
  OnlyReadsDocuments-refl a = record { store = OnlyReadsStore-refl (facts a.store); updated = SameUnlessCorrupt-refl _ a.updated; saved = SameUnlessCorrupt-refl _ a.saved }

  pub OnlyReadsDocuments-trans : (a b c : StoredState S) → (IsTrue (facts a.store).honest → IsTimely (facts a.store)) → OnlyReadsDocuments facts a b → OnlyReadsDocuments facts b c → OnlyReadsDocuments facts a c
  OnlyReadsDocuments-trans a b c timely p q = record {
    store = OnlyReadsStore-trans (facts a.store) (facts b.store) (facts c.store) timely p.store q.store;
    updated = SameUnlessCorrupt-trans _ a.updated b.updated c.updated p.updated (subst (λ t. SameUnlessCorrupt t b.updated c.updated) p.store.honest q.updated);
    saved = SameUnlessCorrupt-trans _ a.saved b.saved c.saved p.saved (subst (λ t. SameUnlessCorrupt t b.saved c.saved) p.store.honest q.saved);
  }
