-- Whether one directory serves the updated and the saved document.
use Rattle.std.proofs.Common.{◌≡◌, ℕ, ◌==◌, IsTrue, List, [], Some, true, ap, ap₂, sym, ◌∙◌, eqb-true}
use Rattle.std.specs.Prelude.{◌&&◌}
use Rattle.std.proofs.lemmas.Bool.{and_parts}
use Rattle.vm_store.specs.Facts.{StoreFacts, IsTimely}
use Rattle.file_format.specs.File.{document_at}
use Rattle.file_format.specs.declared.file.Extent.{Extent}
use Rattle.document_file.specs.Documents.{attempted_in, document_in, has_one_directory, is_for_both, IsStored}
use Rattle.document_file.specs.Sound.{IsBlockTable, IsSound}
use Rattle.document_file.specs.declared.table.BlockTable.{BlockTable}
use Rattle.document_file.specs.declared.table.DocumentRef.{DocumentRef}
use Rattle.document_file.specs.declared.slot.Slots.{Slots}
use Rattle.document_file.proofs.StandsLemmas.{sound_counted, stored_document}

-- in what an honest store has now it is as the slots say, where no commit is in doubt
pub counted_directory : {S : Type 0} (facts : S → StoreFacts) (store : S) (live : BlockTable) (slots : Slots) → (IsTrue (facts store).honest → IsTimely (facts store)) → IsSound (facts store) live slots → IsTrue (facts store).honest
    → attempted_in (facts store).content slots.spare ≡ []
    → has_one_directory (facts store).content ≡ (slots.committed.updated.directory.page == slots.committed.saved.directory.page && slots.committed.updated.directory.length == slots.committed.saved.directory.length)
counted_directory facts store live slots timely sound honest none = ap is_for_both (sound_counted facts store live slots timely sound honest none)

pub same_extent : (d e : Extent) → (d.page == e.page && d.length == e.length) ≡ true → d ≡ e
same_extent d e same =
    let both = and_parts (d.page == e.page) (d.length == e.length) same in
    let at : ℕ → ℕ → Extent = λ page length. record { page = page; length = length } in
    ap₂ at (eqb-true d.page e.page both.0) (eqb-true d.length e.length both.1)

-- documents of one directory are the same
pub same_document : (version : ℕ) (file : List ℕ) (one other : DocumentRef) → IsBlockTable one.table.value → IsBlockTable other.table.value → IsStored version file one → IsStored version file other → one.directory ≡ other.directory
    → document_in file other.table.value ≡ document_in file one.table.value
same_document version file one other table other_table stored other_stored same =
    let both : Some (document_in file other.table.value) ≡ Some (document_in file one.table.value) = sym (stored_document version file other other_table other_stored) ∙ ap (document_at version file) (sym same) ∙ stored_document version file one table stored in
    cc both
