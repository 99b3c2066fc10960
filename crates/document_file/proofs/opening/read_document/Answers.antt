use Rattle.std.proofs.Common.{◌≤◌, Some, All, length, ap, sym, subst, ◌∙◌}
use Rattle.geos_model.specs.Document.{most_blocks}
use Rattle.file_format.specs.File.{longest_image}
use Rattle.file_format.proofs.Files.{directory-low}
use Rattle.file_format.specs.Listed.{as_directory}
use Rattle.document_file.specs.Documents.{entries_of, AreImaged}
use Rattle.document_file.specs.Sound.{ArePlaces}
use Rattle.document_file.specs.Sums.{HaveSums}
use Rattle.file_format.proofs.FileDocuments.{summed_directory-some}
use Rattle.file_format.proofs.LooksLemmas.{OnlyReadsStore-trans, held_before}
use Rattle.document_file.proofs.OpenedDirectoryLemmas.{images_short, read_formed, read_directory, read_sum, read_summed}
use Rattle.document_file.specs.declared.table.BlockTable.{BlockTable}
use Rattle.document_file.specs.declared.table.DocumentRef.{DocumentRef}
use Rattle.document_file.proofs.opening.read_document.Goals as goal

pub returns-in_err-places-clause-looks : goal.returns-in_err-places-clause-looks
returns-in_err-places-clause-looks g c = OnlyReadsStore-trans _ _ _ (λ so. g.met.S.Store.timely c.args.store.now so) c.read_directory.ensures.looks c.read_places.ensures.looks

pub returns-in_err-table-clause-looks : goal.returns-in_err-table-clause-looks
returns-in_err-table-clause-looks g c = OnlyReadsStore-trans _ _ _ (λ so. g.met.S.Store.timely c.args.store.now so) c.read_directory.ensures.looks c.read_places.ensures.looks

pub returns-clause-looks : goal.returns-clause-looks
returns-clause-looks g c = OnlyReadsStore-trans _ _ _ (λ so. g.met.S.Store.timely c.args.store.now so) c.read_directory.ensures.looks c.read_places.ensures.looks

pub returns-clause-formed : goal.returns-clause-formed
returns-clause-formed g c =
    let table = c.in_ok-table.ensures.ok in
    let places = ap (λ (t : BlockTable). t.places.items) table in
    read_formed c.args.version c.args.file_length (as_directory c.in_ok-directory.directory) _ c.in_ok-directory.ensures.formed c.in_ok-directory.ensures.place
    (ap (entries_of 1) places ∙ c.in_ok-places.ensures.entries ∙ c.deref.ensures.value) (subst ArePlaces (sym places) c.in_ok-places.ensures.places)
    (subst (λ ps. length ps ≤ most_blocks) (sym places) c.in_ok-places.ensures.size) (ap (λ (t : BlockTable). t.map_block) table)

pub read_places-requires-clause-handles : goal.read_places-requires-clause-handles
read_places-requires-clause-handles g c =
    subst (All (λ e. e.handle.0 ≤ most_blocks)) (sym c.deref.ensures.value) (directory-low c.args.version c.args.file_length (as_directory c.in_ok-directory.directory) c.in_ok-directory.ensures.formed)

pub read_places-requires-clause-short : goal.read_places-requires-clause-short
read_places-requires-clause-short g c =
    subst (All (λ e. e.extent.length ≤ longest_image)) (sym c.deref.ensures.value) (images_short c.args.version c.args.file_length (as_directory c.in_ok-directory.directory) c.in_ok-directory.ensures.formed)

pub returns-clause-stored : goal.returns-clause-stored
returns-clause-stored g c so =
    let d = as_directory c.in_ok-directory.directory in
    let stored : DocumentRef = record { directory = c.args.extent; sum = c.args.sum; table = c.in_ok-table.table } in
    let table = c.in_ok-table.ensures.ok in
    let places = ap (λ (t : BlockTable). t.places.items) table in
    let read = c.in_ok-directory.ensures.read so in
    let entries = ap (entries_of 1) places ∙ c.in_ok-places.ensures.entries ∙ c.deref.ensures.value in
    let file = (g.S.Store.facts c.args.store.now).content in
    let have = subst (HaveSums file) (sym places) (held_before (λ file. HaveSums file c.in_ok-places.places.items) _ _ c.read_directory.ensures.looks c.in_ok-places.ensures.summed so) in
    record {
      version = d.version;
      directory = (summed_directory-some c.args.version file c.args.sum c.args.extent d read).1
          ∙ ap Some (read_directory d stored entries (ap (λ (t : BlockTable). t.map_block) table));
      images = subst (AreImaged _) (sym places) (held_before (λ file. AreImaged file c.in_ok-places.places.items) _ _ c.read_directory.ensures.looks c.in_ok-places.ensures.imaged so);
      sum = read_sum c.args.version file c.args.sum c.args.extent d read (c.requires.summed so);
      sums = read_summed c.args.version file c.args.sum c.args.extent d c.in_ok-table.table.value.places.items read entries have;
    }
