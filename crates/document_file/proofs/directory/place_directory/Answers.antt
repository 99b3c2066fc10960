use Rattle.std.proofs.Common.{ℕ, List, Option, All, ap₂, subst, sym, ◌∙◌, arith}
use Rattle.geos_model.specs.Document.{FitAttributes}
use Rattle.file_format.specs.File.{directory_text}
use Rattle.document_file.specs.Documents.{entries_of}
use Rattle.document_file.specs.Sums.{sum_for}
use Rattle.document_file.specs.declared.table.Place.{Place}
use Rattle.document_file.proofs.TableDirectoryLemmas.{text_fits}
use Rattle.document_file.proofs.directory.place_directory.Goals as goal

pub overflow_cast-len : goal.overflow_cast-len
overflow_cast-len c =
    let fits = text_fits c.args.slots.now.next_version c.args.table.now c.in_ok-text.text.items c.requires.size c.in_ok-text.ensures.text in
    omega (arith, fits, c.len.ensures, c.in_ok-text.text.ok.0)

pub take-requires-clause-in_range : goal.take-requires-clause-in_range
take-requires-clause-in_range c =
    let fits = text_fits c.args.slots.now.next_version c.args.table.now c.in_ok-text.text.items c.requires.size c.in_ok-text.ensures.text in
    (omega (arith, fits, c.len.ensures, c.in_ok-text.text.ok.0), omega (arith, fits, c.len.ensures, c.in_ok-text.text.ok.0))

pub returns-clause-made : goal.returns-clause-made
returns-clause-made c =
    let copy = c.in_ok-table.ensures in
    record {
      table_is = copy;
      text = c.in_ok-text.ensures.text
          ∙ ap₂ (λ (m : ℕ) (ps : List (Option Place)). directory_text (record { version = c.args.slots.now.next_version; map_block = m; entries = entries_of 1 ps })) (sym copy.map_block) (sym copy.places);
      sum = c.sum_for-sum.ensures ∙ ap₂ sum_for c.has_sums.ensures c.deref.ensures.value;
      attributes = subst (λ ps. All (λ e. FitAttributes e.attributes) (entries_of 1 ps)) (sym copy.places) c.in_ok-text.ensures.attributes;
    }
