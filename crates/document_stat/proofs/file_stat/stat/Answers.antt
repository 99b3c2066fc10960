use Rattle.std.proofs.Common.{◌≡◌, ℕ, List, Err, None, Some, ap, ap₂, ◌⊎◌, length, subst, ◌∙◌}
use Rattle.std.proofs.lemmas.Result.{err_from_is_err_and}
use Rattle.file_format.proofs.LooksLemmas.{OnlyReadsStore-trans, held_before}
use Rattle.file_format.specs.Reading.{IsResourceFault}
use Rattle.file_format.proofs.StoredDirectoryLemmas.{directory_formed}
use Rattle.geos_model.specs.Document.{Document}
use Rattle.file_format.specs.File.{both, bytes_in, document_of, pages_of, saved_sum, stands, working_sum}
use Rattle.file_format.proofs.FileDocuments.{directory_of-some, summed_directory-some}
use Rattle.file_format.specs.Listed.{as_directory}
use Rattle.document_stat.specs.Files.{IsCountingSlot, IsDocumentStat, IsSavedStat, counting_usages}
use Rattle.file_report.specs.Pages.{AreFreePages}
use Rattle.file_report.specs.declared.pages.Usage.{Usage}
use Rattle.document_stat.proofs.Files.{document_there, refused_by, refused_saved, refused_updated, saved_there, stands_chosen, usages_read}
use Rattle.document_stat.proofs.file_stat.stat.Goals as goal

pub returns-in_err-slot-clause-looks : goal.returns-in_err-slot-clause-looks
returns-in_err-slot-clause-looks g c = OnlyReadsStore-trans _ _ _ (λ so. g.met.S.Store.timely c.args.store.now so) c.read_length.ensures.looks c.read_counting_slot.ensures.looks

pub returns-in_err-slot-clause-err : goal.returns-in_err-slot-clause-err
returns-in_err-slot-clause-err g c =
    let fault = c.in_err-slot.field-0.0 in
    let p = err_from_is_err_and c.from_residual-in_err-slot.result c.from_residual-in_err-slot.ensures.1 in
    rw (p.1, p.2) (held_before (λ f. IsResourceFault fault ⊎ (stands f ≡ Err fault)) _ _ c.read_length.ensures.looks c.in_err-slot.ensures.err)

pub returns-in_err-free-clause-looks : goal.returns-in_err-free-clause-looks
returns-in_err-free-clause-looks g c = OnlyReadsStore-trans _ _ _ (λ so. g.met.S.Store.timely c.args.store.now so) c.read_length.ensures.looks c.read_counting_slot.ensures.looks

pub returns-in_err-updated-clause-looks : goal.returns-in_err-updated-clause-looks
returns-in_err-updated-clause-looks g c = OnlyReadsStore-trans _ _ _ (λ so. g.met.S.Store.timely c.args.store.now so) (OnlyReadsStore-trans _ _ _ (λ so. g.met.S.Store.timely c.args.store.now so) c.read_length.ensures.looks c.read_counting_slot.ensures.looks) c.count_document.ensures.looks

pub returns-in_err-updated-clause-err : goal.returns-in_err-updated-clause-err
returns-in_err-updated-clause-err g c =
    let file = (g.S.Store.facts c.args.store.now).content in
    let slot = c.in_ok-slot.slot in
    let s = slot.slot in
    let d = as_directory slot.updated in
    let p = err_from_is_err_and c.from_residual-in_err-updated.result c.from_residual-in_err-updated.ensures.1 in
    rw (p.1, p.2) (λ so.
    let counting = held_before (λ f. IsCountingSlot f slot) _ _ c.read_length.ensures.looks c.in_ok-slot.ensures.ok so in
    let second = OnlyReadsStore-trans _ _ _ (λ so. g.met.S.Store.timely c.args.store.now so) c.read_length.ensures.looks c.read_counting_slot.ensures.looks in
    refused_by file _ c.in_err-updated.ensures.refusals (λ damaged.
    let none = held_before (λ f. document_of f d ≡ None) _ _ second (c.in_err-updated.ensures.damaged (ap (λ f. Err f) damaged)) so in
    refused_updated file s counting.chosen (document_there s.version file (working_sum s) s.working d None counting.updated none)))

pub returns-in_err-saved-clause-looks : goal.returns-in_err-saved-clause-looks
returns-in_err-saved-clause-looks g c = OnlyReadsStore-trans _ _ _ (λ so. g.met.S.Store.timely c.args.store.now so) (OnlyReadsStore-trans _ _ _ (λ so. g.met.S.Store.timely c.args.store.now so) (OnlyReadsStore-trans _ _ _ (λ so. g.met.S.Store.timely c.args.store.now so) c.read_length.ensures.looks c.read_counting_slot.ensures.looks) c.count_document.ensures.looks) c.count_saved.ensures.looks

pub returns-in_err-saved-clause-err : goal.returns-in_err-saved-clause-err
returns-in_err-saved-clause-err g c =
    let file = (g.S.Store.facts c.args.store.now).content in
    let slot = c.in_ok-slot.slot in
    let s = slot.slot in
    let d = as_directory slot.saved in
    let p = err_from_is_err_and c.from_residual-in_err-saved.result c.from_residual-in_err-saved.ensures.1 in
    rw (p.1, p.2) (λ so.
    let counting = held_before (λ f. IsCountingSlot f slot) _ _ c.read_length.ensures.looks c.in_ok-slot.ensures.ok so in
    let third = OnlyReadsStore-trans _ _ _ (λ so. g.met.S.Store.timely c.args.store.now so) (OnlyReadsStore-trans _ _ _ (λ so. g.met.S.Store.timely c.args.store.now so) c.read_length.ensures.looks c.read_counting_slot.ensures.looks) c.count_document.ensures.looks in
    refused_by file _ c.in_err-saved.ensures.refusals (λ damaged.
    let none = held_before (λ f. document_of f d ≡ None) _ _ third (c.in_err-saved.ensures.damaged (ap (λ f. Err f) damaged)) so in
    refused_saved file s counting.chosen (document_there s.version file (saved_sum s) s.saved d None counting.saved none)))

pub returns-clause-looks : goal.returns-clause-looks
returns-clause-looks g c = OnlyReadsStore-trans _ _ _ (λ so. g.met.S.Store.timely c.args.store.now so) (OnlyReadsStore-trans _ _ _ (λ so. g.met.S.Store.timely c.args.store.now so) (OnlyReadsStore-trans _ _ _ (λ so. g.met.S.Store.timely c.args.store.now so) c.read_length.ensures.looks c.read_counting_slot.ensures.looks) c.count_document.ensures.looks) c.count_saved.ensures.looks

pub returns-clause-ok : goal.returns-clause-ok
returns-clause-ok g c = λ so.
    let facts = g.S.Store.facts in
    let file = (facts c.args.store.now).content in
    let slot = c.in_ok-slot.slot in
    let s = slot.slot in
    let first = c.read_length.ensures.looks in
    let second = OnlyReadsStore-trans _ _ _ (λ so. g.met.S.Store.timely c.args.store.now so) first c.read_counting_slot.ensures.looks in
    let third = OnlyReadsStore-trans _ _ _ (λ so. g.met.S.Store.timely c.args.store.now so) second c.count_document.ensures.looks in
    let size = c.in_ok-file_length.ensures.length so in
    let counting = held_before (λ f. IsCountingSlot f slot) _ _ first c.in_ok-slot.ensures.ok so in
    let d = as_directory slot.updated in
    let read = (summed_directory-some s.version file (working_sum s) s.working d counting.updated).1 in
    let formed = directory_formed s.version (length file) (bytes_in file s.working) d (directory_of-some s.version file s.working d read).1 in
    let updated = held_before (λ f. (u : Document) × (document_of f d ≡ Some u) × IsDocumentStat u c.in_ok-updated.updated) _ _ second (λ so. c.in_ok-updated.ensures.ok so s.version (length file) formed) so in
    let there = document_there s.version file (working_sum s) s.working d (Some updated.0) counting.updated updated.1 in
    let told = held_before (λ f. IsCountingSlot f slot → IsSavedStat f s c.in_ok-saved.saved) _ _ third c.in_ok-saved.ensures.ok so counting in
    let saved = saved_there file slot updated.0 c.in_ok-saved.saved counting there told in
    record {
      slot = s;
      counts = counting.chosen.counts;
      size = size;
      pages = c.page_count.ensures ∙ ap pages_of size;
      free = subst (λ (us : List Usage). AreFreePages us (pages_of (length file)) c.in_ok-free.free) (usages_read file slot counting)
          (subst (λ (n : ℕ). AreFreePages (counting_usages slot) (pages_of n) c.in_ok-free.free) size c.in_ok-free.ensures);
      updated_document = updated.0;
      saved_document = saved.0;
      stands = stands_chosen file s counting.chosen ∙ ap₂ both there saved.1;
      updated = updated.2;
      saved = saved.2;
    }
