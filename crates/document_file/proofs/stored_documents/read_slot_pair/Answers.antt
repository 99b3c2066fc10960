use Rattle.std.proofs.Common.{◌≡◌, ◌⊎◌, Err, sym, ap, ◌∙◌, inl, inr}
use Rattle.std.proofs.lemmas.Result.{err_from_is_err_and}
use Rattle.file_format.specs.File.{both, pair_of, saved_sum, summed_document, working_sum}
use Rattle.geos_model.specs.declared.fault.Fault.TheVariants.{Damaged}
use Rattle.file_format.specs.Reading.{IsResourceFault}
use Rattle.file_format.specs.Slots.{number_of, slot_stands}
use Rattle.file_format.proofs.LooksLemmas.{OnlyReadsStore-trans, held_before}
use Rattle.document_file.specs.Documents.{AreStored}
use Rattle.document_file.proofs.OpenedLemmas.{pair_refused}
use Rattle.document_file.proofs.StoredDocumentsLemmas.{read_lie, read_stands}
use Rattle.document_file.proofs.stored_documents.read_slot_pair.Goals as goal

pub returns-in_err-slot-clause-looks : goal.returns-in_err-slot-clause-looks
returns-in_err-slot-clause-looks g c = OnlyReadsStore-trans _ _ _ (λ so. g.met.S.Store.timely c.args.store.now so) c.read_length.ensures.looks c.read_open_slot.ensures.looks

pub returns-in_err-slot-clause-refused : goal.returns-in_err-slot-clause-refused
returns-in_err-slot-clause-refused g c =
    let p = err_from_is_err_and c.from_residual-in_err-slot.result c.from_residual-in_err-slot.ensures.1 in
    let fault = c.in_err-slot.field-0.0 in
    rw (p.1, p.2) (λ so. held_before (λ f. IsResourceFault fault ⊎ (slot_stands f (number_of c.args.second) ≡ Err fault)) _ _ c.read_length.ensures.looks c.in_err-slot.ensures.refused so)

pub returns-in_err-check_slot-clause-looks : goal.returns-in_err-check_slot-clause-looks
returns-in_err-check_slot-clause-looks g c = OnlyReadsStore-trans _ _ _ (λ so. g.met.S.Store.timely c.args.store.now so) c.read_length.ensures.looks c.read_open_slot.ensures.looks

pub returns-in_err-check_slot-clause-refused : goal.returns-in_err-check_slot-clause-refused
returns-in_err-check_slot-clause-refused g c =
    let p = err_from_is_err_and c.from_residual-in_err-check_slot.result c.from_residual-in_err-check_slot.ensures.1 in
    rw (p.1, p.2) (λ so.
    let file = (g.S.Store.facts c.args.store.now).content in
    let leads = held_before (λ f. slot_stands f (number_of c.args.second) ≡ pair_of f c.in_ok-slot.slot) _ _ c.read_length.ensures.looks c.in_ok-slot.ensures.slot so in
    inr (leads ∙ c.in_err-check_slot.ensures.refused file))

pub returns-in_err-pair-clause-looks : goal.returns-in_err-pair-clause-looks
returns-in_err-pair-clause-looks g c =
    OnlyReadsStore-trans _ _ _ (λ so. g.met.S.Store.timely c.args.store.now so) (OnlyReadsStore-trans _ _ _ (λ so. g.met.S.Store.timely c.args.store.now so) c.read_length.ensures.looks c.read_open_slot.ensures.looks) c.read_pair.ensures.looks

pub returns-in_err-pair-clause-refused : goal.returns-in_err-pair-clause-refused
returns-in_err-pair-clause-refused g c =
    let p = err_from_is_err_and c.from_residual-in_err-pair.result c.from_residual-in_err-pair.ensures.1 in
    let two = OnlyReadsStore-trans _ _ _ (λ so. g.met.S.Store.timely c.args.store.now so) c.read_length.ensures.looks c.read_open_slot.ensures.looks in
    let x = c.in_err-pair.field-0.0 in
    rw (p.1, p.2) (λ so.
    let file = (g.S.Store.facts c.args.store.now).content in
    let s = c.in_ok-slot.slot in
    let good = c.in_ok-check_slot.ensures.ok in
    let leads = held_before (λ f. slot_stands f (number_of c.args.second) ≡ pair_of f s) _ _ c.read_length.ensures.looks c.in_ok-slot.ensures.slot so in
    elim c.in_err-pair.ensures.refusals as (λ _. IsResourceFault x ⊎ (slot_stands file (number_of c.args.second) ≡ Err x)) [
      | inl supply ↦ inl supply
      | inr damaged ↦
          let wrong = held_before (λ f. both (summed_document s.version f (working_sum s) s.working) (summed_document s.version f (saved_sum s) s.saved) ≡ Err Damaged) _ _ two (c.in_err-pair.ensures.damaged (ap (λ f. Err f) damaged)) so in
          inr (leads ∙ pair_refused file s (record { version = good.0; reserved = good.1; some = good.2; sealed = good.4 }) wrong ∙ ap (λ f. Err f) (sym damaged))
    ])

pub returns-in_err-pair-clause-refusals : goal.returns-in_err-pair-clause-refusals
returns-in_err-pair-clause-refusals g c =
    let p = err_from_is_err_and c.from_residual-in_err-pair.result c.from_residual-in_err-pair.ensures.1 in
    rw (p.1, p.2) (elim c.in_err-pair.ensures.refusals [
      | inl supply ↦ inl supply
      | inr damaged ↦ inr (inl damaged)
    ])

pub returns-clause-looks : goal.returns-clause-looks
returns-clause-looks g c =
    OnlyReadsStore-trans _ _ _ (λ so. g.met.S.Store.timely c.args.store.now so) (OnlyReadsStore-trans _ _ _ (λ so. g.met.S.Store.timely c.args.store.now so) c.read_length.ensures.looks c.read_open_slot.ensures.looks) c.read_pair.ensures.looks

pub returns-clause-lie : goal.returns-clause-lie
returns-clause-lie g c =
    let facts = g.S.Store.facts in
    read_lie (facts c.read_open_slot.new.store) (facts c.read_pair.new.store) c.in_ok-slot.slot.version c.in_ok-file_length.file_length c.in_ok-pair.pair c.read_pair.ensures.looks c.in_ok-pair.ensures.formed c.in_ok-pair.ensures.stored

pub returns-clause-stands : goal.returns-clause-stands
returns-clause-stands g c so =
    let file = (g.S.Store.facts c.args.store.now).content in
    let two = OnlyReadsStore-trans _ _ _ (λ so. g.met.S.Store.timely c.args.store.now so) c.read_length.ensures.looks c.read_open_slot.ensures.looks in
    let s = c.in_ok-slot.slot in
    let pair = c.in_ok-pair.pair in
    let good = c.in_ok-check_slot.ensures.ok in
    let leads = held_before (λ f. slot_stands f (number_of c.args.second) ≡ pair_of f s) _ _ c.read_length.ensures.looks c.in_ok-slot.ensures.slot so in
    let stored = held_before (λ f. AreStored s.version f pair) _ _ two c.in_ok-pair.ensures.stored so in
    leads ∙ read_stands file c.in_ok-file_length.file_length s pair (record { version = good.0; reserved = good.1; some = good.2; sealed = good.4 }) c.in_ok-pair.ensures.formed stored c.in_ok-pair.ensures.directories.0 c.in_ok-pair.ensures.directories.1 c.in_ok-pair.ensures.sums.0 c.in_ok-pair.ensures.sums.1

pub read_pair-requires-clause-summed : goal.read_pair-requires-clause-summed
read_pair-requires-clause-summed g c so = c.in_ok-slot.ensures.summed
