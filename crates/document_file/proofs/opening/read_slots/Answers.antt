use Rattle.std.proofs.Common.{◌≡◌, ◌⊎◌, ℕ, Bool, None, IsTrue, Err, sym, ap, subst, ◌∙◌, inl, inr}
use Rattle.std.specs.Prelude.{if◌then◌else◌}
use Rattle.file_format.proofs.StoredSlotLemmas.{slot_summed}
use Rattle.std.proofs.lemmas.Result.{err_from_is_err_and}
use Rattle.file_format.specs.File.{stands, both, saved_sum, summed_document, working_sum}
use Rattle.geos_model.specs.declared.fault.Fault.TheVariants.{Damaged}
use Rattle.file_format.specs.Reading.{IsResourceFault}
use Rattle.document_file.specs.Documents.{AreStored}
use Rattle.document_file.specs.Opened.{IsActiveSlot, IsReadSlots, IsReadWhole}
use Rattle.document_file.specs.Sums.{has_sums, version_for}
use Rattle.file_format.proofs.LooksLemmas.{OnlyReadsStore-trans, held_before}
use Rattle.document_file.proofs.OpenedLemmas.{slots_formed, slots_whole, slot_refused, pair_refused}
use Rattle.document_file.proofs.opening.read_slots.Goals as goal

-- the version that commits write
next_is_for : (summed : Bool) (next version : ℕ) → next ≡ version_for summed → summed ≡ has_sums version → next ≡ version_for (has_sums version)
next_is_for summed next version is has = is ∙ ap version_for has

pub returns-in_err-active-clause-looks : goal.returns-in_err-active-clause-looks
returns-in_err-active-clause-looks g c = OnlyReadsStore-trans _ _ _ (λ so. g.met.S.Store.timely c.args.store.now so) c.read_length.ensures.looks c.find_active.ensures.looks

pub returns-in_err-active-clause-refused : goal.returns-in_err-active-clause-refused
returns-in_err-active-clause-refused g c =
    let p = err_from_is_err_and c.from_residual-in_err-active.result c.from_residual-in_err-active.ensures.1 in
    rw (p.1, p.2) (λ so. held_before (λ f. IsResourceFault c.in_err-active.field-0.0 ⊎ (stands f ≡ Err c.in_err-active.field-0.0)) _ _ c.read_length.ensures.looks c.in_err-active.ensures.refused so)

pub returns-in_err-check_slot-clause-looks : goal.returns-in_err-check_slot-clause-looks
returns-in_err-check_slot-clause-looks g c = OnlyReadsStore-trans _ _ _ (λ so. g.met.S.Store.timely c.args.store.now so) c.read_length.ensures.looks c.find_active.ensures.looks

pub returns-in_err-check_slot-clause-refused : goal.returns-in_err-check_slot-clause-refused
returns-in_err-check_slot-clause-refused g c =
    let p = err_from_is_err_and c.from_residual-in_err-check_slot.result c.from_residual-in_err-check_slot.ensures.1 in
    rw (p.1, p.2) (λ so.
    let file = (g.S.Store.facts c.args.store.now).content in
    let active = held_before (λ f. IsActiveSlot f c.in_ok-active.active) _ _ c.read_length.ensures.looks c.in_ok-active.ensures.active so in
    inr (slot_refused file c.in_ok-active.active _ active (c.in_err-check_slot.ensures.refused file)))

pub returns-in_err-committed-clause-looks : goal.returns-in_err-committed-clause-looks
returns-in_err-committed-clause-looks g c =
    OnlyReadsStore-trans _ _ _ (λ so. g.met.S.Store.timely c.args.store.now so) (OnlyReadsStore-trans _ _ _ (λ so. g.met.S.Store.timely c.args.store.now so) c.read_length.ensures.looks c.find_active.ensures.looks) c.read_pair.ensures.looks

pub returns-in_err-committed-clause-refused : goal.returns-in_err-committed-clause-refused
returns-in_err-committed-clause-refused g c =
    let p = err_from_is_err_and c.from_residual-in_err-committed.result c.from_residual-in_err-committed.ensures.1 in
    let two = OnlyReadsStore-trans _ _ _ (λ so. g.met.S.Store.timely c.args.store.now so) c.read_length.ensures.looks c.find_active.ensures.looks in
    let x = c.in_err-committed.field-0.0 in
    rw (p.1, p.2) (λ so.
    let file = (g.S.Store.facts c.args.store.now).content in
    let s = c.in_ok-active.active.slot in
    let good = c.in_ok-check_slot.ensures.ok in
    let active = held_before (λ f. IsActiveSlot f c.in_ok-active.active) _ _ c.read_length.ensures.looks c.in_ok-active.ensures.active so in
    elim c.in_err-committed.ensures.refusals as (λ _. IsResourceFault x ⊎ (stands file ≡ Err x)) [
      | inl supply ↦ inl supply
      | inr damaged ↦
          let wrong = held_before (λ f. both (summed_document s.version f (working_sum s) s.working) (summed_document s.version f (saved_sum s) s.saved) ≡ Err Damaged) _ _ two (c.in_err-committed.ensures.damaged (ap (λ f. Err f) damaged)) so in
          inr (slot_refused file c.in_ok-active.active Damaged active (pair_refused file s (record { version = good.0; reserved = good.1; some = good.2; sealed = good.4 }) wrong) ∙ ap (λ f. Err f) (sym damaged))
    ])

pub returns-clause-looks : goal.returns-clause-looks
returns-clause-looks g c =
    OnlyReadsStore-trans _ _ _ (λ so. g.met.S.Store.timely c.args.store.now so) (OnlyReadsStore-trans _ _ _ (λ so. g.met.S.Store.timely c.args.store.now so) c.read_length.ensures.looks c.find_active.ensures.looks) c.read_pair.ensures.looks

pub returns-clause-formed : goal.returns-clause-formed
returns-clause-formed g c =
    let good = c.in_ok-check_slot.ensures.ok in
    let s = c.in_ok-active.active.slot in
    subst (λ n. IsReadSlots (record { second = c.in_ok-active.active.second; version = s.version; next_version = n; sequence = s.sequence; committed = c.in_ok-committed.committed; spare = c.in_ok-active.active.spare; marked = None; saved_sums = None })) (sym (next_is_for c.has_sums.result c.version_for.result s.version c.version_for.ensures c.has_sums.ensures))
    (slots_formed c.in_ok-file_length.file_length s.version s.sequence c.in_ok-active.active.second c.in_ok-committed.committed c.in_ok-active.active.spare c.in_ok-committed.ensures.formed good.0 good.2 good.3 c.in_ok-active.ensures.alone)

pub returns-clause-whole : goal.returns-clause-whole
returns-clause-whole g c so =
    let file = (g.S.Store.facts c.args.store.now).content in
    let two = OnlyReadsStore-trans _ _ _ (λ so. g.met.S.Store.timely c.args.store.now so) c.read_length.ensures.looks c.find_active.ensures.looks in
    let good = c.in_ok-check_slot.ensures.ok in
    let active = held_before (λ f. IsActiveSlot f c.in_ok-active.active) _ _ c.read_length.ensures.looks c.in_ok-active.ensures.active so in
    let stored = held_before (λ f. AreStored c.in_ok-active.active.slot.version f c.in_ok-committed.committed) _ _ two c.in_ok-committed.ensures.stored so in
    let s = c.in_ok-active.active.slot in
    subst (λ n. IsReadWhole file (record { second = c.in_ok-active.active.second; version = s.version; next_version = n; sequence = s.sequence; committed = c.in_ok-committed.committed; spare = c.in_ok-active.active.spare; marked = None; saved_sums = None })) (sym (next_is_for c.has_sums.result c.version_for.result s.version c.version_for.ensures c.has_sums.ensures))
    (slots_whole file c.in_ok-file_length.file_length c.in_ok-active.active c.in_ok-committed.committed (c.in_ok-file_length.ensures.length so) active (record { version = good.0; reserved = good.1; some = good.2; sealed = good.4 })
    c.in_ok-committed.ensures.formed stored c.in_ok-committed.ensures.directories.0 c.in_ok-committed.ensures.directories.1 c.in_ok-committed.ensures.sums.0 c.in_ok-committed.ensures.sums.1)

pub read_pair-requires-clause-summed : goal.read_pair-requires-clause-summed
read_pair-requires-clause-summed g c so =
    let first : IsTrue (g.S.Store.facts c.args.store.now).honest = subst IsTrue (c.read_length.ensures.looks.honest) (subst IsTrue (c.find_active.ensures.looks.honest) so) in
    let active = held_before (λ f. IsActiveSlot f c.in_ok-active.active) _ _ c.read_length.ensures.looks c.in_ok-active.ensures.active first in
    slot_summed (g.S.Store.facts c.args.store.now).content (if c.in_ok-active.active.second then 1 else 0) c.in_ok-active.active.slot active.opened
