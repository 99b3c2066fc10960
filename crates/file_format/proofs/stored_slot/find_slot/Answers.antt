use Rattle.std.proofs.Common.{◌≤◌, length, sym, ap₂, ◌∙◌, arith, inr}
use Rattle.std.proofs.lemmas.Result.{err_from_is_err_and}
use Rattle.file_format.specs.File.{counting_slot}
use Rattle.file_format.specs.Slots.{IsRawSlot}
use Rattle.file_format.proofs.LooksLemmas.{OnlyReadsStore-trans, held_before}
use Rattle.file_format.proofs.StoredSlotLemmas.{no_slot, raw_slot_opened, found_slot_is}
use Rattle.file_format.proofs.stored_slot.find_slot.Goals as goal

pub returns-in_err-second-clause-looks : goal.returns-in_err-second-clause-looks
returns-in_err-second-clause-looks g c = OnlyReadsStore-trans _ _ _ (λ so. g.met.S.Store.timely c.args.store.now so) c.read_raw_slot.ensures.looks c.read_raw_slot-2.ensures.looks

pub returns-in_err-choice-clause-looks : goal.returns-in_err-choice-clause-looks
returns-in_err-choice-clause-looks g c = OnlyReadsStore-trans _ _ _ (λ so. g.met.S.Store.timely c.args.store.now so) c.read_raw_slot.ensures.looks c.read_raw_slot-2.ensures.looks

pub returns-in_err-choice-clause-refused : goal.returns-in_err-choice-clause-refused
returns-in_err-choice-clause-refused g c =
    let p = err_from_is_err_and c.from_residual-in_err-choice.result c.from_residual-in_err-choice.ensures.1 in
    rw (p.1, p.2) (λ so.
    let file = (g.S.Store.facts c.args.store.now).content in
    let same = c.requires so in
    let two = c.from.ensures in
    let long : 1024 ≤ length file = omega (arith, same, two) in
    let zeroth = c.in_ok-first.ensures.raw so in
    let one = held_before (λ f. IsRawSlot f 1 c.in_ok-second.second) _ _ c.read_raw_slot.ensures.looks c.in_ok-second.ensures.raw so in
    inr (no_slot file c.in_err-choice.field-0.0 long (sym (ap₂ counting_slot (raw_slot_opened file 0 c.in_ok-first.first _ zeroth c.if_open.ensures) (raw_slot_opened file 1 c.in_ok-second.second _ one c.if_open-2.ensures)) ∙ c.in_err-choice.ensures.chosen)))

pub returns-clause-looks : goal.returns-clause-looks
returns-clause-looks g c = OnlyReadsStore-trans _ _ _ (λ so. g.met.S.Store.timely c.args.store.now so) c.read_raw_slot.ensures.looks c.read_raw_slot-2.ensures.looks

pub returns-clause-found : goal.returns-clause-found
returns-clause-found g c so =
    let file = (g.S.Store.facts c.args.store.now).content in
    let same = c.requires so in
    let two = c.from.ensures in
    let long : 1024 ≤ length file = omega (arith, same, two) in
    let zeroth = c.in_ok-first.ensures.raw so in
    let one = held_before (λ f. IsRawSlot f 1 c.in_ok-second.second) _ _ c.read_raw_slot.ensures.looks c.in_ok-second.ensures.raw so in
    found_slot_is file c.in_ok-first.first c.in_ok-second.second c.other_of.result c.in_ok-choice.choice.second c.in_ok-choice.choice.slot c.if_open.result c.if_open-2.result long zeroth one
    (raw_slot_opened file 0 c.in_ok-first.first _ zeroth c.if_open.ensures) (raw_slot_opened file 1 c.in_ok-second.second _ one c.if_open-2.ensures)
    c.in_ok-choice.ensures.chosen c.in_ok-choice.ensures.which c.in_ok-choice.ensures.beaten c.other_of.ensures
