use Rattle.std.proofs.Common.{◌≡◌, ◌≤◌, length, Err, subst, arith, inr}
use Rattle.file_format.specs.File.{pair_of}
use Rattle.geos_model.specs.declared.fault.Fault.TheVariants.{NotDocument}
use Rattle.file_format.specs.Slots.{slot_stands}
use Rattle.file_format.proofs.StoredSlotLemmas.{slot_stands-read, open_summed}
use Rattle.file_format.proofs.stored_slot.read_open_slot.Goals as goal

pub returns-in-Some-clause-slot : goal.returns-in-Some-clause-slot
returns-in-Some-clause-slot g c so =
    let file = (g.S.Store.facts c.args.store.now).content in
    let same = c.requires so in
    let two = c.from.ensures in
    let long : 1024 ≤ length file = omega (arith, same, two) in
    subst (λ page. slot_stands file page ≡ pair_of file c.in-Some.slot) c.page_of.ensures (slot_stands-read file c.page_of.result c.in_ok-raw.raw _ long (c.in_ok-raw.ensures.raw so) c.in-Some.ensures)

pub returns-in-None-clause-refused : goal.returns-in-None-clause-refused
returns-in-None-clause-refused g c so =
    let file = (g.S.Store.facts c.args.store.now).content in
    let same = c.requires so in
    let two = c.from.ensures in
    let long : 1024 ≤ length file = omega (arith, same, two) in
    inr (subst (λ page. slot_stands file page ≡ Err NotDocument) c.page_of.ensures (slot_stands-read file c.page_of.result c.in_ok-raw.raw _ long (c.in_ok-raw.ensures.raw so) c.in-None.ensures))

pub returns-in-Some-clause-summed : goal.returns-in-Some-clause-summed
returns-in-Some-clause-summed g c = open_summed _ _ c.in-Some.slot c.in_ok-raw.ensures.summed c.if_open.ensures c.in-Some.is
