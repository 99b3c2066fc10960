use Rattle.std.proofs.Common.{◌≡◌, ◌*◌, length, Option, refl, sym, subst, ap₂, arith}
use Rattle.std.specs.Prelude.{IfSome}
use Rattle.file_format.specs.Slots.{HasItsSums}
use Rattle.file_format.specs.declared.file.Slot.{Slot}
use Rattle.file_format.proofs.StoredSlotLemmas.{raw_slot_read, read_summed}
use Rattle.file_format.proofs.stored_slot.read_raw_slot.Goals as goal

pub returns-clause-raw : goal.returns-clause-raw
returns-clause-raw g c so =
    let long : length c.read_at.new.buffer ≡ 44 = omega arith in
    raw_slot_read _ c.read_at.new.buffer c.args.page _ _ (ap₂ (λ n m. n * m) c.from.ensures c.from-2.ensures) long c.are_bytes.ensures (c.in_ok-read_at.ensures.bytes so) refl c.read_slot.ensures

pub returns-clause-summed : goal.returns-clause-summed
returns-clause-summed g c = subst (λ (o : Option Slot). IfSome o HasItsSums) (sym c.read_slot.ensures) (read_summed c.read_at.new.buffer)
