use Rattle.std.proofs.Common.{◌<◌, length, arith, ◌∙◌}
use Rattle.geos_model.specs.ElementArray.{first_token}
use Rattle.element_arrays.specs.Slotted.{Slotted}
use Rattle.element_arrays.proofs.SlottedLemmas.{extra-slots, length_extra, first_token-read, some_free, none_free}
use Rattle.element_arrays.proofs.slot_view.SlotView.newest_free.Goals as goal

pub read_u16-first-requires : goal.read_u16-first-requires
read_u16-first-requires c =
    let s : Slotted = c.args.self.now in
    let len = length_extra s.more (first_token s.slots.free) c.extra.result.now (c.extra.ensures ∙ extra-slots s.more s.slots c.array.result.now.array c.array.ensures) in
    omega (arith, len)

pub returns-then-first-len : goal.returns-then-first-len
returns-then-first-len c =
    let s : Slotted = c.args.self.now in
    let few : length s.slots.slots < 65536 = omega (arith, c.len.ensures) in
    let extra = c.extra.ensures ∙ extra-slots s.more s.slots c.array.result.now.array c.array.ensures in
    some_free s.slots c.read_u16-first.result (c.read_u16-first.ensures ∙ first_token-read s.more s.slots c.extra.result.now extra s.sound few) few (omega (arith, c.len.ensures, c.if-first-len.true))

pub returns-else-first-len : goal.returns-else-first-len
returns-else-first-len c =
    let s : Slotted = c.args.self.now in
    let few : length s.slots.slots < 65536 = omega (arith, c.len.ensures) in
    let extra = c.extra.ensures ∙ extra-slots s.more s.slots c.array.result.now.array c.array.ensures in
    none_free s.slots c.read_u16-first.result (c.read_u16-first.ensures ∙ first_token-read s.more s.slots c.extra.result.now extra s.sound few) s.sound (omega (arith, c.len.ensures, c.if-first-len.false))
