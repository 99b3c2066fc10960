use Rattle.std.proofs.Common.{◌≡◌, ℕ, ◌+◌, ◌++◌, List, take, replicate, Some, refl, ap, arith}
use Rattle.byteorder.specs.Endian.{little_bytes}
use Rattle.geos_model.specs.ElementEdits.{with_element}
use Rattle.geos_model.proofs.ElementEdits.{used_lt}
use Rattle.element_arrays.specs.Slotted.{Slotted}
use Rattle.element_arrays.proofs.SlottedLemmas.{is_even-slots, length-slots, extra-slots, spelled-parts, length-parts, put-at, put, answers}
use Rattle.element_arrays.proofs.slot_view.SlotView.with_element.Goals as goal

-- the bytes that come in are those of the count and the element's
bytes_in : (count : ℕ) (number head tail : List ℕ) → number ≡ little_bytes 4 count → take 3 number ++ head ++ tail ++ replicate 0 0 ≡ little_bytes 3 count ++ (head ++ tail)
bytes_in count number head tail e = spelled-parts count (take 3 number) head tail (ap (take 3) e)

pub rewrite-requires-clause-within : goal.rewrite-requires-clause-within
rewrite-requires-clause-within c =
    let s : Slotted = c.args.self.now in
    let len = length-slots s.more s.slots c.array-array.result.now.array c.array-array.ensures in
    let used = used_lt s.slots.slots c.args.token.0 c.requires.used in
    omega (arith, len, used, c.from-at.ensures)

pub rewrite-requires-clause-even : goal.rewrite-requires-clause-even
rewrite-requires-clause-even c =
    let s : Slotted = c.args.self.now in
    let element : List ℕ = take 3 c.to_le_bytes-number.result ++ c.args.head.now ++ c.args.tail.now ++ replicate 0 0 in
    is_even-slots s.more s.slots c.array-array.result.now.array c.array-array.result.now.array.extra c.from-at.result (c.from-at.result + 1) element c.array-array.ensures c.array-array.result.now.even
    (length-parts s.slots.size c.args.count element (c.args.head.now ++ c.args.tail.now) (bytes_in c.args.count c.to_le_bytes-number.result c.args.head.now c.args.tail.now c.to_le_bytes-number.ensures) c.requires.sized)

pub returns : goal.returns
returns c =
    let s : Slotted = c.args.self.now in
    let t : ℕ = c.args.token.0 in
    let bytes : List ℕ = c.args.head.now ++ c.args.tail.now in
    let element : List ℕ = take 3 c.to_le_bytes-number.result ++ c.args.head.now ++ c.args.tail.now ++ replicate 0 0 in
    let v = c.array-array.result.now.array in
    let is = c.array-array.ensures in
    answers s (with_element s.slots t c.args.count bytes) v (put v c.array-array.result.now.array.extra c.from-at.result (c.from-at.result + 1) element) t c.from-at.result c.rewrite.result is
    (put-at s.more s.slots v t c.from-at.result (Some (record { count = c.args.count; bytes = bytes })) s.slots.free c.array-array.result.now.array.extra element is c.from-at.ensures
    (used_lt s.slots.slots t c.requires.used) (λ j other. refl) (extra-slots s.more s.slots v is) (bytes_in c.args.count c.to_le_bytes-number.result c.args.head.now c.args.tail.now c.to_le_bytes-number.ensures))
    c.from-at.ensures c.rewrite.ensures
