use Rattle.std.proofs.Common.{ℕ, ◌+◌, ◌++◌, List, [], ◌∷◌, replicate, None, ◌∙◌, arith}
use Rattle.geos_model.specs.ElementArray.{first_token}
use Rattle.geos_model.specs.ElementEdits.{without_element}
use Rattle.chunk_arrays.specs.Rewriting.{extra_after}
use Rattle.geos_model.proofs.ElementEdits.{used_lt}
use Rattle.element_arrays.specs.Slotted.{Slotted}
use Rattle.element_arrays.proofs.SlottedLemmas.{is_even-slots, length-slots, extra-slots, length_extra, extra_put, extra_room, freed-parts, length-freed, token_after-other, put-at, put, answers}
use Rattle.element_arrays.proofs.slot_view.SlotView.without_element.Goals as goal

pub first_word-requires : goal.first_word-requires
first_word-requires c =
    let s : Slotted = c.args.self.now in
    let len = length_extra s.more (first_token s.slots.free) c.extra.result.now (c.extra.ensures ∙ extra-slots s.more s.slots c.array-array.result.now.array c.array-array.ensures) in
    omega (arith, len)

pub rewrite-requires-clause-within : goal.rewrite-requires-clause-within
rewrite-requires-clause-within c =
    let s : Slotted = c.args.self.now in
    let len = length-slots s.more s.slots c.array-array.result.now.array c.array-array.ensures in
    let used = used_lt s.slots.slots c.args.token.0 c.requires in
    omega (arith, len, used, c.from-at.ensures)

pub rewrite-requires-clause-extra : goal.rewrite-requires-clause-extra
rewrite-requires-clause-extra c =
    let s : Slotted = c.args.self.now in
    extra_room s.more s.slots c.array-array.result.now.array c.args.token.0 c.to_le_bytes-number.result c.array-array.ensures c.to_le_bytes-number.ensures

pub rewrite-requires-clause-even : goal.rewrite-requires-clause-even
rewrite-requires-clause-even c =
    let s : Slotted = c.args.self.now in
    let t : ℕ = c.args.token.0 in
    let v = c.array-array.result.now.array in
    let is = c.array-array.ensures in
    let element : List ℕ = c.first_word.result.now ++ (255 ∷ []) ++ [] ++ replicate c.element_size.result 0 in
    is_even-slots s.more s.slots v (extra_after c.array-array.result.now.array c.to_le_bytes-number.result) c.from-at.result (c.from-at.result + 1) element is c.array-array.result.now.even
    (λ one. length-freed s.slots t (t ∷ s.slots.free) element
    (freed-parts s.more s.slots t c.element_size.result c.extra.result.now c.first_word.result.now (c.extra.ensures ∙ extra-slots s.more s.slots v is) c.first_word.ensures c.element_size.ensures))

pub returns : goal.returns
returns c =
    let s : Slotted = c.args.self.now in
    let t : ℕ = c.args.token.0 in
    let v = c.array-array.result.now.array in
    let is = c.array-array.ensures in
    let element : List ℕ = c.first_word.result.now ++ (255 ∷ []) ++ [] ++ replicate c.element_size.result 0 in
    answers s (without_element s.slots t) v (put v (extra_after c.array-array.result.now.array c.to_le_bytes-number.result) c.from-at.result (c.from-at.result + 1) element) t c.from-at.result c.rewrite.result is
    (put-at s.more s.slots v t c.from-at.result None (t ∷ s.slots.free) (extra_after c.array-array.result.now.array c.to_le_bytes-number.result) element is c.from-at.ensures
    (used_lt s.slots.slots t c.requires) (token_after-other t s.slots.free)
    (extra_put s.more s.slots v t c.to_le_bytes-number.result is c.to_le_bytes-number.ensures)
    (freed-parts s.more s.slots t c.element_size.result c.extra.result.now c.first_word.result.now (c.extra.ensures ∙ extra-slots s.more s.slots v is) c.first_word.ensures c.element_size.ensures))
    c.from-at.ensures c.rewrite.ensures
