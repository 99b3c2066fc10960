use Rattle.std.proofs.Common.{◌*◌, ℕ, List, Option, None, get_or, arith, ap, refl, ◌∙◌}
use Rattle.geos_model.specs.Words.{word_at}
use Rattle.heap_images.specs.Packed.{slots_in}
use Rattle.heap_images.proofs.PackedLemmas.{opened, size_is, size_none, size_some, slot_length}
use Rattle.heap_images.proofs.reading.slot_size.Goals as goal

pub size_word-size-requires : goal.size_word-size-requires
size_word-size-requires c =
    let n = c.args.slots in let xs = c.args.rest.now in let o = opened n xs (slots_in n xs) refl (c.requires.table.whole, c.requires.table.short) in omega (arith, o.long, o.count, c.requires.slot)

pub returns-then-size : goal.returns-then-size
returns-then-size c =
    let n = c.args.slots in let xs = c.args.rest.now in let t = slots_in n xs in let o = opened n xs t refl (c.requires.table.whole, c.requires.table.short) in
    let slot : Option (List ℕ) = get_or t c.args.i None in
    let is = c.size_word-size.ensures.value ∙ (ap (λ (l : List ℕ). word_at l (2 * c.args.i)) o.bytes ∙ size_is t c.args.i (omega (arith, o.count, c.requires.slot)) o.small) in
    size_none slot _ is c.if-size.true (omega (arith, slot_length t c.args.i (omega (arith, o.count, c.requires.slot)), o.small))

pub returns-else-size : goal.returns-else-size
returns-else-size c =
    let n = c.args.slots in let xs = c.args.rest.now in let t = slots_in n xs in let o = opened n xs t refl (c.requires.table.whole, c.requires.table.short) in
    let slot : Option (List ℕ) = get_or t c.args.i None in
    let is = c.size_word-size.ensures.value ∙ (ap (λ (l : List ℕ). word_at l (2 * c.args.i)) o.bytes ∙ size_is t c.args.i (omega (arith, o.count, c.requires.slot)) o.small) in
    size_some slot _ is c.if-size.false
