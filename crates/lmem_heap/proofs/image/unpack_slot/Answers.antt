use Rattle.std.proofs.Common.{◌≡◌, ◌<◌, ◌+◌, ℕ, List, [], is_some, Option, Some, None, length, get_or, set, unwrap_or, refl, sym, ap, ◌∙◌, arith}
use Rattle.std.specs.List as list
use Rattle.heap_images.specs.Packed.{slots_in}
use Rattle.heap_images.proofs.PackedLemmas.{Opened, opened, slot_some, place_within, chunk_is}
use Rattle.heap_images.proofs.SlotLemmas.{none_by_size}
use Rattle.heap_images.proofs.HeapImageLemmas.{chunks_more}
use Rattle.lmem_heap.proofs.image.unpack_slot.Goals as goal

pub overflow_add-at : goal.overflow_add-at
overflow_add-at c =
    let n = c.args.slots in let xs = c.args.rest.now in let t = slots_in n xs in let o : Opened n xs t = opened n xs t refl (c.requires.table.whole, c.requires.table.short) in let i = c.args.i in
    let l : i < length t = omega (arith, o.count, c.requires.slot) in let more = chunks_more t i l in
    let slot = slot_some (get_or t i None) c.in-Some.size c.in-Some.ensures in let size : length (unwrap_or (get_or t i None) []) ≡ c.in-Some.size = ap (λ (q : Option (List ℕ)). length (unwrap_or q [])) slot.1 ∙ sym slot.2 in
    record { fits = omega (arith, place_within t i l, size, o.room, o.count, c.requires.begins) }

pub slice_bounds-put-end : goal.slice_bounds-put-end
slice_bounds-put-end c =
    let n = c.args.slots in let xs = c.args.rest.now in let t = slots_in n xs in let o : Opened n xs t = opened n xs t refl (c.requires.table.whole, c.requires.table.short) in let i = c.args.i in
    let l : i < length t = omega (arith, o.count, c.requires.slot) in let more = chunks_more t i l in
    let slot = slot_some (get_or t i None) c.in-Some.size c.in-Some.ensures in let size : length (unwrap_or (get_or t i None) []) ≡ c.in-Some.size = ap (λ (q : Option (List ℕ)). length (unwrap_or q [])) slot.1 ∙ sym slot.2 in
    omega (arith, place_within t i l, size, o.long, o.count, c.requires.begins)

pub returns-in-Some-clause-filled : goal.returns-in-Some-clause-filled
returns-in-Some-clause-filled c =
    let n = c.args.slots in let xs = c.args.rest.now in let t = slots_in n xs in let o : Opened n xs t = opened n xs t refl (c.requires.table.whole, c.requires.table.short) in let i = c.args.i in
    let l : i < length t = omega (arith, o.count, c.requires.slot) in let more = chunks_more t i l in
    let slot = slot_some (get_or t i None) c.in-Some.size c.in-Some.ensures in let size : length (unwrap_or (get_or t i None) []) ≡ c.in-Some.size = ap (λ (q : Option (List ℕ)). length (unwrap_or q [])) slot.1 ∙ sym slot.2 in
    let at = c.args.at in
    c.put.ensures ∙ ap (λ (q : Option (List ℕ)). set c.args.table.now.chunks i q)
    (ap (λ (b : List ℕ). Some (list.between at (at + c.in-Some.size) b)) o.bytes
    ∙ (ap Some (chunk_is t i l at (at + c.in-Some.size) (omega (arith, o.count, c.requires.begins)) (omega (arith, size))) ∙ (ap (λ (q : Option (List ℕ)). Some (unwrap_or q [])) slot.1 ∙ sym slot.1)))

pub returns-in-Some-clause-ends : goal.returns-in-Some-clause-ends
returns-in-Some-clause-ends c =
    let n = c.args.slots in let xs = c.args.rest.now in let t = slots_in n xs in let o : Opened n xs t = opened n xs t refl (c.requires.table.whole, c.requires.table.short) in let i = c.args.i in
    let l : i < length t = omega (arith, o.count, c.requires.slot) in let more = chunks_more t i l in
    let slot = slot_some (get_or t i None) c.in-Some.size c.in-Some.ensures in let size : length (unwrap_or (get_or t i None) []) ≡ c.in-Some.size = ap (λ (q : Option (List ℕ)). length (unwrap_or q [])) slot.1 ∙ sym slot.2 in
    omega (arith, more, size, c.requires.begins)

pub returns-in-None-clause-ends : goal.returns-in-None-clause-ends
returns-in-None-clause-ends c =
    let n = c.args.slots in let xs = c.args.rest.now in let t = slots_in n xs in let o : Opened n xs t = opened n xs t refl (c.requires.table.whole, c.requires.table.short) in let i = c.args.i in
    let l : i < length t = omega (arith, o.count, c.requires.slot) in let more = chunks_more t i l in
    let none = none_by_size (get_or t i None) c.slot_size.result c.slot_size.ensures (ap is_some c.in-None.is) in
    omega (arith, more, ap (λ (q : Option (List ℕ)). length (unwrap_or q [])) none, c.requires.begins)
