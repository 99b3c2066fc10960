use Rattle.std.proofs.Common.{is_some, refl, ap, ◌∙◌, arith}
use Rattle.std.proofs.lemmas.List.{take_all}
use Rattle.heap_images.specs.Packed.{slots_in}
use Rattle.heap_images.specs.Slots.{space_in}
use Rattle.heap_images.proofs.PackedLemmas.{Opened, opened, length-slots_in}
use Rattle.heap_images.proofs.SlotLemmas.{space_some, space_none, none_by_size, space_of_at_most}
use Rattle.heap_images.proofs.HeapImageLemmas.{size_le}
use Rattle.heap_images.proofs.reading.space_total.Goals as goal
use Rattle.heap_images.proofs.reading.space_total.Goals.{in-Some, in_default}

pub space_of-space-requires : goal.space_of-space-requires
space_of-space-requires c =
    let n = c.args.slots in let xs = c.args.rest.now in let t = slots_in n xs in let o : Opened n xs t = opened n xs t refl (c.requires.whole, c.requires.short) in
    omega (arith, o.room, size_le t c.loop-i.i c.in-Some.size (omega (arith, o.count)) c.in-Some.ensures)

pub overflow_add-space : goal.overflow_add-space
overflow_add-space c =
    let n = c.args.slots in let xs = c.args.rest.now in let t = slots_in n xs in let o : Opened n xs t = opened n xs t refl (c.requires.whole, c.requires.short) in
    record { fits = omega (arith, o.room, o.count, c.space_of-space.ensures, space_of_at_most c.in-Some.size, size_le t c.loop-i.i c.in-Some.size (omega (arith, o.count)) c.in-Some.ensures) }

pub loop-i-preserved : goal.loop-i-preserved
loop-i-preserved c =
    let n = c.args.slots in let xs = c.args.rest.now in let t = slots_in n xs in let o : Opened n xs t = opened n xs t refl (c.requires.whole, c.requires.short) in
    elim c.match-slot_size.branch [
      | in-Some w ↦
          let l = size_le t c.loop-i.i w.in-Some.size (omega (arith, o.count)) w.in-Some.ensures in
          let e = space_some t c.loop-i.i w.in-Some.size (omega (arith, o.count)) w.in-Some.ensures in
          (omega (arith, e, w.space-is, w.space_of-space.ensures), omega (arith, l, space_of_at_most w.in-Some.size, o.room, w.space-is, w.space_of-space.ensures))
      | in_default w ↦
          let e = space_none t c.loop-i.i (omega (arith, o.count)) (none_by_size _ c.slot_size.result c.slot_size.ensures (ap is_some w.in_default.is)) in
          (omega (arith, e, w.space-is), omega (arith, w.space-is))
    ]

pub returns-clause-value : goal.returns-clause-value
returns-clause-value c =
    let n = c.args.slots in let t = slots_in n c.args.rest.now in
    c.loop-i.invariant.0 ∙ ap space_in (take_all c.loop-i.i t (omega (arith, length-slots_in n c.args.rest.now)))

pub returns-clause-bound : goal.returns-clause-bound
returns-clause-bound c =
    let n = c.args.slots in let xs = c.args.rest.now in let t = slots_in n xs in let o : Opened n xs t = opened n xs t refl (c.requires.whole, c.requires.short) in
    omega (arith, o.room, o.count)
