use Rattle.std.proofs.Common.{◌≡◌, ◌-◌, ◌++◌, ◌∙◌, ℕ, List, Option, None, length, get_or, set, replicate, refl, ap, arith}
use Rattle.heap_images.specs.Packed.{slots_in}
use Rattle.heap_images.specs.Slots.{space_in}
use Rattle.heap_images.proofs.PackedLemmas.{length-slots_in}
use Rattle.heap_images.proofs.HeapImageLemmas.{so_far_none, so_far_more, so_far_all, length-so_far, put_room}
use Rattle.lmem_heap.proofs.image.unpack.Goals as goal

pub grow-requires-clause-room : goal.grow-requires-clause-room
grow-requires-clause-room c = omega (arith, c.requires.fits, length-slots_in c.args.slots c.args.rest.now, ap space_in c.of_region-table.ensures.chunks)

pub overflow_mul-at : goal.overflow_mul-at
overflow_mul-at c = record { fits = omega (arith, c.requires.fits, length-slots_in c.args.slots c.args.rest.now) }

pub loop-i-init : goal.loop-i-init
loop-i-init c =
    let t = slots_in c.args.slots c.args.rest.now in let n = c.args.slots in
    let count : n - length c.of_region-table.result.chunks ≡ length t - 0 = omega (arith, ap length c.of_region-table.ensures.chunks, length-slots_in n c.args.rest.now) in
    record {
      filled = c.grow.ensures ∙ (ap (λ (cs : List (Option (List ℕ))). cs ++ replicate (n - length c.of_region-table.result.chunks) None) c.of_region-table.ensures.chunks ∙ ap (λ (k : ℕ). replicate k None) count);
      at = omega arith;
    }

pub unpack_slot-at-requires-clause-count : goal.unpack_slot-at-requires-clause-count
unpack_slot-at-requires-clause-count c =
    let t = slots_in c.args.slots c.args.rest.now in let count = length-slots_in c.args.slots c.args.rest.now in
    ap length c.loop-i.invariant.filled ∙ (length-so_far t c.loop-i.i (omega (arith, count)) ∙ count)

pub unpack_slot-at-requires-clause-none : goal.unpack_slot-at-requires-clause-none
unpack_slot-at-requires-clause-none c =
    let t = slots_in c.args.slots c.args.rest.now in
    ap (λ (cs : List (Option (List ℕ))). get_or cs c.loop-i.i None) c.loop-i.invariant.filled ∙ so_far_none t c.loop-i.i (omega (arith, length-slots_in c.args.slots c.args.rest.now))

pub unpack_slot-at-requires-clause-room : goal.unpack_slot-at-requires-clause-room
unpack_slot-at-requires-clause-room c =
    let t = slots_in c.args.slots c.args.rest.now in
    put_room t c.loop-i.table.chunks c.loop-i.i (get_or t c.loop-i.i None) c.loop-i.invariant.filled (omega (arith, length-slots_in c.args.slots c.args.rest.now)) refl c.requires.fits

pub returns : goal.returns
returns c = let t = slots_in c.args.slots c.args.rest.now in c.loop-i.invariant.filled ∙ so_far_all t c.loop-i.i (omega (arith, length-slots_in c.args.slots c.args.rest.now))

pub loop-i-preserved : goal.loop-i-preserved
loop-i-preserved c =
    let t = slots_in c.args.slots c.args.rest.now in let i = c.loop-i.i in
    record {
      filled = c.unpack_slot-at.ensures.filled ∙ (ap (λ (cs : List (Option (List ℕ))). set cs i (get_or t i None)) c.loop-i.invariant.filled ∙ so_far_more t i (get_or t i None) (omega (arith, length-slots_in c.args.slots c.args.rest.now)) refl);
      at = c.unpack_slot-at.ensures.ends;
    }
