use Rattle.std.proofs.Common.{◌≡◌, ◌-◌, ℕ, None, is_some, true, false, not, get_or, refl, sym, ap, ◌∙◌, arith}
use Rattle.std.proofs.lemmas.Bool.{leb-true}
use Rattle.heap_images.specs.Packed.{slots_in}
use Rattle.heap_images.proofs.PackedLemmas.{Opened, opened, length-slots_in}
use Rattle.heap_images.proofs.SlotLemmas.{some_by_size, none_by_size}
use Rattle.heap_images.proofs.reading.is_heap.Goals.{else-slots-gt0-via-then-slots-gt0+else-is_none, else-slots-gt0-via-else-slots-gt0}
use Rattle.heap_images.proofs.reading.is_heap.Goals as goal

pub returns-then-is_none-clause-no : goal.returns-then-is_none-clause-no
returns-then-is_none-clause-no c = λ e trimmed room.
    let n = c.args.slots in let t = slots_in n c.args.rest.now in let count = length-slots_in n c.args.rest.now in
    let live : is_some (get_or t (n - 1) None) ≡ true = ap (λ (k : ℕ). is_some (get_or t (k - 1) None)) (sym count) ∙ trimmed (omega (arith, count)) in
    let none = none_by_size (get_or t (n - 1) None) c.slot_size.result c.slot_size.ensures (c.is_none.ensures ∙ ap not c.if-is_none.true) in let no : false ≡ true = sym (ap is_some none) ∙ live in absurd (cc)

pub need_of-requires-clause-small : goal.need_of-requires-clause-small
need_of-requires-clause-small c = let n = c.args.slots in let xs = c.args.rest.now in let o : Opened n xs (slots_in n xs) = opened n xs (slots_in n xs) refl (c.requires.whole, c.requires.short) in omega (arith, o.room, o.count)

pub returns-clause-yes : goal.returns-clause-yes
returns-clause-yes c = λ e.
    let n = c.args.slots in let t = slots_in n c.args.rest.now in let count = length-slots_in n c.args.rest.now in (
      λ some. ap (λ (k : ℕ). is_some (get_or t (k - 1) None)) count ∙ elim c.else-slots-gt0.branch [
        | else-slots-gt0-via-then-slots-gt0+else-is_none w ↦ some_by_size (get_or t (n - 1) None) w.slot_size.result w.slot_size.ensures (w.is_none.ensures ∙ ap not w.if-is_none.false)
        | else-slots-gt0-via-else-slots-gt0 w ↦ absurd (omega (arith, w.if-slots-gt0.false))
      ],
      omega (arith, leb-true c.need_of.result 65520 e, c.need_of.ensures, c.space_total.ensures.value, count),
    )
