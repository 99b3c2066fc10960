use Rattle.std.proofs.Common.{◌≡◌, ◌&&◌, ◌∙◌, ◌<◌, ◌+◌, ◌-◌, ℕ, List, Bool, [], true, false, length, get_or, take, count_by, sym, ap, ap₂, subst, arith}
use Rattle.std.specs.List.{list_all}
use Rattle.std.proofs.lemmas.List.Folds.{list_all_more}
use Rattle.std.proofs.lemmas.List.Sums.{count_by_more_no}
use Rattle.element_arrays.specs.Tested.{is_freed, is_slot_within}
use Rattle.element_arrays.proofs.slot_view.count_free.Goals as goal

pub loop-i-preserved-then-is_plain : goal.loop-i-preserved-then-is_plain
loop-i-preserved-then-is_plain c =
    let xs : List (List ℕ) = c.args.view.now.array.elements in
    let i : ℕ = c.loop-i.i in
    let all = c.count-count.ensures in
    let within : i < length xs = omega (arith, all, c.loop-i-test.true) in
    let plain = c.is_plain.ensures c.if-is_plain.true c.args.size in
    let bytes : c.element_from-next.result.0.now ≡ get_or xs i [] = c.element_from-next.ensures.bytes in
    let slot : is_slot_within c.args.size c.args.least c.args.most (get_or xs i []) ≡ true = ap (is_slot_within c.args.size c.args.least c.args.most) (sym bytes) ∙ plain.0 in
    let used : is_freed (get_or xs i []) ≡ false = ap is_freed (sym bytes) ∙ plain.1 in
    record {
      slots = list_all_more (is_slot_within c.args.size c.args.least c.args.most) xs i [] within ∙ ap₂ (λ (a b : Bool). a && b) c.loop-i.invariant.slots slot;
      free = c.loop-i.invariant.free ∙ sym (count_by_more_no is_freed xs i [] within used);
      place = c.element_from-next.ensures.next;
    }
