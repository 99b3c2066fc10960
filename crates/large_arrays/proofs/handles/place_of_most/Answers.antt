use Rattle.std.proofs.Common.{◌∙◌, ◌+◌, ℕ, List, get_or, drop, sym, ap, arith}
use Rattle.geos_model.specs.LargeWindow.{greatest}
use Rattle.large_arrays.specs.HandleLists.{old_pairs}
use Rattle.large_arrays.proofs.HandlePlaces.{pair_at, pairs_many, greatest_more, greatest_less, greatest_end}
use Rattle.large_arrays.proofs.handles.place_of_most.Goals as goal
use Rattle.large_arrays.proofs.handles.place_of_most.Goals.{then-olds-most, else-olds-most}

pub loop-i-preserved : goal.loop-i-preserved
loop-i-preserved c =
    let olds = c.args.olds.now in
    let pairs : List (ℕ × ℕ) = old_pairs olds in
    let most : ℕ = c.loop-i.most in
    let i : ℕ = c.loop-i.i in
    let many = pairs_many olds in
    let best = ap (λ (p : ℕ × ℕ). p.1) (pair_at olds most) in
    let here = ap (λ (p : ℕ × ℕ). p.1) (pair_at olds i) in
    let low = c.loop-i-test.true in
    elim c.if-olds-most.branch [
      | then-olds-most w ↦
          (let more = w.if-olds-most.true in
          let is = w.most-is in record {
            low = omega (arith, is);
            is =
                c.loop-i.invariant.is ∙ greatest_more (get_or pairs most (0, 0)) pairs i (omega arith) (omega (arith, best, here, more))
                ∙ ap (λ (k : ℕ). greatest (get_or pairs k (0, 0)) (drop (i + 1) pairs)) (sym is);
          })
      | else-olds-most w ↦
          (let less = w.if-olds-most.false in
          let is = w.most-is in record {
            low = (let in_list = c.loop-i.invariant.low in omega (arith, is));
            is =
                c.loop-i.invariant.is ∙ greatest_less (get_or pairs most (0, 0)) pairs i (omega arith) (omega (arith, best, here, less))
                ∙ ap (λ (k : ℕ). greatest (get_or pairs k (0, 0)) (drop (i + 1) pairs)) (sym is);
          })
    ]

pub returns : goal.returns
returns c =
    let olds = c.args.olds.now in
    let pairs : List (ℕ × ℕ) = old_pairs olds in
    let many = pairs_many olds in
    let low = c.loop-i.invariant.low in
    let past = c.loop-i-test.false in record {
      low = omega arith;
      is = c.loop-i.invariant.is ∙ greatest_end (get_or pairs c.loop-i.most (0, 0)) pairs c.loop-i.i (omega arith);
    }
