use Rattle.std.proofs.Common.{◌≡◌, ◌++◌, ◌∷◌, ◌+◌, ◌-◌, ℕ, [], List, length, slice_index, subst, sym, ap, append_assoc, append-nil, ◌∙◌, arith}
use Rattle.file_salvage.specs.Rows.{row_to}
use Rattle.file_salvage.proofs.RowLemmas.{row_high, row_low, row_none, walk_left, walk_taken}
use Rattle.file_salvage.proofs.rows.walk.Goals.{else-numbers-i-ge1-via-then-numbers-i-ge1+then-numbers-i+else-lengths-i, else-numbers-i-ge1-via-then-numbers-i-ge1+else-numbers-i, else-numbers-i-ge1-via-else-numbers-i-ge1}
use Rattle.file_salvage.proofs.rows.walk.Goals as goal

pub loop-i-preserved-then-lengths-i : goal.loop-i-preserved-then-lengths-i
loop-i-preserved-then-lengths-i c =
    let numbers = c.args.numbers.now in
    let i = c.loop-i.i - 1 in
    let x = slice_index numbers i in
    let next : c.loop-i.i ≡ i + 1 = omega arith in
    let left = subst (λ (n : ℕ). c.loop-i.left ≡ length (row_to numbers n c.loop-i.most)) next c.loop-i.invariant.left in
    let rest = subst (λ (n : ℕ). c.loop-i.row.items ++ row_to numbers n c.loop-i.most ≡ row_to numbers (length numbers) 65535) next c.loop-i.invariant.rest in
    let reach = c.requires.lengths i (omega arith) c.if-numbers-i-ge1.true in
    let step = walk_taken numbers i c.loop-i.most c.loop-i.left (slice_index c.args.lengths.now i) c.if-numbers-i-ge1.true c.if-numbers-i.true left reach c.if-lengths-i.true in
    let count = ap length step in
    record {
      rest = ap (λ (l : List ℕ). l ++ row_to numbers i x) c.in_ok-push.ensures.items ∙ append_assoc c.loop-i.row.items (i ∷ []) (row_to numbers i x) ∙ ap (λ (l : List ℕ). c.loop-i.row.items ++ l) (sym step) ∙ rest;
      left = omega (arith, count, left);
    }

pub loop-i-preserved : goal.loop-i-preserved
loop-i-preserved c =
    let numbers = c.args.numbers.now in
    let i = c.loop-i.i - 1 in
    let next : c.loop-i.i ≡ i + 1 = omega arith in
    let left = subst (λ (n : ℕ). c.loop-i.left ≡ length (row_to numbers n c.loop-i.most)) next c.loop-i.invariant.left in
    let rest = subst (λ (n : ℕ). c.loop-i.row.items ++ row_to numbers n c.loop-i.most ≡ row_to numbers (length numbers) 65535) next c.loop-i.invariant.rest in
    let step : row_to numbers (i + 1) c.loop-i.most ≡ row_to numbers i c.loop-i.most = elim c.else-numbers-i-ge1.branch [
      | else-numbers-i-ge1-via-then-numbers-i-ge1+then-numbers-i+else-lengths-i w ↦ walk_left numbers i c.loop-i.most c.loop-i.left (slice_index c.args.lengths.now i) w.if-numbers-i-ge1.true w.if-numbers-i.true left (c.requires.lengths i (omega arith) w.if-numbers-i-ge1.true) w.if-lengths-i.false
      | else-numbers-i-ge1-via-then-numbers-i-ge1+else-numbers-i w ↦ row_high numbers i c.loop-i.most w.if-numbers-i.false
      | else-numbers-i-ge1-via-else-numbers-i-ge1 w ↦ row_low numbers i c.loop-i.most (let none = w.if-numbers-i-ge1.false in omega (arith, none))
    ] in
    record {
      rest = ap (λ (l : List ℕ). c.loop-i.row.items ++ l) (sym step) ∙ rest;
      left = left ∙ ap length step;
    }

pub returns : goal.returns
returns c =
    let numbers = c.args.numbers.now in
    let end : c.loop-i.i ≡ 0 = omega arith in
    let rest = subst (λ (n : ℕ). c.loop-i.row.items ++ row_to numbers n c.loop-i.most ≡ row_to numbers (length numbers) 65535) end c.loop-i.invariant.rest in
    sym (append-nil c.loop-i.row.items) ∙ sym (ap (λ (l : List ℕ). c.loop-i.row.items ++ l) (row_none numbers c.loop-i.most)) ∙ rest
