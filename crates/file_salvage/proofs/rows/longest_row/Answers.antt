use Rattle.std.proofs.Common.{◌≡◌, ◌≤◌, ℕ, List, length, subst, sym}
use Rattle.std.specs.List.Sorted.{IsNonDecreasing}
use Rattle.file_salvage.specs.Rows.{IsRow, row_to}
use Rattle.file_salvage.proofs.RowLemmas.{ends_sorted, is_longest, is_row}
use Rattle.file_salvage.proofs.rows.longest_row.Goals as goal

pub count_below-count-requires : goal.count_below-count-requires
count_below-count-requires c = subst IsNonDecreasing (sym c.as_slice.ensures.value) (ends_sorted c.args.numbers.now (length c.args.numbers.now) _ c.in_ok-lengths.ensures.ends)

pub returns-clause-longest : goal.returns-clause-longest
returns-clause-longest c =
    let numbers = c.args.numbers.now in
    let value : c.in_ok-row.row.items ≡ row_to numbers (length numbers) 65535 = c.in_ok-row.ensures in
    record {
      is = subst (IsRow numbers (length numbers) 65535) (sym value) (is_row numbers (length numbers) 65535);
      longest = λ other row. subst (λ (l : List ℕ). length other ≤ length l) (sym value) (is_longest numbers (length numbers) 65535 other row);
    }
