use Rattle.std.proofs.Common.{◌≡◌, ◌++◌, length}
use Rattle.file_salvage.specs.Rows.{row_to}
use Rattle.file_salvage.proofs.rows.walk.Given as goal

abbrev pub invariant-loop-i : goal.invariant-loop-i
invariant-loop-i l = record {
  rest : l.row.items ++ row_to l.numbers l.i l.most ≡ row_to l.numbers (length l.numbers) 65535;
  left : l.left ≡ length (row_to l.numbers l.i l.most);
}
