use Rattle.std.proofs.Common.{◌≡◌, length}
use Rattle.file_salvage.specs.Rows.{AreLengths, AreRowEnds}
use Rattle.file_salvage.proofs.rows.lengths.Given as goal

abbrev pub invariant-loop-i : goal.invariant-loop-i
invariant-loop-i l = record {
  ends : AreRowEnds l.numbers l.i l.ends.items;
  count : length l.lengths.items ≡ l.i;
  lengths : AreLengths l.numbers l.i l.lengths.items;
}
