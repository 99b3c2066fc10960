use Rattle.std.proofs.Common.{◌≡◌, ◌<◌, ℕ, false, get_or, length, take}
use Rattle.file_salvage.specs.Entries.{is_taken}
use Rattle.file_salvage.proofs.entries.taken_marks.Given as goal

abbrev pub invariant-loop-place : goal.invariant-loop-place
invariant-loop-place l = record {
  count : length l.marks.items ≡ l.count;
  marks : (i : ℕ) → i < l.count → get_or l.marks.items i false ≡ is_taken i (take l.place-index l.row);
}
