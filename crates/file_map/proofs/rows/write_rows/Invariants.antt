use Rattle.std.proofs.Common.{◌*◌, min, flat_map}
use Rattle.std.specs.List.{range_with_len}
use Rattle.std.specs.Io.KnownBytes.{Appends}
use Rattle.file_map.specs.Pages.{row_text}
use Rattle.file_map.specs.Tallies.{IsPageTally}
use Rattle.file_map.specs.Walks.{IsPartWalk}
use Rattle.file_map.proofs.rows.write_rows.Given as goal

-- the rows so far
abbrev pub invariant-loop-row : goal.invariant-loop-row
invariant-loop-row g l = record {
  walk : IsPartWalk l.parts (min l.pages (64 * l.row)) l.walk;
  tally : IsPageTally l.parts (min l.pages (64 * l.row)) l.counts;
  text : Appends (g.W.Write.contents l.initial.writer) (g.W.Write.contents l.writer) (flat_map (row_text l.parts l.pages) (range_with_len 0 l.row));
}
