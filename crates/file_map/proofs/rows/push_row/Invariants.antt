use Rattle.std.proofs.Common.{◌≡◌, ◌-◌, ◌++◌}
use Rattle.file_map.specs.Pages.{glyphs}
use Rattle.file_map.specs.Tallies.{IsPageTally}
use Rattle.file_map.specs.Walks.{IsPartWalk}
use Rattle.file_map.proofs.rows.push_row.Given as goal

-- the pages so far
abbrev pub invariant-loop-page : goal.invariant-loop-page
invariant-loop-page l = record {
  walk : IsPartWalk l.parts l.page l.walk;
  tally : IsPageTally l.parts l.page l.counts;
  text : l.out.items ≡ l.initial.out.items ++ glyphs l.parts l.first (l.page - l.first);
}
