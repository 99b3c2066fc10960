use Rattle.std.proofs.Common.{◌≡◌, ◌<◌, false, IsTrue, is_some, length, take}
use Rattle.file_format.specs.File.{blocks_of_entries}
use Rattle.file_format.specs.Reading.{OnlyReadsStore}
use Rattle.file_report.specs.Findings.{FindsMore}
use Rattle.file_report.specs.Reading.{IsSoOfEntries}
use Rattle.file_report.proofs.document.check_images.Given as goal

-- the images so far are judged
abbrev pub invariant-loop-entry : goal.invariant-loop-entry
invariant-loop-entry g l =
    OnlyReadsStore (g.S.Store.facts l.fn.store) (g.S.Store.facts l.store)
    × (IsTrue (g.S.Store.facts l.fn.store).honest → l.have ≡ is_some (blocks_of_entries (g.S.Store.facts l.fn.store).content (take l.entry-index l.entries)))
    × FindsMore (IsSoOfEntries (g.S.Store.facts l.fn.store) l.name l.entries) l.fn.findings.items l.findings.items
    × (l.have ≡ false → length l.fn.findings.items < length l.findings.items)
