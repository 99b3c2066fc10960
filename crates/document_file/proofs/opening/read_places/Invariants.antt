use Rattle.std.proofs.Common.{IsTrue}
use Rattle.document_file.specs.Documents.{AreImaged}
use Rattle.document_file.specs.Sums.{HaveSums}
use Rattle.file_format.specs.Reading.{OnlyReadsStore}
use Rattle.document_file.proofs.OpenedDirectoryLemmas.{IsPartRead}
use Rattle.document_file.proofs.opening.read_places.Given as goal

-- the entries so far have their places, and no other handle has one
abbrev pub invariant-loop-entry : goal.invariant-loop-entry
invariant-loop-entry g l =
    OnlyReadsStore (g.S.Store.facts l.fn.store) (g.S.Store.facts l.store) × IsPartRead l.entry-index l.entries l.places.items
    × (IsTrue (g.S.Store.facts l.fn.store).honest → AreImaged (g.S.Store.facts l.fn.store).content l.places.items)
    × (IsTrue (g.S.Store.facts l.fn.store).honest → HaveSums (g.S.Store.facts l.fn.store).content l.places.items)
