use Rattle.std.proofs.Common.{◌≡◌, map, take, true, IsTrue}
use Rattle.document_file.specs.Sums.{AreSummed, unsummed}
use Rattle.file_format.specs.Reading.{OnlyReadsStore}
use Rattle.document_file.proofs.turning.summed_places.Given as goal

-- the places so far have their sums
abbrev pub invariant-loop-place : goal.invariant-loop-place
invariant-loop-place g l =
    OnlyReadsStore (g.S.Store.facts l.fn.store) (g.S.Store.facts l.store) × (map unsummed l.summed.items ≡ map unsummed (take l.place-index l.places))
    × (IsTrue (g.S.Store.facts l.fn.store).honest → AreSummed true (g.S.Store.facts l.fn.store).content l.summed.items)
