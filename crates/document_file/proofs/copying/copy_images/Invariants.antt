use Rattle.std.proofs.Common.{◌≡◌, ◌≤◌, take, IsTrue}
use Rattle.document_file.specs.Making.{AreCopied}
use Rattle.file_format.specs.Reading.{OnlyReadsStore}
use Rattle.document_file.proofs.LaidOutLemmas.{IsBehind}
use Rattle.document_file.proofs.copying.copy_images.Given as goal

-- the images so far are copied
abbrev pub invariant-loop-place : goal.invariant-loop-place
invariant-loop-place g l =
    OnlyReadsStore (g.S.Store.facts l.fn.source) (g.S.Store.facts l.source)
    × ((g.S.Store.facts l.target).honest ≡ (g.S.Store.facts l.fn.target).honest)
    × ((g.S.Store.facts l.fn.target).failures ≤ (g.S.Store.facts l.target).failures)
    × IsBehind l.places l.place-index l.page
    × (IsTrue (g.S.Store.facts l.fn.target).honest → AreCopied l.checksums (IsTrue (g.S.Store.facts l.fn.source).honest) (g.S.Store.facts l.fn.source).content (take l.place-index l.places) (g.S.Store.facts l.fn.target).content (g.S.Store.facts l.target).content)
