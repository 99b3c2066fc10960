use Rattle.std.proofs.Common.{◌≡◌, take}
use Rattle.document_file.specs.Making.{laid_out}
use Rattle.document_file.proofs.LaidOutLemmas.{IsBehind}
use Rattle.document_file.proofs.copying.place_anew.Given as goal

-- the places so far are laid out
abbrev pub invariant-loop-place : goal.invariant-loop-place
invariant-loop-place l = (l.laid.items ≡ laid_out l.checksums 2 (take l.place-index l.places)) × IsBehind l.places l.place-index l.page
