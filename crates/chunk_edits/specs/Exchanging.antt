-- Bytes that go, and those that come in their place, as a piece of a patch.
use Rattle.std.specs.Prelude.{◌<◌, ◌^◌, length}
use Rattle.chunk_edits.specs.Patching.{PatchPiece, Put}
use Rattle.chunk_edits.specs.declared.held.Exchange.{Exchange}

-- as few of each as a piece can have
abbrev pub AreFew : Exchange → Type 0
AreFew e = (length e.old.now < 2 ^ 32) × (length e.new.now < 2 ^ 32)

abbrev pub exchanged : Exchange → PatchPiece
exchanged e = Put e.old.now e.new.now
