-- Ways to carry out a change.
use Rattle.chunk_edits.specs.declared.direction.Direction.{Direction}
use Rattle.chunk_edits.specs.declared.direction.Direction.TheVariants.{Forwards, Backwards}

-- the other way
abbrev pub opposite : Direction → Direction
opposite Forwards = Backwards
opposite Backwards = Forwards
