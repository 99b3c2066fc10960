-- Two blocks of chains beside each other.
use Rattle.std.specs.Prelude.{ℕ, Bool, ◌==◌, if◌then◌else◌}
use Rattle.geos_model.specs.Bytes.{same_bytes}
use Rattle.geos_model.specs.Chain.{relinked}
use Rattle.geos_model.specs.Document.{Document, raw_bytes_of}

-- a link to some block, whichever it is, or to none
abbrev pub mark_of : ℕ → ℕ
mark_of h = if h == 0 then 0 else 1

-- two blocks are the same but for the blocks that they link to
abbrev pub are_alike : Document → ℕ → ℕ → Bool
are_alike d x y = same_bytes (relinked mark_of (raw_bytes_of d x)) (relinked mark_of (raw_bytes_of d y))
