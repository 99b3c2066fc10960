-- Where keys are.
use Rattle.std.specs.Prelude.{ℕ, List, Option, None}
use Rattle.std.specs.List.{slice_index_or}
use Rattle.buffer_pool.specs.declared.places.Place.{Place}

-- the place of a key
abbrev pub place_at : List (Option Place) → ℕ → Option Place
place_at ps k = slice_index_or ps k None
