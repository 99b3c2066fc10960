-- Where a committed document stands in the line of steps, so that whether the document is that one is known without a
-- comparison.
use Rattle.std.specs.Prelude.{ℕ, zero, suc, Bool, true, false, nat_le, if◌then◌else◌, Option, Some, None}

-- So many steps are to be undone to come to it; or to be redone, one more than so many; or no steps lead to it.
pub data Position : Type 0 where
  Back : (n : ℕ) → Position
  Ahead : (n : ℕ) → Position
  Nowhere : Position

-- no step lies between
abbrev pub is_here : Position → Bool
is_here (Back zero) = true
is_here p = false

-- a step was made, and what was to be redone is gone
abbrev pub position_after_step : Position → Position
position_after_step (Back n) = Back (suc n)
position_after_step p = Nowhere

-- an edit was made in a group, which is no step yet: what was to be redone is gone
abbrev pub position_in_group : Position → Position
position_in_group (Ahead n) = Nowhere
position_in_group p = p

abbrev pub position_after_undo : Position → Position
position_after_undo (Back zero) = Ahead zero
position_after_undo (Back (suc n)) = Back n
position_after_undo (Ahead n) = Ahead (suc n)
position_after_undo Nowhere = Nowhere

abbrev pub position_after_redo : Position → Position
position_after_redo (Ahead zero) = Back zero
position_after_redo (Ahead (suc n)) = Ahead n
position_after_redo (Back n) = Back (suc n)
position_after_redo Nowhere = Nowhere

-- the newest two steps became one, so that what stood between them can't be reached any more
abbrev pub position_after_join : Position → Position
position_after_join (Back (suc zero)) = Nowhere
position_after_join (Back (suc (suc n))) = Back (suc n)
position_after_join p = p

-- no more than so many steps were left to be undone
abbrev pub position_after_forget : ℕ → Position → Position
position_after_forget most (Back n) = if nat_le n most then Back n else Nowhere
position_after_forget most p = p

-- so where there is a limit
abbrev pub position_within : Option ℕ → Position → Position
position_within None p = p
position_within (Some most) p = position_after_forget most p

-- a step was made, of which the limit may have taken the oldest
abbrev pub position_stepped : Option ℕ → Position → Position
position_stepped limit p = position_within limit (position_after_step p)
