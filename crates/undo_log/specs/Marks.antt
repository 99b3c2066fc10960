-- Where the committed documents stand among the entries of a log, each by a mark: how many entries lie before it, those
-- that can be undone and those that can be made again alike.
use Rattle.std.specs.Prelude.{◌≤◌, ℕ, ◌-◌, ◌==◌, nat_le, nat_lt, if◌then◌else◌, Option, Some, None}
use Rattle.geos_model.specs.Position.{Position, Back, Ahead, Nowhere}
use Rattle.undo_log.specs.declared.marks.Marks.{Marks}

-- the position of a mark where so many entries are made; no mark for a document to which no steps lead
abbrev pub position_of : ℕ → Option ℕ → Position
position_of done None = Nowhere
position_of done (Some mark) = if nat_le mark done then Back (done - mark) else Ahead (mark - done - 1)

-- a mark from one place to another
abbrev pub IsMarkWithin : ℕ → ℕ → Option ℕ → Type 0
IsMarkWithin first last None = Unit {0}
IsMarkWithin first last (Some mark) = (first ≤ mark) × (mark ≤ last)

pub record AreMarksWithin (first last : ℕ) (marks : Marks) : Type 0 where
  pub updated : IsMarkWithin first last marks.updated
  pub saved : IsMarkWithin first last marks.saved

-- the entries behind a place are gone
abbrev pub mark_up_to : ℕ → Option ℕ → Option ℕ
mark_up_to last None = None
mark_up_to last (Some mark) = if nat_le mark last then Some mark else None

-- those before a place are forgotten
abbrev pub mark_from : ℕ → Option ℕ → Option ℕ
mark_from first None = None
mark_from first (Some mark) = if nat_le first mark then Some mark else None

-- the entries before and behind a place became one
abbrev pub mark_joined : ℕ → Option ℕ → Option ℕ
mark_joined place None = None
mark_joined place (Some mark) =
    if nat_lt place mark then Some (mark - 1) else if mark == place then None else Some mark

-- so many entries in front aren't counted any more
abbrev pub mark_lowered : ℕ → Option ℕ → Option ℕ
mark_lowered count None = None
mark_lowered count (Some mark) = Some (mark - count)

-- so of both
abbrev pub both_marks : (Option ℕ → Option ℕ) → Marks → Marks
both_marks f marks = record { updated = f marks.updated; saved = f marks.saved }
