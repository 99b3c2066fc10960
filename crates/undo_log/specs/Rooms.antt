-- Room in a log. Of the group that is open, if one is, its length and its capacity are given.
use Rattle.std.specs.Prelude.{◌≡◌, ℕ, ◌-◌, ◌<◌, Bool, true, Option, Some, None}

-- where a group is open that has changes, there is a place for the step that it becomes once it is closed
abbrev pub KeepsPlace : Option (ℕ × ℕ) → Bool → Type 0
KeepsPlace None place = Unit {0}
KeepsPlace (Some (length, capacity)) place = 0 < length → place ≡ true

-- how many changes more the group that is open has room for, if one is
abbrev pub spare_room : Option (ℕ × ℕ) → ℕ
spare_room None = 0
spare_room (Some (length, capacity)) = capacity - length
