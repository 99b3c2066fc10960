-- A table: the value under each handle of a row that rises by a step, or none.
use Rattle.std.specs.Prelude.{◌≡◌, ◌<◌, ℕ, zero, suc, List, [], ◌∷◌, ◌+◌, ◌-◌, true, Option, Some, None, is_some, length, get_or}
use Rattle.std.specs.Ordering.{nat_cmp}
use Rattle.std.specs.FinMap.{FinMap, from_entries}
use Rattle.geos_model.specs.Heap.{space_of}

-- the values that are there, each with its handle; h is the first handle
abbrev pub table_entries : {X : Type 0} → ℕ → ℕ → List (Option X) → List (ℕ × X)
table_entries step h [] = []
table_entries step h (None ∷ table) = table_entries step (h + step) table
table_entries step h (Some x ∷ table) = (h, x) ∷ table_entries step (h + step) table

-- the finite map that a table shows
unfoldable pub table_map : {X : Type 0} → ℕ → ℕ → List (Option X) → FinMap nat_cmp X
table_map step h table = from_entries (table_entries step h table)

-- the last place has a value, so the table is no longer than it has to be
abbrev pub IsTrimmed : {X : Type 0} → List (Option X) → Type 0
IsTrimmed table = 0 < length table → is_some (get_or table (length table - 1) None) ≡ true

-- the place of the first gap, or the table's length
abbrev pub first_gap : {X : Type 0} → List (Option X) → ℕ
first_gap [] = zero
first_gap (None ∷ table) = zero
first_gap (Some x ∷ table) = suc (first_gap table)

-- what a chunk takes in a heap, and none
abbrev pub slot_space : Option (List ℕ) → ℕ
slot_space None = 0
slot_space (Some bytes) = space_of (length bytes)
