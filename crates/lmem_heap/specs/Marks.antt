-- Which chunks of a table are known to be arrays.
use Rattle.std.specs.Prelude.{◌≡◌, ◌==◌, ◌∷◌, ℕ, List, [], Option, Some, None, true, not, filter, get_or, unwrap_or, if◌then◌else◌}
use Rattle.lmem_heap.specs.declared.known.ArrayKind.{ArrayKind}
use Rattle.lmem_heap.specs.declared.marks.Mark.{Mark}
use Rattle.lmem_heap.specs.Known.{is_array_of}

-- the kind that is kept for a slot
abbrev pub kind_in : List Mark → ℕ → Option ArrayKind
kind_in [] i = None
kind_in (m ∷ ms) i = if m.slot == i then Some m.kind else kind_in ms i

-- the marks of all other slots
abbrev pub without : ℕ → List Mark → List Mark
without i ms = filter (λ m. not (m.slot == i)) ms

-- a slot's chunk is an array of the kind that is kept for it
abbrev pub IsMarked : List (Option (List ℕ)) → Mark → Type 0
IsMarked t m = is_array_of m.kind (unwrap_or (get_or t m.slot None) []) ≡ true

-- each is
abbrev pub AreMarked : List (Option (List ℕ)) → List Mark → Type 0
AreMarked t [] = Unit
AreMarked t (m ∷ ms) = IsMarked t m × AreMarked t ms
