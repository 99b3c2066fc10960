use Rattle.std.proofs.Common.{◌≡◌, ◌+◌, is_some, count_by, drop, get_or}
use Rattle.geos_model.specs.ElementEdits.{used_from}
use Rattle.element_arrays.proofs.look_ups.token_of_used.Given as goal

-- the used tokens from this one on, past as many as were passed over, are the last of all used ones
abbrev pub invariant-loop-i : goal.invariant-loop-i
invariant-loop-i l =
    (get_or (used_from l.i (drop l.i l.slots.slots.slots)) l.left 0 ≡ get_or (used_from 0 l.slots.slots.slots) l.k 0)
    × (l.left + count_by is_some l.slots.slots.slots ≡ l.k + count_by is_some (drop l.i l.slots.slots.slots))
