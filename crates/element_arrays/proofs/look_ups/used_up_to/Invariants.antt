use Rattle.std.proofs.Common.{◌≡◌, ◌≤◌, is_some, count_by, take}
use Rattle.element_arrays.proofs.look_ups.used_up_to.Given as goal

-- the used tokens so far
abbrev pub invariant-loop-i : goal.invariant-loop-i
invariant-loop-i l = (l.n ≡ count_by is_some (take l.i l.slots.slots.slots)) × (l.n ≤ l.i)
