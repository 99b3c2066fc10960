use Rattle.std.proofs.Common.{◌≡◌, ◌-◌}
use Rattle.element_arrays.specs.Tested.{is_walk}
use Rattle.element_arrays.proofs.slot_view.is_walk.Given as goal

abbrev pub invariant-loop : goal.invariant-loop
invariant-loop l = is_walk l.steps l.view.array.elements l.first ≡ is_walk (l.steps - l.counter) l.view.array.elements l.token
