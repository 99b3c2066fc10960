use Rattle.std.proofs.Common.{◌≡◌, ◌++◌, take}
use Rattle.vm_chains.specs.Numbers.{numbers}
use Rattle.large_arrays.specs.HandleLists.{old_handles}
use Rattle.large_arrays.proofs.handles.push_handles.Given as goal

abbrev pub invariant-loop-old : goal.invariant-loop-old
invariant-loop-old l = numbers l.handles.items ≡ numbers l.initial.handles.items ++ old_handles (take l.old-index l.olds)
