use Rattle.std.proofs.Common.{◌≡◌, ◌≤◌, ◌-◌, ◌++◌, take, length}
use Rattle.geos_model.specs.Chain.{new_handles}
use Rattle.vm_chains.specs.Numbers.{numbers}
use Rattle.vm_chains.proofs.CopyLemmas.{free_from}
use Rattle.vm_chains.proofs.planning.free_handles.Given as goal

-- what is still wanted comes from the handles that are left
abbrev pub invariant-loop-i : goal.invariant-loop-i
invariant-loop-i g l = record {
  found : numbers l.handles.items ++ take (l.wanted - length l.handles.items) (free_from l.blocks.document l.i) ≡ new_handles l.blocks.document l.wanted;
  few : length l.handles.items ≤ l.wanted;
}
