use Rattle.std.proofs.Common.{◌≡◌, ◌++◌, take}
use Rattle.vm_chains.specs.Numbers.{numbers}
use Rattle.large_bodies.specs.RootEdits.{link_bytes}
use Rattle.large_arrays.proofs.root_edits.push_links.Given as goal

abbrev pub invariant-loop-branch : goal.invariant-loop-branch
invariant-loop-branch l = l.out.items ≡ l.initial.out.items ++ link_bytes (numbers (take l.branch-index l.branches))
