use Rattle.std.proofs.Common.{◌≡◌, ℕ, ◌+◌, drop, get_or, length}
use Rattle.std.specs.List.{zip}
use Rattle.geos_model.specs.Chain.{name_of}
use Rattle.geos_model.specs.Document.{most_blocks}
use Rattle.vm_chains.specs.Numbers.{numbers}
use Rattle.vm_chains.proofs.renaming.Renaming.new.Given as goal

-- the handles from this one on have their names
abbrev pub invariant-loop-i : goal.invariant-loop-i
invariant-loop-i l = record {
  size : length l.by_handle.items ≡ most_blocks + 1;
  named : (h : ℕ) → get_or l.by_handle.items h 0 ≡ name_of (zip (numbers (drop l.i l.handles)) (numbers (drop l.i l.names))) h;
}
