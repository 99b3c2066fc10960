use Rattle.std.proofs.Common.{◌≡◌, ◌+◌, ◌*◌, ◌==◌, ◌-◌}
use Rattle.std.specs.List.{list_all, range_with_len}
use Rattle.geos_model.specs.Words.{word_at}
use Rattle.vm_chains.proofs.links.begin_with_zeros.Given as goal

-- it is so of all branches where it is of those that are left
abbrev pub invariant-loop-i : goal.invariant-loop-i
invariant-loop-i l =
    list_all (λ i. word_at l.body (l.start + 4 * i) == 0) (range_with_len 0 l.count) ≡ list_all (λ i. word_at l.body (l.start + 4 * i) == 0) (range_with_len l.i (l.count - l.i))
