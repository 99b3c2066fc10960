use Rattle.std.proofs.Common.{◌≡◌, ◌-◌, length}
use Rattle.std.specs.List.{list_all, range_with_len}
use Rattle.document_dump.specs.Rows.{are_own, is_own}
use Rattle.document_dump.proofs.rows.are_own.Given as goal

abbrev pub invariant-loop-t : goal.invariant-loop-t
invariant-loop-t l = are_own l.skip l.slots.slots ≡ list_all (is_own l.skip l.slots.slots) (range_with_len l.t (length l.slots.slots.slots - l.t))
