use Rattle.std.proofs.Common.{◌≡◌, ◌++◌, flat_map}
use Rattle.stat_texts.specs.Columns.{type_line}
use Rattle.stat_texts.proofs.columns.push_types.Given as goal

-- the types that are told, and those that are left
abbrev pub invariant-loop-heap_type : goal.invariant-loop-heap_type
invariant-loop-heap_type l = l.out.items ++ flat_map type_line l.heap_type-iterator ≡ l.fn.out.items ++ flat_map type_line l.types.entries
