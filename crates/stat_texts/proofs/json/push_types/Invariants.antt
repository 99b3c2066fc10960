use Rattle.std.proofs.Common.{◌≡◌, ◌++◌, if◌then◌else◌}
use Rattle.stat_texts.specs.Json.{further_types, types}
use Rattle.stat_texts.proofs.json.push_types.Given as goal

-- the types that are told, and those that are left
abbrev pub invariant-loop-number : goal.invariant-loop-number
invariant-loop-number l =
    l.out.items ++ (if l.first then types l.number-iterator else further_types l.number-iterator) ≡ l.fn.out.items ++ types l.all.entries
