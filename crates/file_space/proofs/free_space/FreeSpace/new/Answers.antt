use Rattle.std.proofs.Common.{ℕ, List, [], sym, subst}
use Rattle.file_space.specs.Space.{AreHintsUpTo, IsSpaceSound}
use Rattle.file_space.specs.Stretches.{IsFull}
use Rattle.file_space.proofs.SpaceLemmas.{sound-none, up_to-none}
use Rattle.file_space.proofs.StretchLemmas.{full-none}
use Rattle.file_space.proofs.free_space.FreeSpace.new.Goals as goal

pub invariant_of-result : goal.invariant_of-result
invariant_of-result c =
    subst (λ (counts : List ℕ). IsSpaceSound counts c.in_ok-first_hints.field-0.items 0 × (AreHintsUpTo 0 c.in_ok-first_hints.field-0.items × IsFull counts c.empty.result)) (sym c.new.ensures.items)
    (subst (λ (hints : List ℕ). IsSpaceSound [] hints 0 × (AreHintsUpTo 0 hints × IsFull [] c.empty.result)) (sym c.in_ok-first_hints.ensures) (sound-none, (up_to-none, full-none [] c.empty.result c.empty.ensures)))
