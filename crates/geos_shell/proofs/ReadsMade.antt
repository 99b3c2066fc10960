-- Reads that were made.
use Rattle.std.proofs.Common.{◌≡◌, ◌+◌, ℕ, List, [], ◌∷◌, Result, refl, ap, arith, length}
use Rattle.geos_shell.specs.declared.streams.ReadFault.{ReadFault}
use Rattle.geos_shell.specs.Streams.{ReadCalls, ReadsOften}

module _ {R : Type 0} (reads : ReadCalls R) where
  -- none
  pub ReadsOften-none : (r : R) → ReadsOften reads 0 r r
  ReadsOften-none r = record { states = []; made = refl; count = refl }

  -- one more
  pub ReadsOften-one : (n m : ℕ) (old mid new : R) (result : Result ℕ ReadFault) → m ≡ n + 1 → ReadsOften reads n old mid → reads mid result new → ReadsOften reads m old new
  ReadsOften-one n m old mid new result is often read = record { states = mid ∷ often.states; made = (often.made, (result, read)); count = omega (arith, is, often.count) }
