-- Where a script comes from and where replies go, by the calls that are made of them.
use Rattle.std.specs.Prelude.{◌≡◌, ◌⊎◌, ℕ, List, [], ◌∷◌, length, Result, Err}
use Rattle.geos_shell.specs.declared.streams.ReadFault.{ReadFault}
use Rattle.geos_shell.specs.declared.streams.ReadFault.TheVariants.{Failed}
use Rattle.geos_shell.specs.declared.streams.WriteFault.{WriteFault}

-- a read, from one state of what is read to another, and its result
abbrev pub ReadCalls : Type 0 → Type 1
ReadCalls R = R → Result ℕ ReadFault → R → Type 0

-- a write of these bytes
abbrev pub WriteCalls : Type 0 → Type 1
WriteCalls W = W → List ℕ → Result (Unit {0}) WriteFault → W → Type 0

-- in each of these states, the newest first, a read was made
abbrev pub AreReads : {R : Type 0} → ReadCalls R → R → List R → R → Type 0
AreReads reads old [] new = new ≡ old
AreReads reads old (s ∷ states) new = AreReads reads old states s × ((result : Result ℕ ReadFault) × reads s result new)

-- so many reads were made
pub record ReadsOften {R : Type 0} (reads : ReadCalls R) (n : ℕ) (old new : R) : Type 0 where
  pub states : List R
  pub made : AreReads reads old states new
  pub count : length states ≡ n

-- The last read failed, or as many were made as may be.
abbrev pub StopsReading : {R : Type 0} → ReadCalls R → ℕ → R → R → Type 0
StopsReading {R} reads most old new = ((mid : R) × reads mid (Err Failed) new) ⊎ ReadsOften reads most old new

-- The last write failed.
abbrev pub StopsWriting : {W : Type 0} → WriteCalls W → W → Type 0
StopsWriting {W} writes new = (mid : W) × (bytes : List ℕ) × (fault : WriteFault) × writes mid bytes (Err fault) new
