-- What a splice does to bytes, forwards and backwards.
use Rattle.std.specs.Prelude.{◌≡◌, ◌⊎◌, ◌≤◌, ◌+◌, ℕ, List, length, take, drop, None, Some}
use Rattle.std.specs.List.{splice}
use Rattle.geos_model.specs.Refusal.{Conditions, first_refusal}
use Rattle.geos_model.specs.declared.fault.Fault.{Fault}
use Rattle.geos_model.specs.declared.fault.Fault.TheVariants.{Memory}

-- a part of some bytes, where it begins, and what takes its place
pub record Splice : Type 0 where
  pub at : ℕ
  pub old : List ℕ
  pub new : List ℕ

-- the part stands at a place of these bytes
pub record OccursAt (bytes : List ℕ) (at : ℕ) (part : List ℕ) : Type 0 where
  pub within : at + length part ≤ length bytes
  pub same : take (length part) (drop at bytes) ≡ part

-- the bytes with the new part in the place of the old one, and with the old one again
abbrev pub forwards : Splice → List ℕ → List ℕ
forwards s bytes = splice bytes s.at (s.at + length s.old) s.new

abbrev pub backwards : Splice → List ℕ → List ℕ
backwards s bytes = splice bytes s.at (s.at + length s.new) s.old

-- From these bytes the splice leads to those, and it holds so many bytes of them.
pub record Leads (s : Splice) (from to : List ℕ) (held : ℕ) : Type 0 where
  pub stands : OccursAt from s.at s.old
  pub gives : forwards s from ≡ to
  pub holds : length s.old + length s.new ≡ held

-- The splice that is asked for is built where nothing refuses it.
pub record Builds (conditions : Conditions) (s : Splice) (from to : List ℕ) (held : ℕ) : Type 0 where
  pub accepted : first_refusal conditions ≡ None
  pub leads : Leads s from to held

-- lack of memory, or the first refusal
abbrev pub RefusesToBuild : Conditions → Fault → Type 0
RefusesToBuild conditions fault = (fault ≡ Memory) ⊎ (first_refusal conditions ≡ Some fault)

-- Where a splice leads, its new part stands, and it leads back.
abbrev pub SpliceLaw : Type 0
SpliceLaw =
    (s : Splice) (from to : List ℕ) (held : ℕ) → Leads s from to held → OccursAt to s.at s.new × (backwards s to ≡ from)
