-- Pages that are known to be full.
use Rattle.std.specs.Prelude.{◌≡◌, ◌⊎◌, ◌≤◌, ◌<◌, ℕ, List}
use Rattle.file_space.specs.Space.{IsRun}
use Rattle.file_space.specs.declared.full_stretch.FullStretch.{FullStretch}

-- at none of its pages do so many free ones begin
abbrev pub IsFull : List ℕ → FullStretch → Type 0
IsFull counts s = (q : ℕ) → s.from ≤ q → q < s.to → IsRun counts s.pages q → ⊥

-- a page lies in it, and it tells of so many
pub record IsInStretch (s : FullStretch) (pages page : ℕ) : Type 0 where
  pub fewer : s.pages ≤ pages
  pub from_on : s.from ≤ page
  pub before : page < s.to

-- from a page on it is passed over
abbrev pub Passes : FullStretch → ℕ → ℕ → ℕ → Type 0
Passes s pages page next = (next ≡ page) ⊎ (IsInStretch s pages page × (next ≡ s.to))
