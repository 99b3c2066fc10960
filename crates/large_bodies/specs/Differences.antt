-- The regions of a body, and what bytes begin and end with together.
use Rattle.std.specs.Prelude.{◌≡◌, ◌≤◌, ◌-◌, ℕ, List, length, take, drop}
use Rattle.large_bodies.specs.declared.cut_body.CutBody.{CutBody}

-- The regions of a body.

abbrev pub header_of : CutBody → List ℕ
header_of b = take b.table b.bytes.now

abbrev pub table_of : CutBody → List ℕ
table_of b = take (b.rest - b.table) (drop b.table b.bytes.now)

abbrev pub rest_of : CutBody → List ℕ
rest_of b = drop b.rest b.bytes.now

-- How many bytes two lists begin or end with together, no more of them.

pub record IsCommonFront (old new : List ℕ) (n : ℕ) : Type 0 where
  pub in_old : n ≤ length old
  pub in_new : n ≤ length new
  pub same : take n old ≡ take n new

pub record IsCommonBack (old new : List ℕ) (n : ℕ) : Type 0 where
  pub in_old : n ≤ length old
  pub in_new : n ≤ length new
  pub same : drop (length old - n) old ≡ drop (length new - n) new
