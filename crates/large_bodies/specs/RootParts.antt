-- What bytes have that are a root.
use Rattle.std.specs.Prelude.{◌≡◌, ◌≢◌, ◌<◌, ◌≤◌, ◌+◌, ◌*◌, ℕ, List, length, take, drop}
use Rattle.geos_model.specs.Words.{word_at, double_word_at}
use Rattle.geos_model.specs.Chain.{tree_mark}
use Rattle.geos_model.specs.LargeLayout.{greatest_element_size, large_mark, root_read, total_count}

-- how many branches a root says that it has
abbrev pub branches_in : List ℕ → ℕ
branches_in bytes = word_at bytes 4

-- how many elements one of them has, and where it stands itself
abbrev pub count_in : List ℕ → ℕ → ℕ
count_in bytes i = word_at bytes (16 + 2 * i)

abbrev pub branch_link_place : List ℕ → ℕ → ℕ
branch_link_place bytes i = 16 + 2 * branches_in bytes + 4 * i

-- the marks, and a size that elements can have
pub record HasMarks (bytes : List ℕ) : Type 0 where
  pub mark : word_at bytes 0 ≡ tree_mark
  pub letters : take 4 (drop 6 bytes) ≡ large_mark
  pub size : word_at bytes 10 ≤ greatest_element_size

-- there are branches, and the bytes are as many as these take
pub record HasLength (bytes : List ℕ) : Type 0 where
  pub some : 0 < branches_in bytes
  pub place : word_at bytes 2 ≡ 16 + 2 * branches_in bytes
  pub long : length bytes ≡ 16 + 6 * branches_in bytes

-- all that doesn't tell of branches one by one
pub record HasHead (bytes : List ℕ) : Type 0 where
  pub header : 16 ≤ length bytes
  pub marks : HasMarks bytes
  pub length : HasLength bytes

-- no branch is empty but a single one
abbrev pub HasCounts : List ℕ → Type 0
HasCounts bytes = branches_in bytes ≢ 1 → (i : ℕ) → i < branches_in bytes → 0 < count_in bytes i

-- each branch begins with a zero word
abbrev pub HasZeros : List ℕ → Type 0
HasZeros bytes = (i : ℕ) → i < branches_in bytes → word_at bytes (branch_link_place bytes i) ≡ 0

pub record HasRoot (bytes : List ℕ) : Type 0 where
  pub head : HasHead bytes
  pub total : double_word_at bytes 12 ≡ total_count (root_read bytes)
  pub counts : HasCounts bytes
  pub zeros : HasZeros bytes
