-- The pages that extents take, counted.
use Rattle.std.specs.Prelude.{◌≡◌, ℕ, ◌+◌, ◌-◌, ◌<◌, ◌≤◌, max, Bool, ◌&&◌, cond, List, ◌∷◌, length, count_by, nat_le, nat_lt, slice_index}
use Rattle.file_format.specs.File.{end_page}
use Rattle.file_format.specs.declared.file.Extent.{Extent}
use Rattle.file_space.specs.Placing.{AreExtents}

-- for each page on how many of the taken extents it lies, none behind the last; and how many extents are taken
pub record Space : Type 0 where
  pub counts : List ℕ
  pub count : ℕ

-- a page lies from the one on and before the other
abbrev pub is_within : ℕ → ℕ → ℕ → Bool
is_within start end page = nat_le start page && nat_lt page end

-- a page lies on an extent
abbrev pub is_on : ℕ → Extent → Bool
is_on page e = is_within e.page (end_page e) page

-- These extents are the ones that are taken, in any order; some may overlap.
pub record AreTaken (taken : List Extent) (space : Space) : Type 0 where
  pub extents : AreExtents taken
  pub count : space.count ≡ length taken
  pub pages : (page : ℕ) → slice_index space.counts page ≡ count_by (is_on page) taken

-- this extent is one of those that are taken
abbrev pub IsTaken : Extent → Space → Type 0
IsTaken e space = (rest : List Extent) × AreTaken (e ∷ rest) space

-- How they are kept.

-- so many pages from one on are free
abbrev pub IsRun : List ℕ → ℕ → ℕ → Type 0
IsRun counts n page = (k : ℕ) → page ≤ k → k < page + n → slice_index counts k ≡ 0

-- The first page from one on at which so many are free.
pub record IsFirstRun (counts : List ℕ) (from n page : ℕ) : Type 0 where
  pub from_on : from ≤ page
  pub run : IsRun counts n page
  pub first : (q : ℕ) → from ≤ q → q < page → IsRun counts n q → ⊥

-- Before this page so many are free nowhere behind the slots.
pub record IsHint (counts : List ℕ) (n hint : ℕ) : Type 0 where
  pub behind_slots : 2 ≤ hint
  pub none : (q : ℕ) → 2 ≤ q → q < hint → IsRun counts n q → ⊥

-- Of the hints for up to so many pages this is the largest.
pub record IsLargestHint (hints : List ℕ) (n hint : ℕ) : Type 0 where
  pub one : (k : ℕ) × (k ≤ n) × (hint ≡ slice_index hints k)
  pub largest : (k : ℕ) → k ≤ n → slice_index hints k ≤ hint

-- Some extents are the ones that are taken, and there is a hint for each number of pages.
pub record IsSpaceSound (counts hints : List ℕ) (count : ℕ) : Type 0 where
  pub taken : List Extent
  pub are : AreTaken taken (record { counts = counts; count = count })
  pub hint_count : length hints ≡ 322
  pub hint : (n : ℕ) → n < 322 → IsHint counts n (slice_index hints n)

-- Of at most so many pages a hint may have been raised; the others are those of an empty space.
pub record AreHintsUpTo (longest : ℕ) (hints : List ℕ) : Type 0 where
  pub few : longest < 322
  pub others : (n : ℕ) → longest < n → n < 322 → slice_index hints n ≡ 2

-- the first page behind the slots from which so many pages reach one
abbrev pub lowest : ℕ → ℕ → ℕ
lowest page n = max (page - (n - 1)) 2

-- each count with one more from a page on and before another
abbrev pub AreCountsRaised : ℕ → ℕ → List ℕ → List ℕ → Type 0
AreCountsRaised start end old new =
    (page : ℕ) → slice_index new page ≡ cond (is_within start end page) 1 0 + slice_index old page
