-- Which free extent is taken: the first that is long enough.
use Rattle.std.specs.Prelude.{◌≡◌, ◌⊎◌, ◌<◌, ◌≤◌, ℕ, Bool, List, All, count_by, nat_lt}
use Rattle.file_format.specs.File.{end_page, page_limit, pages_of}
use Rattle.file_format.specs.declared.file.Extent.{Extent}
use Rattle.file_space.specs.declared.limit.TheConstants.{MOST_LONG}

-- one ends before the other begins
abbrev pub IsApart : Extent → Extent → Type 0
IsApart a b = (end_page a ≤ b.page) ⊎ (end_page b ≤ a.page)

-- so many bytes from a page on share no page with these extents
abbrev pub IsFree : List Extent → ℕ → ℕ → Type 0
IsFree taken page n = All (IsApart (record { page = page; length = n })) taken

-- of more pages than the image of a block takes, as a directory can be
abbrev pub is_long : Extent → Bool
is_long e = nat_lt 128 (pages_of e.length)

-- no more of these extents are long than there are directories
abbrev pub AreFewLong : List Extent → Type 0
AreFewLong taken = count_by is_long taken ≤ MOST_LONG

-- The extent of so many bytes that begins at the first page, behind the slots, from which they have free pages. It lies
-- on pages that can be used where few of those that are taken are long.
pub record IsFirstFit (taken : List Extent) (n : ℕ) (result : Extent) : Type 0 where
  pub length_is : result.length ≡ n
  pub behind_slots : 2 ≤ result.page
  pub free : IsFree taken result.page n
  pub first : (page : ℕ) → 2 ≤ page → page < result.page → IsFree taken page n → ⊥
  pub in_reach : AreFewLong taken → end_page result ≤ page_limit

-- so many bytes can be placed: they take 1 to 321 pages, as many as the longest directory
abbrev pub IsLength : ℕ → Type 0
IsLength n = (1 ≤ n) × (n ≤ 164352)

-- these can lie in a file
abbrev pub AreExtents : List Extent → Type 0
AreExtents taken = All (λ e. (2 ≤ e.page) × IsLength e.length) taken
