-- Ranges of a file: the bytes of extents, and what a write leaves of them.
use Rattle.std.specs.Prelude.{◌⊎◌, ℕ, ◌+◌, ◌*◌, ◌≤◌, List, All}
use Rattle.file_format.specs.File.{end_page, page_limit, longest_directory}
use Rattle.file_format.specs.declared.file.Extent.{Extent}
pub use Rattle.file_format.specs.FileLaws.{KeepsExtent}

-- where an extent begins; pages have 512 bytes
abbrev pub start_of : Extent → ℕ
start_of e = 512 * e.page

-- where it ends
abbrev pub end_of : Extent → ℕ
end_of e = start_of e + e.length

-- an extent that can be: behind the slots, below the last page, of as many bytes as a directory has; an image has fewer
pub record IsPlaced (e : Extent) : Type 0 where
  pub behind : 2 ≤ e.page
  pub within : end_page e ≤ page_limit
  pub some : 1 ≤ e.length
  pub short : e.length ≤ longest_directory

-- the bytes of each of these extents stay
abbrev pub KeepsAll : List Extent → List ℕ → List ℕ → Type 0
KeepsAll extents file c = All (KeepsExtent file c) extents

-- n bytes at a place are apart from those that begin and end there
abbrev pub IsOut : ℕ → ℕ → ℕ → ℕ → Type 0
IsOut at n from to = (to ≤ at) ⊎ (at + n ≤ from)

-- and from all extents
abbrev pub IsClear : ℕ → ℕ → List Extent → Type 0
IsClear at n extents = All (λ e. IsOut at n (start_of e) (end_of e)) extents
