-- Sums of what lies in a file of version 3.
use Rattle.std.specs.Prelude.{◌≡◌, ◌==◌, ◌-◌, ℕ, Bool, true, List, map, Option, None, Some, All, IfSome, get_or, if◌then◌else◌}
use Rattle.checksum.specs.Crc32c.{crc32c}
use Rattle.file_format.specs.File.{bytes_in, has_sum, number_or_zero}
use Rattle.document_file.specs.declared.table.Place.{Place}
use Rattle.document_file.specs.declared.table.BlockTable.{BlockTable}

abbrev pub has_sums : ℕ → Bool
has_sums version = version == 3

-- the version of files that have sums, or that have none
abbrev pub version_for : Bool → ℕ
version_for checksums = if checksums then 3 else 2

-- the sum that an image keeps in another file: one where that has sums, 0 in place of none
abbrev pub kept_sum : Bool → Option ℕ → Option ℕ
kept_sum checksums sum = if checksums then Some (number_or_zero sum) else None

-- the sum of bytes, where there are sums
abbrev pub sum_for : Bool → List ℕ → Option ℕ
sum_for summed bytes = if summed then Some (crc32c bytes) else None

-- the image of a place has the sum that the place gives, if it gives one
abbrev pub HasSum : List ℕ → Place → Type 0
HasSum file place = has_sum place.sum (bytes_in file place.extent) ≡ true

abbrev pub HaveSums : List ℕ → List (Option Place) → Type 0
HaveSums file places = All (λ place. IfSome place (HasSum file)) places

-- the place has the sum of its image, where there are sums
abbrev pub IsSummed : Bool → List ℕ → Place → Type 0
IsSummed summed file place = place.sum ≡ sum_for summed (bytes_in file place.extent)

abbrev pub AreSummed : Bool → List ℕ → List (Option Place) → Type 0
AreSummed summed file places = All (λ place. IfSome place (IsSummed summed file)) places

-- bytes have the sum that the place of a handle gives, if it gives one
abbrev pub HasSumOf : List (Option Place) → ℕ → List ℕ → Type 0
HasSumOf places h bytes =
    (place : Place) → get_or places (h - 1) None ≡ Some place → has_sum place.sum bytes ≡ true

-- a place without a sum
abbrev pub unsummed : Option Place → Option Place
unsummed None = None
unsummed (Some place) = Some (record place { sum = None })

-- the same table but for sums
pub record IsResummed (table other : BlockTable) : Type 0 where
  pub map_block : table.map_block ≡ other.map_block
  pub places : map unsummed table.places.items ≡ map unsummed other.places.items
