-- The bytes of a large array's blocks. Its root is a tree block that has how many elements each branch has, and each
-- branch is a zero word and then a chunk array.
use Rattle.std.specs.Prelude.{◌+◌, ◌*◌, ◌++◌, ℕ, List, [], Bool, ◌==◌, ◌&&◌, ◌||◌, nat_le, nat_lt, length, map, drop, sum_by, if◌then◌else◌, Option, Some, None, unwrap_or, codes}
use Rattle.std.specs.List.{flat_map, list_all, range_with_len}
use Rattle.std.specs.Option.{option_and_then}
use Rattle.geos_model.specs.Bytes.{same_bytes}
use Rattle.geos_model.specs.Words.{word, double_word, word_at}
use Rattle.geos_model.specs.Array.{array_bytes, array_of}
use Rattle.geos_model.specs.Chain.{tree_mark}
use Rattle.geos_model.specs.Pieces.{BranchPiece}

-- the size of elements that have one size
abbrev pub greatest_element_size : ℕ
greatest_element_size = 4096

-- how many branches there are at most: all blocks of a document but the root
abbrev pub most_branches : ℕ
most_branches = 8191

pub record Root : Type 0 where
  pub size : ℕ  -- of each element in bytes, 0 where they vary
  pub counts : List ℕ  -- how many elements each branch has
  pub branches : List ℕ  -- their handles

abbrev pub total_count : Root → ℕ
total_count r = sum_by (λ c. c) r.counts

abbrev pub large_mark : List ℕ
large_mark = codes "GARR"

-- A tree block: its three words, the mark, the size, how many elements there are, how many each branch has, and the
-- branches.
unfoldable pub root_bytes : Root → List ℕ
root_bytes r =
    word tree_mark ++ word (16 + 2 * length r.counts) ++ word (length r.counts)
    ++ large_mark ++ word r.size ++ double_word (total_count r)
    ++ flat_map word r.counts ++ flat_map (λ h. word 0 ++ word h) r.branches

-- there is a branch, and none is empty but a single one
abbrev pub is_root : Root → Bool
is_root r =
    nat_lt 0 (length r.counts) && nat_le r.size greatest_element_size
    && (length r.counts == 1 || list_all (λ c. nat_lt 0 c) r.counts)

abbrev pub root_read : List ℕ → Root
root_read bytes =
    let n = word_at bytes 4 in
    record {
      size = word_at bytes 10;
      counts = map (λ i. word_at bytes (16 + 2 * i)) (range_with_len 0 n);
      branches = map (λ i. word_at bytes (18 + 2 * n + 4 * i)) (range_with_len 0 n);
    }

unfoldable pub root_of : List ℕ → Option Root
root_of bytes = let r = root_read bytes in if is_root r && same_bytes (root_bytes r) bytes then Some r else None

-- the root that bytes are; where they are none, one with no branch
abbrev pub root_in : List ℕ → Root
root_in bytes = unwrap_or (root_of bytes) (record { size = 0; counts = []; branches = [] })

unfoldable pub branch_bytes : ℕ → BranchPiece → List ℕ
branch_bytes size piece = word 0 ++ array_bytes (record { extra = []; size = size; elements = piece })

-- the elements of a branch that the root says to have so many
unfoldable pub branch_of : ℕ → ℕ → List ℕ → Option BranchPiece
branch_of size count bytes =
    option_and_then (λ a. if length a.elements == count && same_bytes (branch_bytes size a.elements) bytes
    then Some a.elements else None) (array_of (drop 2 bytes))
