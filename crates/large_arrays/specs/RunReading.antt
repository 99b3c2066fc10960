-- The branches of a run, read one by one from their bodies.
use Rattle.std.specs.Prelude.{◌≡◌, ◌<◌, ◌≤◌, ◌-◌, ◌==◌, ℕ, List, [], true, length, take, drop, get_or, if◌then◌else◌, Option, None, Some, is_some}
use Rattle.geos_model.specs.Array.{Array}
use Rattle.large_bodies.specs.BranchReading.{IsPlain}
use Rattle.geos_model.specs.Pieces.{BranchPiece, branch_room, join_room, piece_weight}
use Rattle.geos_model.specs.LargeLayout.{branch_of}
use Rattle.large_arrays.specs.Middle.{run_links}
use Rattle.large_bodies.specs.SizedElements.{SizedElements}
use Rattle.large_arrays.specs.Spots.{counts_of}
use Rattle.large_arrays.specs.declared.middle.Ends.{Ends}
use Rattle.large_arrays.specs.declared.spot.Spot.{Spot}

abbrev pub run_count : Spot → ℕ → ℕ
run_count s n = get_or (counts_of (run_links s)) n 0

-- the elements of a branch of the run, if its body has as many as the root says
abbrev pub run_read : Spot → List (List ℕ) → ℕ → Option BranchPiece
run_read s bodies n = branch_of s.size (run_count s n) (get_or bodies n [])

-- one of them has others
abbrev pub OneUnread : Spot → List (List ℕ) → Type 0
OneUnread s bodies = (n : ℕ) × (n < length bodies) × (run_read s bodies n ≡ None)

-- An array has the elements of a branch of the run, and they are those of a raw body.
pub record IsRunBranch (s : Spot) (bodies : List (List ℕ)) (n : ℕ) (a : Array) : Type 0 where
  pub read : run_read s bodies n ≡ Some a.elements
  pub plain : IsPlain a s.size (run_count s n)
  pub room : piece_weight a.size a.elements ≤ branch_room

-- What is left of the first branch, and of the last one.

pub record IsHead (s : Spot) (bodies : List (List ℕ)) (part : SizedElements) : Type 0 where
  pub elements : BranchPiece
  pub read : run_read s bodies 0 ≡ Some elements
  pub is : part ≡ record { size = s.size; elements = take s.start.1 elements }

pub record IsTail (s : Spot) (bodies : List (List ℕ)) (part : SizedElements) : Type 0 where
  pub elements : BranchPiece
  pub read : run_read s bodies (s.end.0 - s.start.0) ≡ Some elements
  pub is : part ≡ record { size = s.size; elements = drop s.end.1 elements }

-- All branches are read, and these are left.
pub record AreEnds (s : Spot) (bodies : List (List ℕ)) (ends : Ends) : Type 0 where
  pub read : (n : ℕ) → n < length bodies → is_some (run_read s bodies n) ≡ true
  pub head : IsHead s bodies ends.head
  pub tail : IsTail s bodies ends.tail

-- up to how much the last piece may weigh with what stands behind the run
abbrev pub tail_room : Spot → ℕ
tail_room s = if s.start.0 == s.end.0 then branch_room else join_room
