-- A run of elements that is read from one branch after another.
use Rattle.std.specs.Prelude.{◌≡◌, ◌≤◌, ◌<◌, ◌⊎◌, ◌+◌, ◌-◌, ◌*◌, ◌^◌, ◌++◌, ℕ, List, Some, length, take, drop, map, get_or, sum_by, replicate, is_some, unwrap_or, Bool}
use Rattle.std.specs.List.{flat_map, list_all}
use Rattle.geos_model.specs.Heap.{capacity}
use Rattle.geos_model.specs.Document.{Document}
use Rattle.geos_model.specs.declared.fault.Fault.{Fault}
use Rattle.geos_model.specs.declared.fault.Fault.TheVariants.{NoElement, Range}
use Rattle.geos_model.specs.Pieces.{BranchPiece, elements_in_pieces}
use Rattle.geos_model.specs.LargeLayout.{Root, total_count}
use Rattle.geos_model.specs.Spread.{start_place, end_place}
use Rattle.large_arrays.specs.Loading.{branch_under}
use Rattle.large_arrays.specs.Spots.{AreBranchLinks, counts_of}
use Rattle.large_arrays.specs.LargeLookUps.{IsElementRefusal}
use Rattle.large_arrays.specs.declared.runs.RunSpot.{RunSpot}
use Rattle.large_arrays.specs.declared.spot.BranchLink.{BranchLink}

-- There are these elements, of one size, and they have no more bytes than a raw body.
pub record IsReadable (r : Root) (i n : ℕ) : Type 0 where
  pub there : i + n ≤ total_count r
  pub few : total_count r < 2 ^ 32
  pub sized : 0 < r.size
  pub short : n * r.size ≤ capacity

-- or not
abbrev pub IsRunRefused : Root → ℕ → ℕ → Fault → Type 0
IsRunRefused r i n fault = ((fault ≡ NoElement) × (total_count r < i + n))
    ⊎ ((fault ≡ Range) × (i + n ≤ total_count r) × ((r.size ≡ 0) ⊎ (capacity < n * r.size)))

-- their branches, and how many elements of the first one are before them
pub record IsReadSpot (r : Root) (i n : ℕ) (s : RunSpot) : Type 0 where
  pub size : s.size ≡ r.size
  pub links : AreBranchLinks r (start_place r.counts i).0 ((end_place r.counts (i + n)).0 + 1) s.links.items
  pub before : s.before ≡ (start_place r.counts i).1
  pub count : s.count ≡ n

-- The branches have so many elements, from that one on, of a size that can be; the first branch has those before it.
pub record IsWithin (s : RunSpot) : Type 0 where
  pub small : s.size < 65536
  pub few : s.before + s.count < 2 ^ 32
  pub first : 0 < length s.links.items → s.before ≤ get_or (counts_of s.links.items) 0 0
  pub all : s.before + s.count ≤ sum_by (λ c. c) (counts_of s.links.items)

-- the blocks are branches of so many elements of this size
abbrev pub are_branches_under : Document → ℕ → List BranchLink → Bool
are_branches_under d size links = list_all (λ l. is_some (branch_under d l.handle.0 size l.count)) links

-- what they have; one that is no such branch is taken to have as many
abbrev pub pieces_under : Document → ℕ → List BranchLink → List BranchPiece
pieces_under d size links =
    map (λ l. unwrap_or (branch_under d l.handle.0 size l.count) (replicate l.count (replicate size 0))) links

-- the bytes of the run
abbrev pub run_under : Document → RunSpot → List ℕ
run_under d s = flat_map (λ x. x) (take s.count (drop s.before (elements_in_pieces (pieces_under d s.size s.links.items))))

-- The bytes of elements of a branch are appended to others.
pub record AppendsRun (d : Document) (size : ℕ) (link : BranchLink) (from to : ℕ) (old new : List ℕ) : Type 0 where
  pub elements : BranchPiece
  pub branch : branch_under d link.handle.0 size link.count ≡ Some elements
  pub bytes : new ≡ old ++ flat_map (λ x. x) (take (to - from) (drop from elements))

-- what a look-up of a run is refused for, over any store
abbrev pub IsRunRefusal : (Fault → Type 0) → Document → ℕ → Fault → Type 0
IsRunRefusal lacks d b fault = IsElementRefusal lacks d b fault ⊎ (fault ≡ Range)
