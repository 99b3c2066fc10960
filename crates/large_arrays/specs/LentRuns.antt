-- Elements of one size, lent where they lie in the block of a branch.
use Rattle.std.specs.Prelude.{◌≡◌, ◌≤◌, ◌<◌, ◌-◌, ℕ, List, true, length, drop, get_or, None, Some}
use Rattle.std.specs.List.{flat_map}
use Rattle.geos_model.specs.Document.{Document, is_raw, raw_bytes_of}
use Rattle.geos_model.specs.LargeBlocks.{root_at}
use Rattle.geos_model.specs.LargeEdits.{large_run, read_large_conditions}
use Rattle.geos_model.specs.LargeLayout.{Root, total_count}
use Rattle.geos_model.specs.Pieces.{BranchPiece}
use Rattle.geos_model.specs.Refusal.{first_refusal}
use Rattle.geos_model.specs.Spread.{start_place}
use Rattle.vm_blocks.specs.State.{CacheState}
use Rattle.vm_blocks.specs.Keeping.{is_loaded}
use Rattle.large_arrays.specs.Loading.{branch_under}
use Rattle.large_arrays.specs.declared.lent_runs.LentSpot.{LentSpot}
use Rattle.large_arrays.specs.declared.lent_runs.RunPlace.{RunPlace}

-- the branch that has an element
abbrev pub element_branch : Root → ℕ → ℕ
element_branch r i = get_or r.branches (start_place r.counts i).0 0

-- how many elements it has from that one on
abbrev pub count_from : Root → ℕ → ℕ
count_from r i = let place = start_place r.counts i in get_or r.counts place.0 0 - place.1

-- the bytes of a block from a place on
abbrev pub run_bytes : Document → RunPlace → List ℕ
run_bytes d p = drop p.start (raw_bytes_of d p.block.0)

-- The element could be read, and at this place of its branch it stands, with those behind it, as many as the branch
-- has.
pub record IsRunPlace (d : Document) (b i : ℕ) (p : RunPlace) : Type 0 where
  pub accepted : first_refusal (read_large_conditions d b i 1) ≡ None
  pub block : p.block.0 ≡ element_branch (root_at d b) i
  pub bytes : run_bytes d p ≡ large_run d b i (count_from (root_at d b) i)

-- A raw block is in memory, and has the place.
pub record IsRunLoaded {S : Type 0} (s : CacheState S) (p : RunPlace) : Type 0 where
  pub loaded : is_loaded s p.block.0 ≡ true
  pub raw : is_raw s.document p.block.0 ≡ true
  pub within : p.start ≤ length (raw_bytes_of s.document p.block.0)

-- An element that there is, of a size that all have: its branch, and how many elements of that are before it.
pub record IsLentSpot (r : Root) (i : ℕ) (s : LentSpot) : Type 0 where
  pub there : i < total_count r
  pub sized : 0 < r.size
  pub size : s.size ≡ r.size
  pub handle : s.link.handle.0 ≡ element_branch r i
  pub count : s.link.count ≡ get_or r.counts (start_place r.counts i).0 0
  pub before : s.before ≡ (start_place r.counts i).1

-- From this place on its block has the elements of a branch from that one on.
pub record IsLentFrom (d : Document) (s : LentSpot) (p : RunPlace) : Type 0 where
  pub block : p.block ≡ s.link.handle
  pub elements : BranchPiece
  pub branch : branch_under d s.link.handle.0 s.size s.link.count ≡ Some elements
  pub bytes : run_bytes d p ≡ flat_map (λ x. x) (drop s.before elements)
