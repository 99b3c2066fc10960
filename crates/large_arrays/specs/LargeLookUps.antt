-- What look-ups of large arrays take from a root and find in its branches, and why they are refused.
use Rattle.std.specs.Prelude.{◌≡◌, ◌≤◌, ◌<◌, ◌⊎◌, ◌-◌, ℕ, List, [], Some, length, take, drop, get_or}
use Rattle.geos_model.specs.Document.{Document, raw_bytes_of}
use Rattle.geos_model.specs.declared.fault.Fault.{Fault}
use Rattle.geos_model.specs.declared.fault.Fault.TheVariants.{NoElement, BadChain}
use Rattle.vm_blocks.specs.State.{CacheState}
use Rattle.geos_model.specs.Pieces.{BranchPiece}
use Rattle.geos_model.specs.LargeLayout.{Root, total_count}
use Rattle.geos_model.specs.Spread.{start_place}
use Rattle.large_arrays.specs.Loading.{IsRawLoaded, IsRootRefusal, branch_under}
use Rattle.large_arrays.specs.declared.look_ups.ElementPlace.{ElementPlace}
use Rattle.large_arrays.specs.declared.look_ups.ElementSpot.{ElementSpot}

-- An element that there is: its branch, and how many elements of that are before it.
pub record IsElementSpot (r : Root) (i : ℕ) (s : ElementSpot) : Type 0 where
  pub there : i < total_count r
  pub size : s.size ≡ r.size
  pub handle : s.link.handle.0 ≡ get_or r.branches (start_place r.counts i).0 0
  pub count : s.link.count ≡ get_or r.counts (start_place r.counts i).0 0
  pub before : s.before ≡ (start_place r.counts i).1

-- Its block is in memory, and has bytes there.
pub record IsElementLoaded {S : Type 0} (s : CacheState S) (p : ElementPlace) : Type 0 where
  pub block : IsRawLoaded s p.block.0
  pub order : p.start ≤ p.end
  pub within : p.end ≤ length (raw_bytes_of s.document p.block.0)

-- these bytes
abbrev pub placed_bytes : Document → ElementPlace → List ℕ
placed_bytes d p = take (p.end - p.start) (drop p.start (raw_bytes_of d p.block.0))

-- They are those of the element, of a branch.
pub record IsElementPlaced (d : Document) (s : ElementSpot) (p : ElementPlace) : Type 0 where
  pub elements : BranchPiece
  pub branch : branch_under d s.link.handle.0 s.size s.link.count ≡ Some elements
  pub bytes : placed_bytes d p ≡ get_or elements s.before []

-- what a look-up of elements is refused for, over any store, which those of several may be for this too
abbrev pub IsElementRefusal : (Fault → Type 0) → Document → ℕ → Fault → Type 0
IsElementRefusal lacks d b fault = IsRootRefusal lacks d b fault ⊎ ((fault ≡ NoElement) ⊎ (fault ≡ BadChain))
