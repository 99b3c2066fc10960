-- Images that are written where nothing lies that stays.
use Rattle.std.specs.Prelude.{◌≡◌, ℕ, zero, suc, ◌-◌, ◌<◌, ◌≤◌, List, [], ◌∷◌, ◌++◌, All, Option, None, Some, length, replicate, get_or, slice_set}
use Rattle.vm_store.specs.Facts.{StoreFacts, Holds}
use Rattle.geos_model.specs.Document.{is_heap_body}
use Rattle.geos_model.specs.Image.{image}
use Rattle.file_format.specs.declared.file.Extent.{Extent}
use Rattle.document_file.specs.Ranges.{start_of, end_of, IsPlaced, KeepsExtent, KeepsAll, IsOut, IsClear}
use Rattle.document_file.specs.Slots.{CrashLeavesSlots, Outlives}
use Rattle.geos_model.specs.declared.handle.VmHandle.{VmHandle}
use Rattle.document_file.specs.Sums.{has_sums, sum_for}
use Rattle.document_file.specs.declared.member.Member.{Member}
use Rattle.document_file.specs.declared.table.Place.{Place}
use Rattle.document_file.specs.declared.slot.Slots.{Slots}

-- Extents for the first n images: each as long as its image, and apart from those that are taken and from each other.
pub record AreFor (taken : List Extent) (puts : List Member) (n : ℕ) (extents : List Extent) : Type 0 where
  pub count : length extents ≡ n
  pub sizes : (k : ℕ) (e : Extent) (p : Member) → k < n
      → (get_or extents k e).length ≡ length (image (get_or puts k p).block.image)
  pub placed : All IsPlaced extents
  pub clear : All (λ e. IsClear (start_of e) e.length taken) extents
  pub apart : (i k : ℕ) (e : Extent) → i < k → k < n
      → IsOut (start_of (get_or extents k e)) (get_or extents k e).length (start_of (get_or extents i e))
      (end_of (get_or extents i e))

-- An extent for one image: as long as that, and apart from those that are taken.
pub record IsFor (taken : List Extent) (bytes : List ℕ) (e : Extent) : Type 0 where
  pub size : e.length ≡ length bytes
  pub placed : IsPlaced e
  pub clear : IsClear (start_of e) e.length taken

-- none of these reaches into the extent
abbrev pub IsAside : List Extent → Extent → Type 0
IsAside extents e = All (λ x. IsOut (start_of x) x.length (start_of e) (end_of e)) extents

-- calls that write into these extents alone, on which the slots don't stand
pub record Fills (slots : Slots) (extents : List Extent) (old new : StoreFacts) : Type 0 where
  pub keeps : (e : Extent) → IsAside extents e → end_of e ≤ length old.content → KeepsExtent old.content new.content e
  pub leaves : (file : List ℕ) → CrashLeavesSlots old slots file → CrashLeavesSlots new slots file
  pub crash : (file : List ℕ) → CrashLeavesSlots old slots file → Outlives old new file (λ s. s ≡ slots)

-- the first n images stand in their extents
abbrev pub AreWritten : ℕ → List Member → List Extent → List ℕ → Type 0
AreWritten n puts extents file =
    (k : ℕ) (e : Extent) (p : Member) → k < n
    → Holds file (start_of (get_or extents k e)) (image (get_or puts k p).block.image)

-- calls that keep these extents, and all that the slots stand on
pub record SparesExtents (extents : List Extent) (slots : Slots) (old new : StoreFacts) : Type 0 where
  pub keeps : All (λ e. end_of e ≤ length old.content) extents → KeepsAll extents old.content new.content
  pub leaves : (file : List ℕ) → CrashLeavesSlots old slots file → CrashLeavesSlots new slots file
  pub crash : (file : List ℕ) → CrashLeavesSlots old slots file → Outlives old new file (λ s. s ≡ slots)

-- Changes of a table.

-- with places of no block behind the others
pub record IsGrown (old new : List (Option Place)) : Type 0 where
  pub count : ℕ
  pub is : new ≡ old ++ replicate count None

-- where a block lies whose image is in this extent, in a file of a version
abbrev pub placed_at : ℕ → Member → Extent → Place
placed_at version p e =
    record {
      attributes = p.block.attributes;
      is_heap = is_heap_body p.block.image;
      extent = e;
      sum = sum_for (has_sums version) (image p.block.image);
    }

-- with these blocks, each in its extent
abbrev pub with_places : ℕ → List Member → List Extent → List (Option Place) → List (Option Place)
with_places version [] extents places = places
with_places version (p ∷ puts) [] places = places
with_places version (p ∷ puts) (e ∷ extents) places =
    with_places version puts extents (slice_set places (p.handle.0 - 1) (Some (placed_at version p e)))

-- without the block under a handle
abbrev pub without_place : ℕ → List (Option Place) → List (Option Place)
without_place zero places = places
without_place (suc n) places = slice_set places n None

abbrev pub without_places : List VmHandle → List (Option Place) → List (Option Place)
without_places [] places = places
without_places (h ∷ handles) places = without_places handles (without_place h.0 places)
