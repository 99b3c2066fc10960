-- The plan of a window, put together of those of the blocks that go, the root and the pieces.
use Rattle.std.proofs.Common.{◌≡◌, ℕ, ◌≤◌, Bool, true, false, ◌||◌, ◌==◌, List, [], ◌∷◌, length, map, is_some, refl, sym, ap, ap₂, subst, ◌∙◌, inl, inr}
use Rattle.std.proofs.lemmas.Bool.{or_parts}
use Rattle.std.specs.List.{Contains, list_any, zip}
use Rattle.geos_model.specs.Document.{Document, is_live, raw_bytes_of}
use Rattle.geos_model.specs.declared.fault.Fault.TheVariants.{IsMap, NoHandles}
use Rattle.geos_model.specs.declared.handle.VmHandle.{VmHandle}
use Rattle.vm_blocks.specs.declared.change.Change.{Change}
use Rattle.vm_chains.specs.Numbers.{numbers}
use Rattle.geos_model.specs.Pieces.{BranchPiece}
use Rattle.geos_model.specs.LargeLayout.{root_bytes, root_of}
use Rattle.geos_model.specs.LargeBlocks.{root_at}
use Rattle.geos_model.specs.LargeWindow.{Window, window}
use Rattle.large_arrays.specs.HandleLists.{AreFreed, old_handles, old_pairs}
use Rattle.large_arrays.specs.ChangePlans.{ArePlanned, piece_bodies, window_bodies}
use Rattle.large_arrays.specs.Gathering.{AreGathered, IsGatheredWindow}
use Rattle.large_arrays.specs.WindowPlans.{ArePieceHandles, IsWindowPlanned, RefusesWindow, frees_map, lacks_handles, has_too_many, lacks_places, gathered_root}
use Rattle.large_arrays.specs.declared.gathered.Gathered.{Gathered}
use Rattle.large_arrays.specs.declared.handles.OldBranch.{OldBranch}
use Rattle.large_arrays.proofs.GatheredWindows.{gathered-freed, gathered-map, gathered-places, gathered-news, gathered-bodies}
use Rattle.large_arrays.proofs.PieceBlocks.{old-live}

-- a handle among others, as numbers
pub among : (hs : List VmHandle) (wanted h : ℕ) → wanted ≡ h → list_any (λ x. x.0 == wanted) hs ≡ list_any (λ x. x == h) (numbers hs)
among [] wanted h is = refl
among (x ∷ hs) wanted h is = ap₂ (λ (s t : Bool). s || t) (ap (λ (y : ℕ). x.0 == y) is) (among hs wanted h is)

-- what goes, by the branches that were read
pub freed-so : (g : Gathered) (olds : List OldBranch) (n : ℕ) (freed : List ℕ) → olds ≡ g.olds.items → n ≡ length g.pieces.pieces → AreFreed (old_pairs olds) n freed
    → AreFreed (old_pairs g.olds.items) (length g.pieces.pieces) freed
freed-so g olds n freed same many go =
    subst (λ (os : List OldBranch). AreFreed (old_pairs os) (length g.pieces.pieces) freed) same (subst (λ (k : ℕ). AreFreed (old_pairs olds) k freed) many go)

module _ (d : Document) (b i j branches : ℕ) (new : BranchPiece) (g : Gathered) (gathered : AreGathered d b g) (is : IsGatheredWindow d b i j new g) (freed : List ℕ)
    (go : AreFreed (old_pairs g.olds.items) (length g.pieces.pieces) freed) where
  abbrev w : Window
  w = window d b i j new

  live : (h : ℕ) → Contains (old_handles g.olds.items) h → is_live d h ≡ true
  live h there = old-live d g.olds.items gathered.live h there

  map_is : frees_map d w ≡ list_any (λ h. h == d.map_block) freed
  map_is = gathered-map d b i j new g is freed go live

  -- the map block would go
  pub refuses-map : list_any (λ h. h == d.map_block) freed ≡ true → RefusesWindow d b w IsMap
  refuses-map map = inl (refl, map_is ∙ map)

  module _ (found : is_some (root_of (raw_bytes_of d b)) ≡ true) (order : i ≤ j) (many : length (root_at d b).branches ≡ branches)
      (no_map : list_any (λ h. h == d.map_block) freed ≡ false) where
    places_are : lacks_places d branches g ≡ (lacks_handles d w || has_too_many d b w)
    places_are = gathered-places d b i j new g is found order branches many

    -- or there aren't the places
    pub refuses-places : lacks_places d branches g ≡ true → RefusesWindow d b w NoHandles
    refuses-places lacks = inr (refl, map_is ∙ no_map, sym places_are ∙ lacks)

    -- else it is planned
    pub window-planned : (hs : List ℕ) (changes : List Change) → ArePieceHandles d branches g hs
        → ArePlanned changes d freed ((b, root_bytes (gathered_root (root_at d b) g hs)) ∷ piece_bodies g.pieces.size (zip hs g.pieces.pieces))
        → IsWindowPlanned d b w changes
    window-planned hs changes are planned =
        let parts = or_parts (lacks_handles d w) (has_too_many d b w) (sym places_are ∙ are.room) in
        let bodies = gathered-bodies d b i j new g is found order hs (gathered-news d b i j new g is ∙ sym are.are) in record {
          no_map = map_is ∙ no_map;
          handles = parts.0;
          room = parts.1;
          planned =
              subst (λ (gone : List ℕ). ArePlanned changes d gone (window_bodies d b w)) (sym (gathered-freed d b i j new g is freed go live))
              (subst (λ (bs : List (ℕ × List ℕ)). ArePlanned changes d freed bs) (sym bodies) planned);
        }
