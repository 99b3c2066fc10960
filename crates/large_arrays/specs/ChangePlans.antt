-- Changes that are planned one block after another, and what they make of a document together.
use Rattle.std.specs.Prelude.{◌≡◌, ◌∷◌, ◌++◌, ◌+◌, ℕ, List, length, map, sum_by, if◌then◌else◌}
use Rattle.std.specs.List.{Contains, flat_map, zip}
use Rattle.geos_model.specs.Cost.{image_length}
use Rattle.geos_model.specs.Document.{Document, is_live, raw_bytes_of, with_blocks, without_blocks}
use Rattle.geos_model.specs.Image.{image}
use Rattle.geos_model.specs.Places.{block_place}
use Rattle.geos_model.specs.declared.command.Body.TheVariants.{Raw}
use Rattle.geos_model.specs.declared.place.Place.{Place}
use Rattle.vm_blocks.specs.ChangeCosts.{change_cost}
use Rattle.vm_blocks.specs.ChangePlaces.{change_places}
use Rattle.vm_blocks.specs.Changes.{weight as change_weight}
use Rattle.vm_blocks.specs.Preparing.{after_changes, CanApplyAll, CanApplyAllByHandle}
use Rattle.vm_blocks.specs.declared.change.Change.{Change}
use Rattle.geos_model.specs.Pieces.{BranchPiece}
use Rattle.geos_model.specs.LargeLayout.{root_bytes, branch_bytes}
use Rattle.geos_model.specs.LargeBlocks.{root_at}
use Rattle.large_bodies.specs.declared.cut_body.CutBody.{CutBody}
use Rattle.large_bodies.specs.Patches.{HoldsLeast}
use Rattle.geos_model.specs.LargeWindow.{Window, raw_block, replaced_root}

-- the document without these blocks, and with raw blocks of these bytes; one that was there keeps its attributes
abbrev pub with_bodies : Document → List ℕ → List (ℕ × List ℕ) → Document
with_bodies d freed bodies = with_blocks (without_blocks d freed) (map (λ p. raw_block d p.0 p.1) bodies)

-- where that changes the document: the blocks that go, and then those that get bodies
abbrev pub planned_places : List ℕ → List (ℕ × List ℕ) → List Place
planned_places freed bodies = map block_place (freed ++ map (λ p. p.0) bodies)

-- how many bytes it costs to give a block a body: both bodies of one that is there, else the image
abbrev pub body_cost : Document → ℕ × List ℕ → ℕ
body_cost d p =
    if is_live d p.0 then length (raw_bytes_of d p.0) + length p.1 else length (image (Raw p.1))

abbrev pub planned_cost : Document → List ℕ → List (ℕ × List ℕ) → ℕ
planned_cost d freed bodies = sum_by (image_length d) freed + sum_by (body_cost d) bodies

-- They can be made, and make this of the document; that is where they change it, and what they cost.
pub record ArePlanned (changes : List Change) (d : Document) (freed : List ℕ) (bodies : List (ℕ × List ℕ))
    : Type 0 where
  pub applies : CanApplyAll changes d
  pub makes : after_changes changes d ≡ with_bodies d freed bodies
  pub places : flat_map change_places changes ≡ planned_places freed bodies
  pub cost : sum_by change_cost changes ≡ planned_cost d freed bodies

-- So much of it is known by handles alone, over any store.
pub record ArePlannedByHandle (changes : List Change) (d : Document) (freed : List ℕ) (bodies : List (ℕ × List ℕ))
    : Type 0 where
  pub applies : CanApplyAllByHandle changes d
  pub live : (h : ℕ) → is_live (after_changes changes d) h ≡ is_live (with_bodies d freed bodies) h
  pub map_block : (after_changes changes d).map_block ≡ d.map_block

-- a block that doesn't go, and gets no other body
pub record IsUntouched (freed : List ℕ) (bodies : List (ℕ × List ℕ)) (h : ℕ) : Type 0 where
  pub stays : Contains freed h → ⊥
  pub other : Contains (map (λ p. p.0) bodies) h → ⊥

-- changes behind others, which hold so many bytes
pub record AddsHeld (before after : List Change) (held : ℕ) : Type 0 where
  pub more : List Change
  pub joined : after ≡ before ++ more
  pub holds : sum_by change_weight more ≡ held

-- changes behind others, which hold no more bytes than a patch from one body to another has to
pub record AddsLeast (before after : List Change) (old new : CutBody) : Type 0 where
  pub more : List Change
  pub joined : after ≡ before ++ more
  pub least : HoldsLeast old new (sum_by change_weight more)

-- the bodies of an edit of a large array

abbrev pub piece_bodies : ℕ → List (ℕ × BranchPiece) → List (ℕ × List ℕ)
piece_bodies size pieces = map (λ p. (p.0, branch_bytes size p.1)) pieces

abbrev pub window_bodies : Document → ℕ → Window → List (ℕ × List ℕ)
window_bodies d b w =
    let r = root_at d b in (b, root_bytes (replaced_root r w)) ∷ piece_bodies r.size (zip w.news w.pieces)
