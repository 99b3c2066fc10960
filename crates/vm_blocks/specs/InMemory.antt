-- Changes that are carried out in memory, one after another, and taken back there. Blocks that come in are there by
-- then (`Incoming`), and blocks that go are left for last, since nothing in memory brings them back.
use Rattle.std.specs.Prelude.{◌≡◌, ◌≢◌, ◌++◌, ℕ, List, [], ◌∷◌, true}
use Rattle.geos_model.specs.Document.{Document, attributes_of, block_at, handles_of, is_heap, is_live, with_attributes, without_blocks}
use Rattle.chunk_edits.specs.Directions.{opposite}
use Rattle.chunk_edits.specs.declared.direction.Direction.{Direction}
use Rattle.document_file.specs.Members.{imaged_blocks}
use Rattle.vm_blocks.specs.State.{CacheState}
use Rattle.vm_blocks.specs.Changes.{after_part, attributes_for_kind, directed, reversed_part}
use Rattle.vm_blocks.specs.Exactness.{IsExactPart}
use Rattle.vm_blocks.specs.Keeping.{is_loaded}
use Rattle.vm_blocks.specs.Parts.{AllowsPart}
use Rattle.vm_blocks.specs.Preparing.{CanApplyByHandle, CanRemoveByHandle}
use Rattle.vm_blocks.specs.declared.change.Change.{Change}
use Rattle.vm_blocks.specs.declared.change.Change.TheVariants as changes
use Rattle.vm_blocks.specs.declared.change.PartChange.{PartChange}

-- what a change makes of a document where it changes what is there; blocks that come in or go are left out
abbrev pub in_place : Change → Document → Document
in_place (changes.BlocksIn ms) d = d
in_place (changes.BlocksOut ms) d = d
in_place (changes.Part b part) d = after_part b.0 part d
in_place (changes.Attributes b old new) d = with_attributes d b.0 (attributes_for_kind (is_heap d b.0) new)
in_place (changes.Map old new) d = record d { map_block = new.0 }

abbrev pub all_in_place : List Change → Document → Document
all_in_place [] d = d
all_in_place (c ∷ cs) d = all_in_place cs (in_place c d)

-- the blocks that a change takes out, and that all take out, in order
abbrev pub outgoing : Change → List ℕ
outgoing (changes.BlocksIn ms) = []
outgoing (changes.BlocksOut ms) = handles_of (imaged_blocks ms.list.items)
outgoing (changes.Part b part) = []
outgoing (changes.Attributes b old new) = []
outgoing (changes.Map old new) = []

abbrev pub all_outgoing : List Change → List ℕ
all_outgoing [] = []
all_outgoing (c ∷ cs) = outgoing c ++ all_outgoing cs

-- they can be taken out, one after another
abbrev pub CanTakeOut : List Change → Document → Type 0
CanTakeOut [] d = Unit {0}
CanTakeOut (c ∷ cs) d = CanRemoveByHandle d (outgoing c) × CanTakeOut cs (without_blocks d (outgoing c))

-- what is known by handles of a change in place, and of several
abbrev pub IsListed : Change → Document → Type 0
IsListed (changes.BlocksIn ms) d = Unit {0}
IsListed (changes.BlocksOut ms) d = Unit {0}
IsListed (changes.Part b part) d = CanApplyByHandle (changes.Part b part) d
IsListed (changes.Attributes b old new) d = CanApplyByHandle (changes.Attributes b old new) d
IsListed (changes.Map old new) d = CanApplyByHandle (changes.Map old new) d

abbrev pub AreListed : List Change → Document → Type 0
AreListed [] d = Unit {0}
AreListed (c ∷ cs) d = IsListed c d × AreListed cs (in_place c d)

-- what goes stands there, of a change in place, and of several
abbrev pub FitsInPlace : Change → Document → Type 0
FitsInPlace (changes.BlocksIn ms) d = Unit {0}
FitsInPlace (changes.BlocksOut ms) d = Unit {0}
FitsInPlace (changes.Part b part) d = IsExactPart part (block_at d b.0).body
FitsInPlace (changes.Attributes b old new) d = attributes_of d b.0 ≡ old
FitsInPlace (changes.Map old new) d = Unit {0}

abbrev pub AllFit : List Change → Document → Type 0
AllFit [] d = Unit {0}
AllFit (c ∷ cs) d = FitsInPlace c d × AllFit cs (in_place c d)

-- a change can be carried out in place
abbrev pub IsReady : {S : Type 0} → Change → CacheState S → Type 0
IsReady (changes.BlocksIn ms) state = Unit {0}
IsReady (changes.BlocksOut ms) state = Unit {0}
IsReady (changes.Part b part) state =
    (is_loaded state b.0 ≡ true) × AllowsPart part (block_at state.document b.0).body
IsReady (changes.Attributes b old new) state = is_live state.document b.0 ≡ true
IsReady (changes.Map old new) state = new.0 ≢ 0 → is_live state.document new.0 ≡ true

abbrev pub carried : {S : Type 0} → Change → CacheState S → CacheState S
carried c state = record state { document = in_place c state.document }

-- of a part of a body: the body is in memory and takes the change, and then the same the other way round, which gives
-- the document back
pub record IsReversiblePart {S : Type 0} (part : PartChange) (b : ℕ) (state : CacheState S) : Type 0 where
  pub loaded : is_loaded state b ≡ true
  pub takes : AllowsPart part (block_at state.document b).body
  pub back : AllowsPart (reversed_part part) (block_at (after_part b part state.document) b).body
  pub gives : after_part b (reversed_part part) (after_part b part state.document) ≡ state.document

-- and the same the other way round gives back what there was
pub record IsReversible {S : Type 0} (direction : Direction) (c : Change) (state : CacheState S) : Type 0 where
  pub ready : IsReady (directed direction c) state
  pub back : IsReady (directed (opposite direction) c) (carried (directed direction c) state)
  pub gives : in_place (directed (opposite direction) c) (in_place (directed direction c) state.document)
      ≡ state.document

-- what is left once changes that were carried out in a direction are taken back, of which the newest is the first
abbrev pub all_taken_back : {S : Type 0} → Direction → List Change → CacheState S → CacheState S
all_taken_back direction [] state = state
all_taken_back direction (c ∷ cs) state = all_taken_back direction cs (carried (directed (opposite direction) c) state)

abbrev pub CanTakeBack : {S : Type 0} → Direction → List Change → CacheState S → Type 0
CanTakeBack direction [] state = Unit {0}
CanTakeBack direction (c ∷ cs) state =
    IsReady (directed (opposite direction) c) state
    × CanTakeBack direction cs (carried (directed (opposite direction) c) state)

-- nothing changes but the order of use: each block that was in memory is
pub record StaysInMemory {S : Type 0} (old new : CacheState S) : Type 0 where
  pub disk : new.disk ≡ old.disk
  pub document : new.document ≡ old.document
  pub loaded : (h : ℕ) → is_loaded old h ≡ true → is_loaded new h ≡ true
