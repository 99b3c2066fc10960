-- Whether there is room in memory for the bodies into which a command looks.
use Rattle.std.specs.Prelude.{◌≡◌, ◌⊎◌, Bool, true, Some}
use Rattle.geos_model.specs.Machine.{Needs, NoBody, OneBody, ManyBodies, lacks_room}
use Rattle.geos_model.specs.Refusal.{Conditions, first_refusal}
use Rattle.geos_model.specs.declared.fault.Fault.{Fault}
use Rattle.geos_model.specs.declared.fault.Fault.TheVariants.{CacheFull, NoBlock, WrongKind}
use Rattle.vm_blocks.specs.State.{CacheState}
use Rattle.vm_blocks.specs.Keeping.{is_full, is_loaded, has_no_frame_for}
use Rattle.vm_chains.specs.Answers.{IsWalkRefusal}

-- A block that isn't locked can't be brought into memory where each frame has a locked one, and those of a chain or of
-- a large array are not even looked for.
abbrev pub lacks_frames : {S : Type 0} → CacheState S → Needs → Bool
lacks_frames state needs = lacks_room (has_no_frame_for state) (is_full state) needs

-- The first refusal is for a block that isn't live, or is of another kind, which is known without its body.
abbrev pub IsRefusedUnseen : Conditions → Type 0
IsRefusedUnseen conditions = (first_refusal conditions ≡ Some NoBlock) ⊎ (first_refusal conditions ≡ Some WrongKind)

-- No body has to be read for a command that is refused so: it looks into none, or into one that is in memory, or into
-- none since the block is refused. A chain is read as it is followed.
abbrev pub ReadsNothing : {S : Type 0} → CacheState S → Needs → Conditions → Type 0
ReadsNothing state NoBody conditions = Unit {0}
ReadsNothing state (OneBody b) conditions = (is_loaded state b ≡ true) ⊎ IsRefusedUnseen conditions
ReadsNothing state ManyBodies conditions = ⊥

-- A refusal of a command along a chain or of a large array, whose root may be refused so, that is told before any block
-- is looked into.
abbrev pub IsRefusedEarly : (Fault → Type 0) → Bool → Fault → Type 0
IsRefusedEarly root full fault = root fault ⊎ ((fault ≡ CacheFull) × (full ≡ true))

-- what a look-up along a chain or of a large array is refused for, over any store
abbrev pub IsChainRefusal : (Fault → Type 0) → (Fault → Type 0) → Bool → Fault → Type 0
IsChainRefusal lacks root full fault = IsWalkRefusal lacks root fault ⊎ ((fault ≡ CacheFull) × (full ≡ true))
