-- Steps of a walk along a chain.
use Rattle.std.specs.Prelude.{◌≡◌, ◌≤◌, ◌⊎◌, ℕ, ◌+◌, List, [], ◌∷◌, ◌++◌, None, true, false, ◌==◌, length}
use Rattle.std.specs.List.{All, list_any}
use Rattle.geos_model.specs.Chain.{chain}
use Rattle.geos_model.specs.Document.{Document, is_live, most_blocks}
use Rattle.geos_model.specs.ElementArray.{all_distinct}
use Rattle.geos_model.specs.declared.handle.VmHandle.{VmHandle}
use Rattle.vm_chains.specs.Numbers.{numbers}
use Rattle.vm_chains.specs.Walking.{AreBlocks, BeginsWith, GoesOn, IsChainWalk}
use Rattle.vm_chains.specs.declared.stepping.Walk.{Walk}

-- nothing was met, and the root alone is pending
pub record IsAtRoot (root : ℕ) (walk : Walk) : Type 0 where
  pub met : walk.met ≡ []
  pub pending : walk.pending ≡ root ∷ []
  pub left : walk.left ≡ most_blocks

-- it goes along the chain of this block
abbrev pub IsAlong : Document → ℕ → Walk → Type 0
IsAlong d root walk = IsChainWalk d root walk.left walk.met walk.pending

-- The next block that is pending is one of a chain and is met for the first time, and then what it links to is pending
-- before all else.
pub record IsWalkStep (d : Document) (h : ℕ) (old new : Walk) : Type 0 where
  pub rest : List ℕ
  pub next : old.pending ≡ h ∷ rest
  pub first_time : list_any (λ x. x == h) old.met ≡ false
  pub goes_on : GoesOn d h rest new.pending
  pub met : new.met ≡ old.met ++ h ∷ []
  pub left : old.left ≡ new.left + 1

-- The next block that is pending was taken, for the first time, and may still be met.
pub record IsTaken (h : ℕ) (old new : Walk) : Type 0 where
  pub next : old.pending ≡ h ∷ new.pending
  pub first_time : list_any (λ x. x == h) old.met ≡ false
  pub room : 1 ≤ old.left
  pub met : new.met ≡ old.met
  pub left : new.left ≡ old.left

-- nothing is pending any more
pub record IsOver (old new : Walk) : Type 0 where
  pub none : old.pending ≡ []
  pub same : new ≡ old

-- it goes along no chain
abbrev pub IsBroken : Document → Walk → Type 0
IsBroken d walk = (root : ℕ) → IsAlong d root walk → chain d root ≡ None

-- What is known of a walk over any store.

-- The next block that was pending is live and is met for the first time.
pub record HasPassed (d : Document) (h : ℕ) (old new : Walk) : Type 0 where
  pub rest : List ℕ
  pub next : old.pending ≡ h ∷ rest
  pub first_time : list_any (λ x. x == h) old.met ≡ false
  pub live : is_live d h ≡ true
  pub met : new.met ≡ old.met ++ h ∷ []
  pub left : old.left ≡ new.left + 1

-- live blocks, each once, where at most so many may still be met
pub record AreMet (d : Document) (n : ℕ) (met : List ℕ) : Type 0 where
  pub live : All (λ h. is_live d h ≡ true) met
  pub distinct : all_distinct met ≡ true
  pub few : length met + n ≤ most_blocks

-- The root is the first that was met; where nothing was, it alone is pending.
abbrev pub RootFirst : ℕ → List ℕ → List ℕ → Type 0
RootFirst root met pending = ((met ≡ []) × (pending ≡ root ∷ [])) ⊎ BeginsWith root met

-- what was met, and how it began
pub record HasMet (d : Document) (root : ℕ) (walk : Walk) : Type 0 where
  pub blocks : AreMet d walk.left walk.met
  pub root_first : RootFirst root walk.met walk.pending

-- and of the blocks that it has met at its end
pub record HasMetAll (d : Document) (root : ℕ) (hs : List VmHandle) : Type 0 where
  pub blocks : AreBlocks d hs
  pub root_first : BeginsWith root (numbers hs)
