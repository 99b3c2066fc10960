-- A walk along a chain.
use Rattle.std.specs.Prelude.{◌≡◌, ◌≤◌, ◌⊎◌, ℕ, ◌+◌, List, [], ◌∷◌, ◌++◌, Bool, true, false, ◌==◌, length, get_or}
use Rattle.std.specs.List.{All, list_any}
use Rattle.std.specs.Option.{option_map}
use Rattle.geos_model.specs.Chain.{blocks_from, is_member, links}
use Rattle.geos_model.specs.Document.{Document, is_live, is_vm_handle, most_blocks, raw_bytes_of}
use Rattle.geos_model.specs.ElementArray.{all_distinct}
use Rattle.geos_model.specs.declared.fault.Fault.{Fault}
use Rattle.geos_model.specs.declared.fault.Fault.TheVariants.{BadChain}
use Rattle.geos_model.specs.declared.handle.VmHandle.{VmHandle}
use Rattle.vm_chains.specs.Numbers.{numbers}

-- what no rule of the document decides, or BadChain with its cause
abbrev pub Stops : (Fault → Type 0) → Type 0 → Fault → Type 0
Stops lacks cause fault = lacks fault ⊎ ((fault ≡ BadChain) × cause)

-- the block is one of a chain, and what it links to is pending before all else
pub record GoesOn (d : Document) (h : ℕ) (old new : List ℕ) : Type 0 where
  pub member : is_member d h ≡ true
  pub pending : new ≡ links (raw_bytes_of d h) ++ old

-- a mark stands at each of these handles, and at no other
pub record AreMarksOf (hs : List ℕ) (marks : List Bool) : Type 0 where
  pub size : length marks ≡ most_blocks + 1
  pub marked : (h : ℕ) → get_or marks h false ≡ list_any (λ x. x == h) hs

-- Blocks are met, each once, and the chain has them and then at most so many of those that are pending.
pub record IsChainWalk (d : Document) (root n : ℕ) (met pending : List ℕ) : Type 0 where
  pub rest : blocks_from most_blocks d (root ∷ []) ≡ option_map (λ hs. met ++ hs) (blocks_from n d pending)
  pub distinct : all_distinct met ≡ true

-- h is the first of these
abbrev pub BeginsWith : ℕ → List ℕ → Type 0
BeginsWith h hs = (rest : List ℕ) × (hs ≡ h ∷ rest)

-- handles of live blocks, each once
pub record AreBlocks (d : Document) (hs : List VmHandle) : Type 0 where
  pub live : All (λ h. is_live d h.0 ≡ true) hs
  pub handles : All (λ h. is_vm_handle h.0 ≡ true) hs
  pub distinct : all_distinct (numbers hs) ≡ true
  pub few : length hs ≤ most_blocks

-- blocks that a chain can have
abbrev pub CanBeMembers : Document → List VmHandle → Type 0
CanBeMembers d hs = All (λ h. is_member d h.0 ≡ true) hs
