-- The blocks of a chain and of its copy under their handles. An edit of a chain that nothing refuses finds one: a copy
-- has its shape, and freed blocks are gone.
use Rattle.std.proofs.Common.{◌≡◌, ◌≤◌, ℕ, true, false, ◌==◌, List, [], ◌∷◌, length, Option, Some, None, is_none, is_some, unwrap_or, refl, sym, ap, ltb-false}
use Rattle.std.proofs.lemmas.Bool.{eq-eqb}
use Rattle.std.proofs.lemmas.List.Elements.{All-map, All-weaker, All-contains_itself}
use Rattle.std.specs.List.{All, Contains, zip}
use Rattle.std.specs.FinMap.{get}
use Rattle.geos_model.specs.Refusal.{Conditions, first_refusal}
use Rattle.geos_model.specs.Document.{Block, Document, IsValid, is_live, block_at, handles_of, without_blocks, no_block}
use Rattle.geos_model.specs.Meaning.{copies_blocks}
use Rattle.geos_model.specs.Chain.{chain, chain_blocks, chain_blocks_of, name_of, free_handles, new_handles, relinked_block, copies_of, free_conditions, copy_conditions}
use Rattle.geos_model.specs.ChainLaws.{IsFreed, CopiesChain, FreesChain}
use Rattle.geos_model.specs.declared.fault.Fault.TheVariants.{BadChain, IsMap, NoHandles}
use Rattle.geos_model.specs.declared.command.Done.TheVariants as done
use Rattle.geos_model.proofs.Refusals.{none_applies, or_none}
use Rattle.geos_model.proofs.BlockLists.{none_passes, taken_elsewhere, taken_gone, taken_map_block, taken_valid}
use Rattle.geos_model.proofs.ChainCopies.{new-new}
use Rattle.geos_model.proofs.CopiedChains.{named-handles, chain-copied}

-- The blocks of a chain and of its copy.

pub blocks_of-handles : (d : Document) (hs : List ℕ) → handles_of (chain_blocks_of d hs) ≡ hs
blocks_of-handles d [] = refl
blocks_of-handles d (h ∷ hs) = ap (λ (xs : List ℕ). h ∷ xs) (blocks_of-handles d hs)

live_block : (o : Option Block) → is_some o ≡ true → o ≡ Some (unwrap_or o no_block)
live_block None live = absurd (cc live)
live_block (Some b) live = refl

pub blocks_of-stand : (d : Document) (hs : List ℕ) → ((x : ℕ) → Contains hs x → is_live d x ≡ true) → All (λ p. get d.blocks p.0 ≡ Some p.1) (chain_blocks_of d hs)
blocks_of-stand d hs live =
    All-map (λ p. get d.blocks p.0 ≡ Some p.1) (λ h. (h, block_at d h)) hs
    (All-weaker (Contains hs) (λ h. get d.blocks h ≡ Some (block_at d h)) (λ h there. live_block (get d.blocks h) (live h there)) hs (All-contains_itself hs))

pub copies_of-handles : (d : Document) (hs : List ℕ) → length hs ≤ length (free_handles d) → handles_of (copies_of d hs) ≡ new_handles d (length hs)
copies_of-handles d hs enough =
    let new : List ℕ = new_handles d (length hs) in
    named-handles (λ h. relinked_block (name_of (zip hs new)) (block_at d h)) hs new (sym (new-new d (length hs) enough).as_many)

-- A document without blocks.
pub blocks-freed : (d : Document) (hs : List ℕ) → IsValid d → (Contains hs d.map_block → ⊥) → IsFreed d hs (without_blocks d hs)
blocks-freed d hs valid other = record {
  valid = taken_valid d hs valid other;
  map_block = taken_map_block d hs;
  gone = λ x there. ap is_some (taken_gone d hs x there);
  others = taken_elsewhere d hs;
}

-- Edits of chains.

found : (o : Option (List ℕ)) → is_none o ≡ false → o ≡ Some (unwrap_or o [])
found None there = absurd (cc there)
found (Some hs) there = refl

pub chain-copy : (d : Document) (h : ℕ) → IsValid d → first_refusal (copy_conditions d h) ≡ None → CopiesChain d h (copies_blocks d (chain_blocks d h))
chain-copy d h valid none =
    let cs : Conditions = copy_conditions d h in
    let hs : List ℕ = chain_blocks d h in
    let is = found (chain d h) (or_none (none_applies cs none BadChain refl)).0 in
    let enough = ltb-false (length (free_handles d)) (length hs) (or_none (none_applies cs none NoHandles refl)).0 in record {
      hs = hs;
      new = new_handles d (length hs);
      is = is;
      fresh = new-new d (length hs) enough;
      copied = chain-copied d h hs valid is enough;
      answer = refl;
    }

pub chain-free : (d : Document) (h : ℕ) → IsValid d → first_refusal (free_conditions d h) ≡ None → FreesChain d h (without_blocks d (chain_blocks d h), done.Nothing)
chain-free d h valid none =
    let cs : Conditions = free_conditions d h in
    let hs : List ℕ = chain_blocks d h in
    let other = (or_none (none_applies cs none IsMap refl)).0 in record {
      hs = hs;
      is = found (chain d h) (or_none (none_applies cs none BadChain refl)).0;
      freed = blocks-freed d hs valid (none_passes (λ x. x == d.map_block) hs d.map_block other (eq-eqb d.map_block d.map_block refl));
      answer = refl;
    }
