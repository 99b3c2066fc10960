-- What the blocks of a chain are.
use Rattle.std.proofs.Common.{◌≡◌, ℕ, zero, suc, ◌≤◌, List, [], ◌∷◌, ◌++◌, true, Option, Some, None, length, unwrap_or, refl, sym, ap, subst, ◌∙◌, inl, inr, arith}
use Rattle.std.proofs.lemmas.Bool.{cases_Bool, cond-true, cond-false}
use Rattle.std.proofs.lemmas.List.{length-map, get_or-map}
use Rattle.std.proofs.lemmas.List.Elements.{All-nil, All-cons}
use Rattle.std.specs.List.{All}
use Rattle.std.specs.FinMap.{get}
use Rattle.std.specs.Option.{option_map, option_map_or, option_and_then}
use Rattle.geos_model.specs.Chain.{blocks_from, chain, chain_blocks, if_distinct, is_member, links, relinked, relinked_block}
use Rattle.geos_model.specs.Document.{Block, Document, most_blocks, raw_bytes_of, bytes_of_body, attributes_of, block_at, no_attributes, no_block}
use Rattle.geos_model.specs.declared.command.Body.TheVariants.{Raw}
use Rattle.geos_model.specs.ElementArray.{all_distinct}
use Rattle.geos_model.specs.declared.handle.VmHandle.{VmHandle}
use Rattle.geos_model.specs.declared.block.Attributes.{Attributes}
use Rattle.vm_chains.specs.Numbers.{numbers}
use Rattle.vm_chains.specs.Walking.{CanBeMembers}
use Rattle.vm_chains.proofs.WalkLemmas.{blocks_from-nil, blocks_from-member, blocks_from-other, blocks_from-full}

-- distinct blocks of a chain, at most so many
pub record ArePreorder (d : Document) (n : ℕ) (hs : List ℕ) : Type 0 where
  pub members : All (λ h. is_member d h ≡ true) hs
  pub few : length hs ≤ n

no_members : (d : Document) (n : ℕ) (hs : List ℕ) → Some [] ≡ Some hs → ArePreorder d n hs
no_members d n hs e =
    let none : [] ≡ hs = cc in
    subst (λ (xs : List ℕ). ArePreorder d n xs) none (record { members = All-nil (λ h. is_member d h ≡ true); few = omega arith })

one_more : (d : Document) (n p : ℕ) (o : Option (List ℕ)) → is_member d p ≡ true → ((xs : List ℕ) → o ≡ Some xs → ArePreorder d n xs) → (hs : List ℕ) → option_map (λ rest. p ∷ rest) o ≡ Some hs → ArePreorder d (suc n) hs
one_more d n p None member rest hs e = absurd (cc e)
one_more d n p (Some xs) member rest hs e =
    let so : p ∷ xs ≡ hs = cc in
    let are = rest xs refl in
    subst (λ (ys : List ℕ). ArePreorder d (suc n) ys) so (record { members = All-cons (λ h. is_member d h ≡ true) p xs member are.members; few = omega (arith, are.few) })

members_from : (n : ℕ) (d : Document) (ps hs : List ℕ) → blocks_from n d ps ≡ Some hs → ArePreorder d n hs
members_from zero d [] hs e = no_members d zero hs (sym (blocks_from-nil zero d) ∙ e)
members_from zero d (p ∷ ps) hs e = let no : None ≡ Some hs = sym (blocks_from-full d p ps) ∙ e in absurd (cc no)
members_from (suc n) d [] hs e = no_members d (suc n) hs (sym (blocks_from-nil (suc n) d) ∙ e)
members_from (suc n) d (p ∷ ps) hs e = elim (cases_Bool (is_member d p)) [
  | inl member ↦ one_more d n p (blocks_from n d (links (raw_bytes_of d p) ++ ps)) member (members_from n d (links (raw_bytes_of d p) ++ ps)) hs (sym (blocks_from-member n d p ps member) ∙ e)
  | inr other ↦ (let no : None ≡ Some hs = sym (blocks_from-other (suc n) d p ps other) ∙ e in absurd (cc no))
]

pub distinct_of : (o : Option (List ℕ)) (hs : List ℕ) → option_and_then if_distinct o ≡ Some hs → (o ≡ Some hs) × (all_distinct hs ≡ true)
distinct_of None hs e = absurd (cc e)
distinct_of (Some xs) hs e = elim (cases_Bool (all_distinct xs)) [
  | inl yes_ ↦ (let some : Some xs ≡ Some hs = sym (cond-true (all_distinct xs) (Some xs) None yes_) ∙ e in let same : xs ≡ hs = cc some in (some, subst (λ (ys : List ℕ). all_distinct ys ≡ true) same yes_))
  | inr no_ ↦ (let none : None ≡ Some hs = sym (cond-false (all_distinct xs) (Some xs) None no_) ∙ e in absurd (cc none))
]

-- A chain has at most as many blocks as there are handles, and has each once.
pub chain_members : (d : Document) (root : ℕ) (hs : List ℕ) → chain d root ≡ Some hs → ArePreorder d most_blocks hs × (all_distinct hs ≡ true)
unfolding chain
chain_members d root hs e = let o = distinct_of (blocks_from most_blocks d (root ∷ [])) hs e in (members_from most_blocks d (root ∷ []) hs o.0, o.1)

pub blocks_are : (d : Document) (root : ℕ) (hs : List ℕ) → chain d root ≡ Some hs → chain_blocks d root ≡ hs
blocks_are d root hs e = ap (λ (o : Option (List ℕ)). unwrap_or o []) e

-- The same of the handles of a walk.
pub are_members : (d : Document) (root : ℕ) (hs : List VmHandle) → chain d root ≡ Some (numbers hs) → CanBeMembers d hs
are_members d root hs is =
    let all = chain_members d root (numbers hs) is in
    λ i h within. subst (λ (n : ℕ). is_member d n ≡ true) (get_or-map (λ (h : VmHandle). h.0) hs i h h.0 within) (all.0.members i h.0 (omega (arith, length-map hs (λ (h : VmHandle). h.0))))

-- a block of a copy
pub renamed_block : (d : Document) (h : ℕ) (attributes : Attributes) (bytes : List ℕ) (rename given : ℕ → ℕ) → attributes ≡ attributes_of d h → bytes ≡ relinked rename (raw_bytes_of d h) → ((k : ℕ) → rename k ≡ given k) → ◌≡◌ {A = Block} (record { attributes = attributes; body = Raw bytes }) (relinked_block given (block_at d h))
renamed_block d h attributes bytes rename given attributes_are read same =
    let parts = by_block (get d.blocks h) in
    λ i. record { attributes = (attributes_are ∙ parts.0) i; body = Raw ((read ∙ (λ j. relinked (λ k. same k j) (parts.1 j))) i) }
  where
    by_block : (o : Option Block) → (option_map_or (λ b. b.attributes) o no_attributes ≡ (unwrap_or o no_block).attributes) × (option_map_or (λ b. bytes_of_body b.body) o [] ≡ bytes_of_body (unwrap_or o no_block).body)
    by_block None = (refl, refl)
    by_block (Some b) = (refl, refl)
