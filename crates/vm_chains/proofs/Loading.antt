-- Calls that load blocks, in turn.
use Rattle.std.proofs.Common.{◌≡◌, ◌⊎◌, ℕ, Bool, true, false, not, ◌&&◌, [], Option, Some, None, Result, Ok, Err, IfErr, IsErrAnd, MatchResult, unwrap_or, refl, sym, ap, subst, ◌∙◌, inl, inr}
use Rattle.std.specs.Option.{option_map, option_map_or}
use Rattle.std.proofs.lemmas.Bool.{true≢false}
use Rattle.vm_store.specs.Facts.{StoreFacts}
use Rattle.geos_model.specs.Chain.{is_linked}
use Rattle.geos_model.specs.declared.command.Body.{Body}
use Rattle.std.specs.FinMap.{get}
use Rattle.vm_chains.proofs.WalkLemmas.{and_false}
use Rattle.geos_model.specs.Document.{Block, Document, block_at, bytes_of_body, is_heap_body, is_live, attributes_of, no_attributes, no_block}
use Rattle.geos_model.specs.declared.fault.Fault.{Fault}
use Rattle.geos_model.specs.declared.fault.Fault.TheVariants.{Damaged, NoBlock}
use Rattle.geos_model.specs.declared.block.Attributes.{Attributes}
use Rattle.vm_blocks.specs.State.{CacheState}
use Rattle.vm_blocks.specs.Keeping.{KeepsBlocks, IsHonest, IsEnvironmentFault, IsCacheFull, is_full}
use Rattle.vm_blocks.proofs.KeepingLaws.{keeps-unless_corrupt, keeps-full, keeps-same, keeps-was_steady, lacks-damaged, open-shut}

-- the fault that `?` hands on
pub carried : {A : Type 0} (result : Result A Fault) (fault : Fault) (P : A → Type 0) (Q : Fault → Type 0) → IsErrAnd result (λ e. e ≡ fault) → Q fault → MatchResult result P Q
carried (Ok x) fault P Q is refused = absurd is
carried (Err e) fault P Q is refused = subst Q (sym is) refused

pub carried_so : {A : Type 0} (result : Result A Fault) (fault : Fault) (Q : Fault → Type 0) → IsErrAnd result (λ e. e ≡ fault) → Q fault → IfErr result Q
carried_so (Ok x) fault Q is refused = absurd is
carried_so (Err e) fault Q is refused = subst Q (sym is) refused

pub refused_later : {A : Type 0} (result : Result A Fault) (P : A → Type 0) (Q R : Fault → Type 0) → MatchResult result P Q → ((fault : Fault) → Q fault → R fault) → IfErr result R
refused_later (Ok x) P Q R is turn = tt
refused_later (Err fault) P Q R is turn = turn fault is

-- The body of a block.

pub heap_there : (o : Option Block) (body : Body) → option_map (λ b. b.body) o ≡ Some body → is_heap_body body ≡ true → option_map_or (λ b. not (is_heap_body b.body)) o false ≡ false
heap_there None body e heap = refl
heap_there (Some b) body e heap = let same : b.body ≡ body = cc e in ap (λ (x : Body). not (is_heap_body x)) same ∙ ap not heap

pub unlinked_there : (o : Option Block) (body : Body) → option_map (λ b. b.body) o ≡ Some body → is_linked (bytes_of_body body) ≡ false
    → (option_map_or (λ b. not (is_heap_body b.body)) o false && is_linked (option_map_or (λ b. bytes_of_body b.body) o [])) ≡ false
unlinked_there None body e none = refl
unlinked_there (Some b) body e none =
    let same : b.body ≡ body = cc e in
    ap (λ (x : Body). not (is_heap_body x) && is_linked (bytes_of_body x)) same ∙ ap (λ (l : Bool). not (is_heap_body body) && l) none ∙ and_false (not (is_heap_body body))

-- the block that stands under a handle, by what is read of it
pub block_read : (d : Document) (h : ℕ) (attributes : Attributes) (body : Body) → attributes ≡ attributes_of d h → option_map (λ b. b.body) (get d.blocks h) ≡ Some body → record { attributes = attributes; body = body } ≡ block_at d h
block_read d h attributes body is read = by_block (get d.blocks h) is read
  where
    by_block : (o : Option Block) → attributes ≡ option_map_or (λ (b : Block). b.attributes) o no_attributes → option_map (λ (b : Block). b.body) o ≡ Some body
        → record { attributes = attributes; body = body } ≡ unwrap_or o no_block
    by_block None same there = absurd (cc there)
    by_block (Some b) same there = let has : body ≡ b.body = cc there in λ i. record { attributes = same i; body = has i }

module _ {S : Type 0} (facts : S → StoreFacts) (a b : CacheState S) (keeps : KeepsBlocks facts a b) where
  -- What is known by handle stays.

  pub still_live : (h : ℕ) → is_live a.document h ≡ true → is_live b.document h ≡ true
  still_live h live = (keeps-unless_corrupt facts a b keeps).live h ∙ live

  pub still_room : is_full a ≡ false → is_full b ≡ false
  still_room room = keeps-full facts a b keeps ∙ room

  -- What is known of bodies stays over a steady store.

  pub still : (P : Document → Type 0) → (IsHonest facts a.disk.store → P a.document) → IsHonest facts a.disk.store → P b.document
  still P was steady = subst P (sym (keeps-same facts a b keeps steady)) (was steady)

  pub still_then : (P : Document → Type 0) → (IsHonest facts a.disk.store → P a.document) → IsHonest facts b.disk.store → P b.document
  still_then P was steady = still P was (keeps-was_steady facts a b keeps steady)

  -- a live block for which there is room is loaded, or what a load needs is lacking
  pub load_lacks : (h : ℕ) (fault : Fault) → is_full a ≡ false → is_live a.document h ≡ true
      → IsEnvironmentFault facts a.disk.store b.disk.store fault ⊎ (((fault ≡ NoBlock) × (is_live b.document h ≡ false)) ⊎ IsCacheFull a h fault) → IsEnvironmentFault facts a.disk.store b.disk.store fault
  load_lacks h fault room live refused = elim refused as (λ _. IsEnvironmentFault facts a.disk.store b.disk.store fault) [
    | inl lacks ↦ lacks
    | inr other ↦ elim other as (λ _. IsEnvironmentFault facts a.disk.store b.disk.store fault) [
      | inl none ↦ absurd (true≢false (sym (still_live h live) ∙ none.1))
      | inr full ↦ absurd (true≢false (sym full.1 ∙ open-shut a h room))
    ]
  ]

  -- a block that isn't what it was comes from a store that isn't honest
  pub other_now : (test : Document → Bool) → (IsHonest facts a.disk.store → test a.document ≡ true) → test b.document ≡ false → IsEnvironmentFault facts a.disk.store b.disk.store Damaged
  other_now test was is = lacks-damaged facts a.disk.store b.disk.store (λ steady. true≢false (sym (still (λ d. test d ≡ true) was steady) ∙ is))
