-- Laws of chains.
use Rattle.std.specs.Prelude.{◌≡◌, ◌↔◌, ◌⊎◌, ◌+◌, ◌<◌, ◌≤◌, ℕ, List, [], ◌∷◌, ◌++◌, Bool, true, false, ◌&&◌, nat_lt, length, map, get_or, Some, None}
use Rattle.std.specs.List.{Contains, list_all, range_with_len}
use Rattle.std.specs.FinMap.{get}
use Rattle.geos_model.specs.Words.{word_at}
use Rattle.geos_model.specs.Refusal.{first_refusal}
use Rattle.geos_model.specs.ElementArray.{all_distinct}
use Rattle.geos_model.specs.Document.{Document, IsValid, is_vm_handle, is_live, is_raw, raw_bytes_of, attributes_of, with_blocks}
use Rattle.geos_model.specs.Chain.{tree_mark, is_linked, link_count, first_link, link_place, links, relinked, is_member, chain, same_shape, free_handles, new_handles, copies_of}
use Rattle.geos_model.specs.Meaning.{conditions, effect}
use Rattle.geos_model.specs.declared.handle.VmHandle.{VmHandle}
use Rattle.geos_model.specs.declared.command.Done.{Done}
use Rattle.geos_model.specs.declared.command.Done.TheVariants as done
use Rattle.geos_model.specs.declared.command.Edit.TheVariants as edits

-- The blocks of the chains that begin at these handles, in order. Where there is no handle there is no block. The chain
-- at the first handle is its block and what that links to, and the other chains come behind it.
pub data IsForest (d : Document) : List ℕ → List ℕ → Type 0 where
  nothing : IsForest d [] []
  block : (h : ℕ) (more below rest : List ℕ) → is_member d h ≡ true → IsForest d (links (raw_bytes_of d h)) below
      → IsForest d more rest
      → IsForest d (h ∷ more) (h ∷ (below ++ rest))

-- those of one chain, none of them twice
pub record IsWalk (d : Document) (h : ℕ) (hs : List ℕ) : Type 0 where
  pub forest : IsForest d (h ∷ []) hs
  pub once : all_distinct hs ≡ true

-- The first is where the chain begins, each is a live raw block that a chain can have, none is there twice, and what
-- one of them links to is one of them.
pub record AreMembers (d : Document) (h : ℕ) (hs : List ℕ) : Type 0 where
  pub first : (rest : List ℕ) × (hs ≡ h ∷ rest)
  pub live : (x : ℕ) → Contains hs x → is_live d x ≡ true
  pub raw : (x : ℕ) → Contains hs x → is_raw d x ≡ true
  pub member : (x : ℕ) → Contains hs x → is_member d x ≡ true
  pub once : all_distinct hs ≡ true
  pub linked : (x y : ℕ) → Contains hs x → Contains (links (raw_bytes_of d x)) y → Contains hs y

-- each is less than those behind it
abbrev pub handles_rise : List ℕ → Bool
handles_rise [] = true
handles_rise (x ∷ xs) = list_all (nat_lt x) xs && handles_rise xs

-- The least VM handles that aren't live, so many, each once, rising.
pub record AreNew (d : Document) (n : ℕ) (new : List ℕ) : Type 0 where
  pub as_many : length new ≡ n
  pub handle : (x : ℕ) → Contains new x → is_vm_handle x ≡ true
  pub not_live : (x : ℕ) → Contains new x → is_live d x ≡ false
  pub once : all_distinct new ≡ true
  pub rising : handles_rise new ≡ true
  pub least : (x y : ℕ) → is_vm_handle x ≡ true → is_live d x ≡ false → (Contains new x → ⊥) → Contains new y → y < x

-- the words where a body's links stand, 0 too
abbrev pub link_words : List ℕ → List ℕ
link_words bytes = map (λ i. word_at bytes (link_place bytes i)) (range_with_len 0 (link_count bytes))

-- a byte of a body that is of none of its links
abbrev pub IsOfNoLink : List ℕ → ℕ → Type 0
IsOfNoLink bytes k = (i : ℕ) → i < link_count bytes → (k < link_place bytes i) ⊎ (link_place bytes i + 2 ≤ k)

-- A body of as many bytes with its links at the same places, each renamed, and the other bytes as they were.
pub record IsRelinked (rename : ℕ → ℕ) (old new : List ℕ) : Type 0 where
  pub long : length new ≡ length old
  pub linked : is_linked new ≡ true
  pub count : link_count new ≡ link_count old
  pub first : first_link new ≡ first_link old
  pub words : link_words new ≡ map rename (link_words old)
  pub others : (k : ℕ) → IsOfNoLink old k → get_or new k 0 ≡ get_or old k 0

-- A document with a copy of these blocks under new handles: it is valid, all else is as it was, each copy has the
-- attributes of its block, the copy of the first block begins a chain of the new handles in the same order, and the two
-- chains have the same shape.
pub record IsCopied (old : Document) (hs new : List ℕ) (copied : Document) : Type 0 where
  pub valid : IsValid copied
  pub map_block : copied.map_block ≡ old.map_block
  pub others : (x : ℕ) → (Contains new x → ⊥) → get copied.blocks x ≡ get old.blocks x
  pub attributes : (i : ℕ) → i < length hs → attributes_of copied (get_or new i 0) ≡ attributes_of old (get_or hs i 0)
  pub kept : chain copied (get_or hs 0 0) ≡ Some hs
  pub chained : chain copied (get_or new 0 0) ≡ Some new
  pub same : same_shape copied hs new ≡ true

-- A document without these blocks: it is valid, and all else is as it was.
pub record IsFreed (old : Document) (hs : List ℕ) (freed : Document) : Type 0 where
  pub valid : IsValid freed
  pub map_block : freed.map_block ≡ old.map_block
  pub gone : (x : ℕ) → Contains hs x → is_live freed x ≡ false
  pub others : (x : ℕ) → (Contains hs x → ⊥) → get freed.blocks x ≡ get old.blocks x

-- A link of a chain's block and one of another chain's: neither links to a block, or both to those at one place of
-- their chains.
abbrev pub AreAlike : List ℕ → List ℕ → ℕ → ℕ → Type 0
AreAlike xs ys v w = ((v ≡ 0) × (w ≡ 0)) ⊎ ((i : ℕ) × (i < length xs) × (get_or xs i 0 ≡ v) × (get_or ys i 0 ≡ w))

-- the body of a block of one chain and that of another: as long, with links at the same places and alike, and the same
-- other bytes
pub record AreSameBodies (xs ys left right : List ℕ) : Type 0 where
  pub long : length right ≡ length left
  pub count : link_count right ≡ link_count left
  pub first : first_link right ≡ first_link left
  pub alike : (i : ℕ) → i < link_count left
      → AreAlike xs ys (word_at left (link_place left i)) (word_at right (link_place right i))
  pub others : (k : ℕ) → IsOfNoLink left k → get_or right k 0 ≡ get_or left k 0

-- as many blocks, in the same order with the same bodies
pub record HaveSameShape (d : Document) (xs ys : List ℕ) : Type 0 where
  pub as_many : length ys ≡ length xs
  pub bodies : (i : ℕ) → i < length xs
      → AreSameBodies xs ys (raw_bytes_of d (get_or xs i 0)) (raw_bytes_of d (get_or ys i 0))

pub record ChainLaw : Type 0 where
  pub walk : (d : Document) (h : ℕ) (hs : List ℕ) → IsValid d → chain d h ≡ Some hs ↔ IsWalk d h hs
  pub members : (d : Document) (h : ℕ) (hs : List ℕ) → chain d h ≡ Some hs → AreMembers d h hs
  pub handles : (d : Document) (n : ℕ) → n ≤ length (free_handles d) → AreNew d n (new_handles d n)
  pub relinked : (rename : ℕ → ℕ) (bytes : List ℕ) → is_linked bytes ≡ true → ((x : ℕ) → rename x < tree_mark)
      → IsRelinked rename bytes (relinked rename bytes)
  pub shapes : (d : Document) (x y : ℕ) (xs ys : List ℕ) → IsValid d → chain d x ≡ Some xs → chain d y ≡ Some ys
      → same_shape d xs ys ≡ true ↔ HaveSameShape d xs ys
  pub copy : (d : Document) (h : ℕ) (hs : List ℕ) → IsValid d → chain d h ≡ Some hs
      → length hs ≤ length (free_handles d)
      → IsCopied d hs (new_handles d (length hs)) (with_blocks d (copies_of d hs))

-- An edit copies the chain that begins at a handle, under the least free handles, and answers that of its first block's
-- copy.
pub record CopiesChain (d : Document) (h : ℕ) (after : Document × Done) : Type 0 where
  pub hs : List ℕ
  pub new : List ℕ
  pub is : chain d h ≡ Some hs
  pub fresh : AreNew d (length hs) new
  pub copied : IsCopied d hs new after.0
  pub answer : after.1 ≡ done.Block (record { 0 = get_or new 0 0 })

-- An edit frees the chain that begins at a handle.
pub record FreesChain (d : Document) (h : ℕ) (after : Document × Done) : Type 0 where
  pub hs : List ℕ
  pub is : chain d h ≡ Some hs
  pub freed : IsFreed d hs after.0
  pub answer : after.1 ≡ done.Nothing

-- What edits of chains come to, where nothing refuses them.
pub record ChainEditsLaw : Type 0 where
  pub copy : (d : Document) (b : VmHandle) → IsValid d → first_refusal (conditions (edits.CopyChain b) d) ≡ None
      → CopiesChain d b.0 (effect (edits.CopyChain b) d)
  pub free : (d : Document) (b : VmHandle) → IsValid d → first_refusal (conditions (edits.FreeChain b) d) ≡ None
      → FreesChain d b.0 (effect (edits.FreeChain b) d)
