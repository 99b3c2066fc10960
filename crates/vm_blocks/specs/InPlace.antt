-- A block in memory that is used, and a part of its body that is changed in place.
use Rattle.std.specs.Prelude.{◌≡◌, ℕ, Bool, true, false, nat_eq, Option, MatchBool, MatchOption}
use Rattle.geos_model.specs.Document.{block_at}
use Rattle.lru.specs.LruCache.{promoted}
use Rattle.vm_blocks.specs.Changes.{after_part}
use Rattle.vm_blocks.specs.Keeping.{is_loaded}
use Rattle.vm_blocks.specs.Parts.{AllowsPart}
use Rattle.vm_blocks.specs.State.{CacheState}
use Rattle.vm_blocks.specs.declared.change.PartChange.{PartChange}

-- with a block that is in memory as the one that was used last
abbrev pub used_last : {S : Type 0} → CacheState S → ℕ → CacheState S
used_last state h = record state { resident = promoted (nat_eq h) state.resident }

-- The change of a part was made in the body of a block, or nothing is, since the body doesn't take it.
abbrev pub TriesPart : {S : Type 0} → ℕ → PartChange → CacheState S → CacheState S → Bool → Type 0
TriesPart h part old new made =
    MatchBool made
    (AllowsPart part (block_at old.document h).body × (new ≡ record old { document = after_part h part old.document }))
    ((AllowsPart part (block_at old.document h).body → ⊥) × (new ≡ old))

-- That is tried where the block is in memory, which is the one that was used last then. Where it isn't nothing changes.
abbrev pub TriesPartInMemory : {S : Type 0} → ℕ → PartChange → CacheState S → CacheState S → Option Bool → Type 0
TriesPartInMemory h part old new result =
    MatchOption result
    ((is_loaded old h ≡ false) × (new ≡ old))
    (λ made. (is_loaded old h ≡ true) × TriesPart h part (used_last old h) new made)
