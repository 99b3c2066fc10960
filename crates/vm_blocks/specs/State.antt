-- What callers see of a cache.
use Rattle.std.specs.Prelude.{◌≡◌, ℕ, ◌==◌, Bool, not, nat_eq, nat_le, nat_lt, cond, List, [], ◌∷◌, length, count_by, Option, Some, None, is_some, unwrap_or, refl}
use Rattle.std.specs.Option.{option_map_or}
use Rattle.std.specs.Map.{lookup, remove_entry}
use Rattle.std.specs.Coded.{Coded, code_by, coded×, coded_ℕ, coded_list}
use Rattle.vm_store.specs.Facts.{StoreFacts}
use Rattle.geos_model.specs.Document.{Document}
use Rattle.geos_model.proofs.Codes.{document_code}
use Rattle.document_file.specs.Disk.{Disk, FileState, disk_code, SameUnlessCorrupt, MarkSameUnlessCorrupt, KeepsCommitted, unmarked}
use Rattle.document_file.specs.Effects.{LeavesDocument}
use Rattle.lru.specs.LruCache.{promoted}

-- A block in memory: its handle, and how often it is locked.
abbrev pub ResidentBlock : Type 0
ResidentBlock = ℕ × ℕ

-- The disk, the document as it is now, those of its blocks that are in memory, the most recently used first, and how
-- many may be.
pub record CacheState (S : Type 0) : Type 0 where
  pub disk : Disk S
  pub document : Document
  pub resident : List ResidentBlock
  pub frames : ℕ

abbrev pub cache_state_code : {S : Type 0} → Coded S → Coded (CacheState S)
cache_state_code {S} s =
    code_by (Disk S × (Document × (List (ℕ × ℕ) × ℕ)))
    (coded× (disk_code s) (coded× document_code (coded× (coded_list (coded× coded_ℕ coded_ℕ)) coded_ℕ)))
    (λ c. (c.disk, (c.document, (c.resident, c.frames))))
    (λ p. record { disk = p.0; document = p.1.0; resident = p.1.1.0; frames = p.1.1.1 }) (λ _. refl)

abbrev pub is_resident : List ResidentBlock → ℕ → Bool
is_resident residents h = is_some (lookup (nat_eq h) residents)

-- how often a block is locked, 0 where it isn't in memory
abbrev pub locks_of : List ResidentBlock → ℕ → ℕ
locks_of residents h = unwrap_or (lookup (nat_eq h) residents) 0

abbrev pub is_block_locked : ResidentBlock → Bool
is_block_locked s = not (s.1 == 0)

abbrev pub locked_count : List ResidentBlock → ℕ
locked_count residents = count_by is_block_locked residents

-- each frame has a locked block
abbrev pub all_frames_locked : ℕ → List ResidentBlock → Bool
all_frames_locked frames residents = nat_le frames (locked_count residents)

-- the least recently used block that isn't locked
abbrev pub victim : List ResidentBlock → Option ℕ
victim [] = None
victim (s ∷ ss) = option_map_or (λ h. Some h) (victim ss) (cond (is_block_locked s) None (Some s.0))

-- without it
abbrev pub evicted : List ResidentBlock → List ResidentBlock
evicted residents = option_map_or (λ h. remove_entry (nat_eq h) residents) (victim residents) residents

-- What is in memory once a block was loaded: that block first. Where it wasn't there and each frame was taken, the
-- least recently used one that isn't locked had to go.
abbrev pub after_load : ℕ → ℕ → List ResidentBlock → List ResidentBlock
after_load frames h residents =
    cond (is_resident residents h) (promoted (nat_eq h) residents)
    ((h, 0) ∷ cond (nat_lt (length residents) frames) residents (evicted residents))

-- Each block is locked as often as before, one that isn't in memory not at all, so that as many are locked.
pub record KeepsLocks (old new : List ResidentBlock) : Type 0 where
  pub each : (h : ℕ) → locks_of new h ≡ locks_of old h
  pub count : locked_count new ≡ locked_count old

-- The cache as a file, whose document is the one that callers see.
abbrev pub as_file : {S : Type 0} → CacheState S → FileState S
as_file c = record { disk = c.disk; document = c.document }

-- A call that commits nothing and keeps the document, over any store as many frames.
pub record KeepsDocument {S : Type 0} (facts : S → StoreFacts) (old new : CacheState S) : Type 0 where
  pub file : LeavesDocument facts old.document (as_file old) (as_file new)
  pub frames : new.frames ≡ old.frames

-- The document was marked, and stays; nothing was committed, over any store as many frames.
pub record Marks {S : Type 0} (facts : S → StoreFacts) (old new : CacheState S) : Type 0 where
  pub passes : KeepsCommitted facts old.disk (unmarked new.disk)
  pub document : SameUnlessCorrupt (facts old.disk.store).honest old.document new.document
  pub marked : MarkSameUnlessCorrupt (facts old.disk.store).honest (Some old.document) new.disk.marked
  pub frames : new.frames ≡ old.frames
