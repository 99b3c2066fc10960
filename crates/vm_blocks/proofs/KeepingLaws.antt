-- Laws of what a call leaves that may bring blocks into memory.
use Rattle.std.proofs.Common.{◌≡◌, ◌⊎◌, ℕ, Bool, IsTrue, not, Option, None, Some, is_some, true, false, ap, inl, inr, refl, sym, subst, ◌∙◌, arith, eq-eqb, eqb-true, ltb-false}
use Rattle.std.specs.Prelude.{Result, Ok, Err, IfErr, ◌==◌, ◌&&◌, ◌≤◌, ◌<◌, nat_le, nat_lt, length}
use Rattle.std.proofs.lemmas.Bool.{and_parts, cases_Bool}
use Rattle.vm_store.specs.Facts.{StoreFacts, FailedSince}
use Rattle.std.specs.Option.{option_map_or}
use Rattle.geos_model.specs.Document.{Block, is_heap_body, is_live}
use Rattle.geos_model.specs.declared.fault.Fault.{Fault}
use Rattle.geos_model.specs.declared.fault.Fault.TheVariants.{Damaged, File, Memory}
use Rattle.document_file.specs.Disk.{KeepsCommitted, SameUnlessCorrupt}
use Rattle.document_file.specs.Effects.{IsDamage}
use Rattle.document_file.proofs.PassingLemmas.{KeepsCommitted-refl, KeepsCommitted-trans, SameUnlessCorrupt-refl, SameUnlessCorrupt-trans}
use Rattle.vm_blocks.specs.State.{CacheState, is_resident, locks_of, locked_count, all_frames_locked, KeepsLocks, KeepsDocument}
use Rattle.vm_blocks.proofs.Locks.{keeps_refl, each_locked}
use Rattle.vm_blocks.proofs.OrderOfUse.{locked_there, some_free}
use Rattle.vm_blocks.specs.Keeping.{KeepsBlocks, IsHonest, IsEnvironmentFault, IsCacheFull, is_loaded, is_full, has_no_frame_for}
use Rattle.vm_blocks.proofs.Residents.{both}

module _ {S : Type 0} (facts : S → StoreFacts) where
  pub keeps-refl : (a : CacheState S) → KeepsBlocks facts a a
  unfolding KeepsBlocks
  keeps-refl a = (record { file = record { passes = KeepsCommitted-refl facts a.disk; document = SameUnlessCorrupt-refl _ _ }; frames = refl }, keeps_refl a.resident)

  pub keeps-is : (a b : CacheState S) → b ≡ a → KeepsBlocks facts a b
  keeps-is a b is = subst (KeepsBlocks facts a) (sym is) (keeps-refl a)

  pub keeps-trans : (a b c : CacheState S) → KeepsBlocks facts a b → KeepsBlocks facts b c → KeepsBlocks facts a c
  unfolding KeepsBlocks
  keeps-trans a b c p q = (
    record {
      file = record {
        passes = KeepsCommitted-trans facts a.disk b.disk c.disk p.0.file.passes q.0.file.passes;
        document = SameUnlessCorrupt-trans _ _ _ _ p.0.file.document (subst (λ (t : Bool). SameUnlessCorrupt t b.document c.document) p.0.file.passes.honest q.0.file.document);
      };
      frames = q.0.frames ∙ p.0.frames;
    },
    record { each = λ h. q.1.each h ∙ p.1.each h; count = q.1.count ∙ p.1.count },
  )

  pub keeps-passes : (a b : CacheState S) → KeepsBlocks facts a b → KeepsCommitted facts a.disk b.disk
  unfolding KeepsBlocks
  keeps-passes a b p = p.0.file.passes

  pub keeps-unless_corrupt : (a b : CacheState S) → KeepsBlocks facts a b → SameUnlessCorrupt (facts a.disk.store).honest a.document b.document
  unfolding KeepsBlocks
  keeps-unless_corrupt a b p = p.0.file.document

  pub keeps-frames : (a b : CacheState S) → KeepsBlocks facts a b → b.frames ≡ a.frames
  unfolding KeepsBlocks
  keeps-frames a b p = p.0.frames

  pub keeps-stays : (a b : CacheState S) → KeepsBlocks facts a b → KeepsDocument facts a b
  unfolding KeepsBlocks
  keeps-stays a b p = p.0

  pub keeps-locks : (a b : CacheState S) → KeepsBlocks facts a b → KeepsLocks a.resident b.resident
  unfolding KeepsBlocks
  keeps-locks a b p = p.1

  pub keeps-by : (a b : CacheState S) → KeepsDocument facts a b → KeepsLocks a.resident b.resident → KeepsBlocks facts a b
  unfolding KeepsBlocks
  keeps-by a b stays locks = (stays, locks)

  -- the same blocks can be brought into memory
  pub keeps-full : (a b : CacheState S) → KeepsBlocks facts a b → is_full b ≡ is_full a
  unfolding KeepsBlocks is_full
  keeps-full a b p = ap (λ n. all_frames_locked n b.resident) p.0.frames ∙ ap (nat_le a.frames) p.1.count

  pub keeps-shut : (a b : CacheState S) → KeepsBlocks facts a b → (h : ℕ) → has_no_frame_for b h ≡ has_no_frame_for a h
  unfolding KeepsBlocks has_no_frame_for
  keeps-shut a b p h = ap (λ t. t && (locks_of b.resident h == 0)) (keeps-full a b p) ∙ ap (λ n. is_full a && (n == 0)) (p.1.each h)

  -- over a store that gives back what it has
  pub keeps-same : (a b : CacheState S) → KeepsBlocks facts a b → IsHonest facts a.disk.store → b.document ≡ a.document
  unfolding KeepsBlocks IsHonest
  keeps-same a b p steady = p.0.file.document.same steady

  pub keeps-steady : (a b : CacheState S) → KeepsBlocks facts a b → IsHonest facts a.disk.store → IsHonest facts b.disk.store
  unfolding KeepsBlocks IsHonest
  keeps-steady a b p steady = subst IsTrue (sym p.0.file.passes.honest) steady

  -- and it was so before
  pub keeps-was_steady : (a b : CacheState S) → KeepsBlocks facts a b → IsHonest facts b.disk.store → IsHonest facts a.disk.store
  unfolding KeepsBlocks IsHonest
  keeps-was_steady a b p steady = subst IsTrue p.0.file.passes.honest steady

  -- as an honest one does, and no other is known to
  pub honest-steady : (a : S) → IsTrue (facts a).honest → IsHonest facts a
  unfolding IsHonest
  honest-steady a so = so

  pub steady-honest : (a : S) → IsHonest facts a → IsTrue (facts a).honest
  unfolding IsHonest
  steady-honest a steady = steady

  pub lacks-memory : (a b : S) → IsEnvironmentFault facts a b Memory
  unfolding IsEnvironmentFault
  lacks-memory a b = inl refl

  -- the store failed in this call
  pub lacks-file : (a b : S) (fault : Fault) → (fault ≡ File) × FailedSince (facts a) (facts b) → IsEnvironmentFault facts a b fault
  unfolding IsEnvironmentFault
  lacks-file a b fault failed = inr (inl failed)

  -- what is read and can't be, over a store that isn't honest
  pub lacks-damaged : (a b : S) → (IsHonest facts a → ⊥) → IsEnvironmentFault facts a b Damaged
  unfolding IsHonest IsEnvironmentFault
  lacks-damaged a b unless_corrupt = inr (inr (refl, unless_corrupt))

  -- it is one of the three
  pub lacks-cases : (a b : S) (fault : Fault) → IsEnvironmentFault facts a b fault → (fault ≡ Memory) ⊎ (((fault ≡ File) × FailedSince (facts a) (facts b)) ⊎ IsDamage (facts a).honest fault)
  unfolding IsEnvironmentFault
  lacks-cases a b fault lacks = lacks

  pub steady-on : (a b : S) → (facts b).honest ≡ (facts a).honest → IsHonest facts a → IsHonest facts b
  unfolding IsHonest
  steady-on a b same steady = subst IsTrue (sym same) steady

  -- a call that was refused after others of the same store
  pub lacks-since : (a b c : S) (fault : Fault) → (facts b).honest ≡ (facts a).honest → (facts a).failures ≤ (facts b).failures → IsEnvironmentFault facts b c fault → IsEnvironmentFault facts a c fault
  unfolding IsEnvironmentFault
  lacks-since a b c fault same first lacks = elim lacks as (λ _. (fault ≡ Memory) ⊎ (((fault ≡ File) × FailedSince (facts a) (facts c)) ⊎ IsDamage (facts a).honest fault)) [
    | inl memory ↦ inl memory
    | inr more ↦ inr (elim more as (λ _. ((fault ≡ File) × FailedSince (facts a) (facts c)) ⊎ IsDamage (facts a).honest fault) [
      | inl failed ↦ let raised = failed.1 in inl (failed.0, omega (arith, raised, first))
      | inr damage ↦ inr (damage.0, λ so. damage.1 (subst IsTrue (sym same) so))
    ])
  ]

  -- after others that were not
  pub lacks-later : (a b : CacheState S) (c : S) (fault : Fault) → KeepsBlocks facts a b → IsEnvironmentFault facts b.disk.store c fault → IsEnvironmentFault facts a.disk.store c fault
  lacks-later a b c fault p lacks = let passes = keeps-passes a b p in lacks-since a.disk.store b.disk.store c fault passes.honest passes.failures lacks

  -- and others after it
  pub lacks-before : (a : S) (b c : CacheState S) (fault : Fault) → KeepsBlocks facts b c → IsEnvironmentFault facts a b.disk.store fault → IsEnvironmentFault facts a c.disk.store fault
  unfolding KeepsBlocks IsEnvironmentFault
  lacks-before a b c fault p lacks = elim lacks as (λ _. (fault ≡ Memory) ⊎ (((fault ≡ File) × FailedSince (facts a) (facts c.disk.store)) ⊎ IsDamage (facts a).honest fault)) [
    | inl memory ↦ inl memory
    | inr more ↦ inr (elim more as (λ _. ((fault ≡ File) × FailedSince (facts a) (facts c.disk.store)) ⊎ IsDamage (facts a).honest fault) [
      | inl failed ↦ let raised = failed.1 in let last = p.0.file.passes.failures in inl (failed.0, omega (arith, raised, last))
      | inr damage ↦ inr damage
    ])
  ]

pub loaded-live : {S : Type 0} (state : CacheState S) (h : ℕ) → is_loaded state h ≡ true → is_live state.document h ≡ true
unfolding is_loaded
loaded-live state h loaded = (and_parts (is_resident state.resident h) (is_live state.document h) loaded).1

-- a block that is live and no heap is raw
pub raw_by : (o : Option Block) → is_some o ≡ true → option_map_or (λ (b : Block). is_heap_body b.body) o false ≡ false → option_map_or (λ (b : Block). not (is_heap_body b.body)) o false ≡ true
raw_by None live kind = absurd (cc live)
raw_by (Some b) live kind = ap not kind

pub loaded-by : {S : Type 0} (state : CacheState S) (h : ℕ) → is_resident state.resident h ≡ true → is_live state.document h ≡ true → is_loaded state h ≡ true
unfolding is_loaded
loaded-by state h there live = both (is_resident state.resident h) (is_live state.document h) there live

pub loaded-resident : {S : Type 0} (state : CacheState S) (h : ℕ) → is_loaded state h ≡ true → is_resident state.resident h ≡ true
unfolding is_loaded
loaded-resident state h loaded = (and_parts (is_resident state.resident h) (is_live state.document h) loaded).0

-- Where each frame has a locked block.

pub full-is : {S : Type 0} (state : CacheState S) → is_full state ≡ all_frames_locked state.frames state.resident
unfolding is_full
full-is state = refl

pub shut-is : {S : Type 0} (state : CacheState S) (h : ℕ) → has_no_frame_for state h ≡ (is_full state && (locks_of state.resident h == 0))
unfolding has_no_frame_for
shut-is state h = refl

pub shut-full : {S : Type 0} (state : CacheState S) (h : ℕ) → has_no_frame_for state h ≡ true → is_full state ≡ true
shut-full state h shut = (and_parts (is_full state) (locks_of state.resident h == 0) (sym (shut-is state h) ∙ shut)).0

pub shut-unlocked : {S : Type 0} (state : CacheState S) (h : ℕ) → has_no_frame_for state h ≡ true → locks_of state.resident h ≡ 0
shut-unlocked state h shut = eqb-true (locks_of state.resident h) 0 (and_parts (is_full state) (locks_of state.resident h == 0) (sym (shut-is state h) ∙ shut)).1

-- one that isn't locked is shut out
pub full-shut : {S : Type 0} (state : CacheState S) (h : ℕ) → is_full state ≡ true → locks_of state.resident h ≡ 0 → has_no_frame_for state h ≡ true
full-shut state h full none = shut-is state h ∙ both (is_full state) (locks_of state.resident h == 0) full (eq-eqb (locks_of state.resident h) 0 none)

pub open-shut : {S : Type 0} (state : CacheState S) (h : ℕ) → is_full state ≡ false → has_no_frame_for state h ≡ false
open-shut state h free = shut-is state h ∙ ap (λ t. t && (locks_of state.resident h == 0)) free

-- one that is locked isn't
pub locked-open : {S : Type 0} (state : CacheState S) (h : ℕ) → 0 < locks_of state.resident h → has_no_frame_for state h ≡ false
locked-open state h locked = elim (cases_Bool (has_no_frame_for state h)) as (λ _. has_no_frame_for state h ≡ false) [
  | inl shut ↦ let none = shut-unlocked state h shut in absurd (omega (arith, locked, none))
  | inr free ↦ free
]

-- nor is any that is in memory
pub resident-open : {S : Type 0} (state : CacheState S) (h : ℕ) → length state.resident ≤ state.frames → is_resident state.resident h ≡ true → has_no_frame_for state h ≡ false
resident-open state h few there = elim (cases_Bool (is_full state)) as (λ _. has_no_frame_for state h ≡ false) [
  | inl full ↦ locked-open state h (each_locked state.frames state.resident h few (sym (full-is state) ∙ full) there)
  | inr free ↦ open-shut state h free
]

-- and where none is locked there is room
pub none-open : {S : Type 0} (state : CacheState S) → 1 ≤ state.frames → nat_lt 0 (locked_count state.resident) ≡ false → is_full state ≡ false
none-open state some none = full-is state ∙ some_free state.frames state.resident (none_below (locked_count state.resident) none)
  where
    none_below : (n : ℕ) → nat_lt 0 n ≡ false → n < state.frames
    none_below n none = elim (cases_Bool (nat_lt 0 n)) as (λ _. n < state.frames) [
      | inl one ↦ absurd (cc (one, none))
      | inr _ ↦ let low = ltb-false 0 n none in omega (arith, low, some)
    ]

-- a locked block is in memory
pub locked-loaded : {S : Type 0} (state : CacheState S) (h : ℕ) → ((k : ℕ) → is_resident state.resident k ≡ true → is_live state.document k ≡ true) → 0 < locks_of state.resident h → is_loaded state h ≡ true
locked-loaded state h live locked = let there : is_resident state.resident h ≡ true = locked_there h state.resident locked in loaded-by state h there (live h there)

-- a block that isn't shut out is never refused so
pub frame-there : {S : Type 0} (state : CacheState S) (h : ℕ) (fault : Fault) → has_no_frame_for state h ≡ false → IsCacheFull state h fault → ⊥
frame-there state h fault free lacks = cc (lacks.1, free)

pub err-with_frame : {A S : Type 0} (state : CacheState S) (h : ℕ) (P Q : Fault → Type 0) (r : Result A Fault) → has_no_frame_for state h ≡ false
    → IfErr r (λ fault. P fault ⊎ (Q fault ⊎ IsCacheFull state h fault)) → IfErr r (λ fault. P fault ⊎ Q fault)
err-with_frame state h P Q (Ok done) free err = tt
err-with_frame state h P Q (Err fault) free err = elim err as (λ _. P fault ⊎ Q fault) [
  | inl one ↦ inl one
  | inr more ↦ elim more as (λ _. P fault ⊎ Q fault) [
    | inl other ↦ inr other
    | inr lacks ↦ absurd (frame-there state h fault free lacks)
  ]
]

pub err-open : {A S : Type 0} (state : CacheState S) (h : ℕ) (P : Fault → Type 0) (r : Result A Fault) → has_no_frame_for state h ≡ false → IfErr r (λ fault. P fault ⊎ IsCacheFull state h fault) → IfErr r P
err-open state h P (Ok done) free err = tt
err-open state h P (Err fault) free err = elim err as (λ _. P fault) [
  | inl one ↦ one
  | inr lacks ↦ absurd (frame-there state h fault free lacks)
]
