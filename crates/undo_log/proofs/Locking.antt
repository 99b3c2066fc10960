-- What locks do is a step of the machine, and what is lent of a locked block is what the machine lends.
use Rattle.std.proofs.Common.{◌≡◌, ◌≢◌, ◌⊎◌, ◌<◌, ◌≤◌, ◌+◌, ◌-◌, ◌==◌, ℕ, Bool, true, false, not, [], map, length, Option, None, Some, Result, Ok, Err, IfErr, OnOk, OnErr, inl, inr, refl, sym, ap, ◌∙◌, arith, eq-eqb, leb-true}
use Rattle.std.specs.Prelude.{nat_le, if◌then◌else◌}
use Rattle.std.specs.FinMap.{get, get-empty, empty, insert, remove}
use Rattle.std.specs.Ordering.{nat_cmp}
use Rattle.std.specs.Option.{option_map, option_map_or}
use Rattle.std.proofs.lemmas.Bool.{cases_Bool, cases_eq, cond-true, cond-false, leb-false, ne_eqb}
use Rattle.geos_model.specs.Document.{Block, is_live, is_heap_body, chunks_of_body, bytes_of_body}
use Rattle.geos_model.specs.ElementArray.{all_distinct}
use Rattle.geos_model.specs.Machine as machine
use Rattle.geos_model.specs.Machine.{AreValidLocks, Machine, Step, lock_count, most_locks}
use Rattle.geos_model.specs.Reply.{Accepted, NumberIs, Refused, reply_by}
use Rattle.geos_model.specs.declared.command.Body.{Body}
use Rattle.geos_model.specs.declared.command.Body.TheVariants as bodies
use Rattle.geos_model.specs.declared.command.Command.TheVariants as commands
use Rattle.geos_model.specs.declared.fault.Fault.{Fault}
use Rattle.geos_model.specs.declared.fault.Fault.TheVariants.{NoBlock, LockLimit, CacheFull}
use Rattle.geos_model.specs.declared.handle.VmHandle.{VmHandle}
use Rattle.geos_model.proofs.HeapEdits.{get-put_same, get-put_other, get-taken_same, get-taken_other}
use Rattle.vm_store.specs.Facts.{StoreFacts}
use Rattle.vm_blocks.specs.State.{CacheState, is_resident, locks_of}
use Rattle.vm_blocks.proofs.OrderOfUse.{fewer_locked, locked_there}
use Rattle.vm_blocks.specs.Keeping.{KeepsBlocks, IsEnvironmentFault, has_no_frame_for}
use Rattle.vm_blocks.specs.Locking.{CantLock, GainsLock, HasNoLock, LosesLock}
use Rattle.vm_blocks.proofs.KeepingLaws.{shut-unlocked}
use Rattle.undo_log.specs.Logging.{Log}
use Rattle.undo_log.specs.Sessions.{SessionState, cache_of, failed_since, locks_in, machine_of, IsStep, KeepsSession}
use Rattle.undo_log.proofs.Keeping.{Holds, drifted_listed, gives_up, kept_exact, kept_invariant, kept_machine, machine_is, none_marked, same_exact}
use Rattle.undo_log.proofs.Locks.{as_locked, is_locked-is, is_shut_out-is, lock_count-is, same_locks, get-locks, len-locks}

-- A block is locked once more.

-- where nothing refuses it
record CanLock {S : Type 0} (s : SessionState S) (b : ℕ) : Type 0 where
  live : is_live s.document b ≡ true
  few : (locks_of s.resident b == most_locks) ≡ false
  place : has_no_frame_for (cache_of s) b ≡ false

-- which is so where it was accepted
can_lock : {S : Type 0} (s : SessionState S) (b : ℕ) → ((fault : Fault) → CantLock (cache_of s) b fault → ⊥) → CanLock s b
can_lock s b none = elim (cases_Bool (is_live s.document b)) as (λ _. CanLock s b) [
  | inr dead ↦ absurd (none NoBlock (inl (refl, dead)))
  | inl live ↦ record {
    live = live;
    few = ne_eqb (locks_of s.resident b) most_locks (λ all. none LockLimit (inr (inl (refl, live, all))));
    place = elim (cases_Bool (has_no_frame_for (cache_of s) b)) as (λ _. has_no_frame_for (cache_of s) b ≡ false) [
      | inl shut ↦ absurd (none CacheFull (inr (inr (live, (refl, shut)))))
      | inr place ↦ place
    ];
  }
]

module _ {S : Type 0} (facts : S → StoreFacts) (old new : SessionState S) (b : VmHandle) (distinct : all_distinct (map (λ s. s.0) old.resident) ≡ true) where
  -- the map of locks with one more
  locks_more : (target : Bool) → GainsLock facts b.0 (cache_of old) (cache_of new) → insert (locks_in old.resident) b.0 (lock_count (machine_of target old) b.0 + 1) ≡ locks_in new.resident
  locks_more target gains = same_locks _ new.resident (λ h. elim (cases_eq h b.0) [
    | inl at ↦
        get-put_same (locks_in old.resident) b.0 (lock_count (machine_of target old) b.0 + 1) h at
        ∙ ap (λ n. Some (n + 1)) (lock_count-is old target b.0)
        ∙ sym (ap as_locked (ap (locks_of new.resident) at ∙ gains.one) ∙ cond-false _ _ _ (ne_eqb (locks_of old.resident b.0 + 1) 0 (λ none. absurd (omega (arith, none)))))
    | inr other ↦
        get-put_other (locks_in old.resident) b.0 (lock_count (machine_of target old) b.0 + 1) h other ∙ get-locks old.resident h ∙ sym (ap as_locked (gains.others h other))
  ])

  module _ (log : new.log ≡ old.log) where
    locked_step : ((fault : Fault) → CantLock (cache_of old) b.0 fault → ⊥) → GainsLock facts b.0 (cache_of old) (cache_of new) → IsStep facts old new (commands.Lock b) Accepted
    locked_step none gains = λ exact.
        let so = exact.honest in
        let passes = gains.stays.file.passes in
        let document : new.document ≡ old.document = gains.stays.file.document.same so in
        let can = can_lock old b.0 none in (
          same_exact facts old new passes.honest document log exact,
          λ target.
              let few : (lock_count (machine_of target old) b.0 == most_locks) ≡ false = ap (λ n. n == most_locks) (lock_count-is old target b.0) ∙ can.few in
              let place : machine.is_shut_out (machine_of target old) b.0 ≡ false = is_shut_out-is old distinct target b.0 ∙ can.place in
              inl (rw (
                few,
                place,
                can.live,
                ← machine_is target old.document old.disk.updated old.disk.saved old.log (insert (locks_in old.resident) b.0 (lock_count (machine_of target old) b.0 + 1)) old.frames old.disk.sequence new
                    (sym document) (sym log) (sym (passes.updated so)) (sym (passes.saved so)) (locks_more target gains) (sym gains.stays.frames) (sym passes.sequence),
              ) refl),
        )

  -- it is refused for a rule
  cant_lock : (m : Machine) (target : Bool) (fault : Fault) → m ≡ machine_of target old → CantLock (cache_of old) b.0 fault → machine.next (Some (commands.Lock b)) (machine_of target old) ≡ Some (Refused fault, machine_of target old)
  cant_lock m target fault same cant = elim cant as (λ _. machine.next (Some (commands.Lock b)) (machine_of target old) ≡ Some (Refused fault, machine_of target old)) [
    | inl dead ↦ rw (dead.0, dead.1) refl
    | inr (inl many) ↦
        let all : (lock_count (machine_of target old) b.0 == most_locks) ≡ true = eq-eqb _ most_locks (lock_count-is old target b.0 ∙ many.2) in
        rw (many.0, many.1, all) refl
    | inr (inr full) ↦
        let none : lock_count (machine_of target old) b.0 ≡ 0 = lock_count-is old target b.0 ∙ shut-unlocked (cache_of old) b.0 full.1.1 in
        let few : (lock_count (machine_of target old) b.0 == most_locks) ≡ false = ap (λ n. n == most_locks) none in
        let shut : machine.is_shut_out (machine_of target old) b.0 ≡ true = is_shut_out-is old distinct target b.0 ∙ full.1.1 in
        rw (full.1.0, full.0, few, shut) refl
  ]

  pub lock_is : (result : Result (Unit {0}) Fault) → OnOk result (GainsLock facts b.0 (cache_of old) (cache_of new)) → OnErr result (KeepsSession facts old new)
      → IfErr result (λ fault. IsEnvironmentFault facts old.disk.store new.disk.store fault ⊎ CantLock (cache_of old) b.0 fault)
      → ((fault : Fault) → CantLock (cache_of old) b.0 fault → result ≡ Err fault) → new.log ≡ old.log
      → IsStep facts old new (commands.Lock b) (reply_by (λ _. Accepted) result)
  lock_is (Ok x) gains keeps refusals early log = locked_step log (λ fault cant. let wrong : Ok tt ≡ Err fault = early fault cant in absurd (cc wrong)) gains
  lock_is (Err fault) gains keeps refusals early log = λ exact. (
    kept_exact facts old new keeps exact,
    λ target.
        let same = kept_machine facts old new keeps target exact in
        elim refusals as (λ _. Step (failed_since (facts old.disk.store) (facts new.disk.store)) (machine_of target old) (Some (commands.Lock b)) (Refused fault) (machine_of target new)) [
          | inl lacks ↦ gives_up facts old.disk.store new.disk.store (machine_of target old) (machine_of target new) (commands.Lock b) fault exact.honest lacks same refl refl
          | inr cant ↦ inl (rw same (cant_lock (machine_of target old) target fault refl cant))
        ],
  )

-- What is known of the log stays, and no document is marked where none was.
pub lock_invariant : {S : Type 0} (facts : S → StoreFacts) (old new : CacheState S) (log : Log) (b : ℕ) (result : Result (Unit {0}) Fault) → OnOk result (GainsLock facts b old new) → OnErr result (KeepsBlocks facts old new)
    → Holds old log → Holds new log
lock_invariant facts old new log b (Ok x) gains keeps holds =
    (drifted_listed _ old.document new.document log gains.stays.file.document holds.0, none_marked _ old.disk.marked new.disk.marked holds.1 gains.stays.file.passes.marked)
lock_invariant facts old new log b (Err fault) gains keeps holds = kept_invariant facts old new log keeps holds

-- A lock is taken away, and asked for.
module _ {S : Type 0} (s : SessionState S) (b : VmHandle) where
  -- why there is none
  unlocked_next : (fault : Fault) (target : Bool) → HasNoLock (cache_of s) b.0 fault → (machine.next (Some (commands.Unlock b)) (machine_of target s) ≡ Some (Refused fault, machine_of target s))
      × (machine.next (Some (commands.Dirty b)) (machine_of target s) ≡ Some (Refused fault, machine_of target s))
  unlocked_next fault target none = elim none as (λ _. (machine.next (Some (commands.Unlock b)) (machine_of target s) ≡ Some (Refused fault, machine_of target s))
      × (machine.next (Some (commands.Dirty b)) (machine_of target s) ≡ Some (Refused fault, machine_of target s))) [
        | inl dead ↦ (rw (dead.0, dead.1) refl, rw (dead.0, dead.1) refl)
        | inr free ↦
            let out : machine.is_locked (machine_of target s) b.0 ≡ false = is_locked-is s target b.0 ∙ ap not (eq-eqb (locks_of s.resident b.0) 0 free.2) in
            (rw (free.0, free.1, out) refl, rw (free.0, free.1, out) refl)
      ]

  -- a block that has a lock
  record HasLock : Type 0 where
    live : is_live s.document b.0 ≡ true
    locked : (target : Bool) → machine.is_locked (machine_of target s) b.0 ≡ true

  has_lock : 0 < locks_of s.resident b.0 → ((fault : Fault) → HasNoLock (cache_of s) b.0 fault → ⊥) → HasLock
  has_lock some none = record {
    live = elim (cases_Bool (is_live s.document b.0)) as (λ _. is_live s.document b.0 ≡ true) [ inl live ↦ live | inr dead ↦ absurd (none NoBlock (inl (refl, dead))) ];
    locked = λ target. is_locked-is s target b.0 ∙ ap not (ne_eqb (locks_of s.resident b.0) 0 (λ free. absurd (omega (arith, some, free))));
  }

  pub dirty_is : (result : Result (Unit {0}) Fault) → OnOk result (0 < locks_of s.resident b.0) → IfErr result (HasNoLock (cache_of s) b.0) → ((fault : Fault) → HasNoLock (cache_of s) b.0 fault → result ≡ Err fault)
      → (target : Bool) → Step false (machine_of target s) (Some (commands.Dirty b)) (reply_by (λ _. Accepted) result) (machine_of target s)
  dirty_is (Ok x) some refusals early target =
      let has = has_lock some (λ fault none. let wrong : Ok tt ≡ Err fault = early fault none in absurd (cc wrong)) in
      inl (rw (has.live, has.locked target) refl)
  dirty_is (Err fault) some refusals early target = inl (unlocked_next fault target refusals).1

  -- how often it is locked
  pub locks_is : (target : Bool) → is_live s.document b.0 ≡ true → Step false (machine_of target s) (Some (commands.Locks b)) (NumberIs (locks_of s.resident b.0)) (machine_of target s)
  locks_is target live = inl (rw (live, ← lock_count-is s target b.0) refl)

  pub locks_dead : (target : Bool) → is_live s.document b.0 ≡ false → Step false (machine_of target s) (Some (commands.Locks b)) (Refused NoBlock) (machine_of target s)
  locks_dead target dead = inl (rw dead refl)

module _ {S : Type 0} (old new : SessionState S) (b : VmHandle) where
  -- the map of locks with one less
  locks_less : LosesLock b.0 (cache_of old) (cache_of new) → (n : ℕ) → n ≡ locks_of old.resident b.0
      → (if nat_le n 1 then remove (locks_in old.resident) b.0 else insert (locks_in old.resident) b.0 (n - 1)) ≡ locks_in new.resident
  locks_less loses n is = same_locks _ new.resident each
    where
      none_left : nat_le n 1 ≡ true → locks_of new.resident b.0 ≡ 0
      none_left few = let low = leb-true n 1 few in let one = loses.one in omega (arith, low, one, is)

      some_left : nat_le n 1 ≡ false → locks_of new.resident b.0 ≡ n - 1
      some_left many = let one = loses.one in omega (arith, one, is)

      at : (h : ℕ) → h ≡ b.0 → (few : Bool) → nat_le n 1 ≡ few → get (if few then remove (locks_in old.resident) b.0 else insert (locks_in old.resident) b.0 (n - 1)) h ≡ as_locked (locks_of new.resident h)
      at h here true few = get-taken_same (locks_in old.resident) b.0 h here ∙ sym (ap as_locked (ap (locks_of new.resident) here ∙ none_left few))
      at h here false many =
          let more = leb-false n 1 many in
          get-put_same (locks_in old.resident) b.0 (n - 1) h here
          ∙ sym (ap as_locked (ap (locks_of new.resident) here ∙ some_left many) ∙ cond-false _ _ _ (ne_eqb (n - 1) 0 (λ none. absurd (omega (arith, more, none)))))

      away : (h : ℕ) → h ≢ b.0 → (few : Bool) → get (if few then remove (locks_in old.resident) b.0 else insert (locks_in old.resident) b.0 (n - 1)) h ≡ as_locked (locks_of new.resident h)
      away h other true = get-taken_other (locks_in old.resident) b.0 h other ∙ get-locks old.resident h ∙ sym (ap as_locked (loses.others h other))
      away h other false = get-put_other (locks_in old.resident) b.0 (n - 1) h other ∙ get-locks old.resident h ∙ sym (ap as_locked (loses.others h other))

      each : (h : ℕ) → get (if nat_le n 1 then remove (locks_in old.resident) b.0 else insert (locks_in old.resident) b.0 (n - 1)) h ≡ as_locked (locks_of new.resident h)
      each h = elim (cases_eq h b.0) as (λ _. get (if nat_le n 1 then remove (locks_in old.resident) b.0 else insert (locks_in old.resident) b.0 (n - 1)) h ≡ as_locked (locks_of new.resident h)) [
        | inl here ↦ at h here (nat_le n 1) refl
        | inr other ↦ away h other (nat_le n 1)
      ]

  pub unlock_is : (result : Result (Unit {0}) Fault) → OnOk result (LosesLock b.0 (cache_of old) (cache_of new)) → OnErr result (new ≡ old) → IfErr result (HasNoLock (cache_of old) b.0)
      → ((fault : Fault) → HasNoLock (cache_of old) b.0 fault → result ≡ Err fault) → new.log ≡ old.log
      → (target : Bool) → Step false (machine_of target old) (Some (commands.Unlock b)) (reply_by (λ _. Accepted) result) (machine_of target new)
  unlock_is (Ok x) loses same refusals early log target =
      let has = has_lock old b loses.was (λ fault none. let wrong : Ok tt ≡ Err fault = early fault none in absurd (cc wrong)) in
      let m = machine_of target old in let is = loses.is in
      inl (rw (
        has.live,
        has.locked target,
        ← machine_is target old.document old.disk.updated old.disk.saved old.log
            (if nat_le (lock_count m b.0) 1 then remove (locks_in old.resident) b.0 else insert (locks_in old.resident) b.0 (lock_count m b.0 - 1)) old.frames old.disk.sequence new
            (sym (ap (λ (s : CacheState S). s.document) is)) (sym log)
            (sym (ap (λ (s : CacheState S). s.disk.updated) is)) (sym (ap (λ (s : CacheState S). s.disk.saved) is)) (locks_less loses (lock_count m b.0) (lock_count-is old target b.0))
            (sym (ap (λ (s : CacheState S). s.frames) is)) (sym (ap (λ (s : CacheState S). s.disk.sequence) is)),
      ) refl)
  unlock_is (Err fault) loses same refusals early log target = inl (rw same (unlocked_next old b fault target refusals).0)

-- a raw body has no chunks
no_chunks : (body : Body) → is_heap_body body ≡ false → (c : ℕ) → get (chunks_of_body body) c ≡ None
no_chunks (bodies.Raw bytes) raw c = get-empty nat_cmp c
no_chunks (bodies.Heap chunks) raw c = absurd (cc raw)

-- What is lent of a block.
module _ {S : Type 0} (s : SessionState S) (target : Bool) (b : ℕ) where
  -- nothing where it has no lock
  unlocked : locks_of s.resident b ≡ 0 → machine.is_locked (machine_of target s) b ≡ false
  unlocked none = is_locked-is s target b ∙ ap not (eq-eqb (locks_of s.resident b) 0 none)

  pub none_of_chunk : (c : ℕ) → locks_of s.resident b ≡ 0 → None ≡ machine.locked_chunk (machine_of target s) b c
  none_of_chunk c none = rw (unlocked none) refl

  pub none_of_raw : locks_of s.resident b ≡ 0 → None ≡ machine.locked_raw (machine_of target s) b
  none_of_raw none = rw (unlocked none) refl

  module _ (some : 0 < locks_of s.resident b) where
    locked : machine.is_locked (machine_of target s) b ≡ true
    locked = is_locked-is s target b ∙ ap not (ne_eqb (locks_of s.resident b) 0 (λ none. absurd (omega (arith, some, none))))

    body_of_block : (o : Option Block) (body : Body) → option_map (λ x. x.body) o ≡ Some body
        → (option_map_or (λ x. chunks_of_body x.body) o empty ≡ chunks_of_body body) × ((option_map_or (λ x. bytes_of_body x.body) o [] ≡ bytes_of_body body) × (option_map_or (λ x. not (is_heap_body x.body)) o false ≡ not (is_heap_body body)))
    body_of_block None body is = absurd (cc is)
    body_of_block (Some x) body is = let same : x.body ≡ body = cc is in (ap chunks_of_body same, (ap bytes_of_body same, ap (λ y. not (is_heap_body y)) same))

    module _ (body : Body) (is : option_map (λ x. x.body) (get s.document.blocks b) ≡ Some body) where
      pub chunk_of : (c : ℕ) → get (chunks_of_body body) c ≡ machine.locked_chunk (machine_of target s) b c
      chunk_of c = rw locked (ap (λ m. get m c) (sym (body_of_block (get s.document.blocks b) body is).0))

      pub raw_of : (if not (is_heap_body body) then Some (bytes_of_body body) else None) ≡ machine.locked_raw (machine_of target s) b
      raw_of = let found = (body_of_block (get s.document.blocks b) body is).1 in rw (locked, found.1, found.0) refl

      pub no_chunk_of : (c : ℕ) → is_heap_body body ≡ false → None ≡ machine.locked_chunk (machine_of target s) b c
      no_chunk_of c raw = sym (no_chunks body raw c) ∙ chunk_of c

-- Locks are always valid.
pub locks_valid : {S : Type 0} (s : SessionState S) (target : Bool) → all_distinct (map (λ x. x.0) s.resident) ≡ true → ((h : ℕ) → is_resident s.resident h ≡ true → is_live s.document h ≡ true)
    → ((h : ℕ) → locks_of s.resident h ≤ most_locks) → length s.resident ≤ s.frames → AreValidLocks (machine_of target s)
locks_valid s target distinct live few room = record {
  live = λ b n is. live b (locked_there b s.resident (positive b n is).0);
  count = λ b n is. let some = (positive b n is).0 in let most = few b in let same = (positive b n is).1 in (omega (arith, some, same), omega (arith, most, same));
  few = let all = len-locks s.resident distinct in let less = fewer_locked s.resident in omega (arith, all, less, room);
}
  where
    positive : (b n : ℕ) → get (locks_in s.resident) b ≡ Some n → (0 < locks_of s.resident b) × (locks_of s.resident b ≡ n)
    positive b n is = elim (cases_eq (locks_of s.resident b) 0) as (λ _. (0 < locks_of s.resident b) × (locks_of s.resident b ≡ n)) [
      | inl none ↦
          let gone : None ≡ Some n = sym (cond-true (locks_of s.resident b == 0) None (Some (locks_of s.resident b)) (eq-eqb (locks_of s.resident b) 0 none)) ∙ sym (get-locks s.resident b) ∙ is in absurd (cc gone)
      | inr some ↦
          let found : Some (locks_of s.resident b) ≡ Some n = sym (cond-false (locks_of s.resident b == 0) None (Some (locks_of s.resident b)) (ne_eqb (locks_of s.resident b) 0 some)) ∙ sym (get-locks s.resident b) ∙ is in
          (omega (arith, some), cc found)
    ]
