-- What is lent of a locked block, by what calls of its session tell, and that it is what is handed out.
use Rattle.std.proofs.Common.{◌≡◌, ◌≢◌, ◌⊎◌, ◌==◌, ℕ, ℤ, Bool, true, false, not, List, [], ◌∷◌, Option, None, Some, is_some, Result, Ok, Err, inl, inr, refl, sym, ap, ◌∙◌}
use Rattle.std.specs.Borrow.{Bor}
use Rattle.std.specs.Prelude.{◌&&◌, if◌then◌else◌}
use Rattle.std.specs.FinMap.{get}
use Rattle.std.specs.Option.{IsSome, ok_or, option_map, option_map_or}
use Rattle.std.specs.Result.{IsErrAnd, is_ok}
use Rattle.std.specs.Ptr.{Ptr, as_ptr, null_ptr}
use Rattle.std.proofs.lemmas.Bool.{eq-eqb, ne_eqb}
use Rattle.geos_model.specs.Document.{Block, chunks_of, is_heap, is_heap_body, is_live, is_raw, raw_bytes_of}
use Rattle.geos_model.specs.Machine.{Machine, Step, is_locked, lock_count, locked_chunk, locked_raw, may_give_up, next, takes_memory}
use Rattle.geos_model.specs.Refusal.{first_refusal}
use Rattle.geos_model.specs.Reply.{Reply, BytesAre, NumberIs, Refused, reply_by}
use Rattle.geos_model.specs.declared.command.Command.{Command}
use Rattle.geos_model.specs.declared.command.Command.TheVariants as commands
use Rattle.geos_model.specs.declared.fault.Fault.{Fault}
use Rattle.geos_model.specs.declared.fault.Fault.TheVariants.{Memory, File, NoBlock, NoChunk, WrongKind, NotLocked, CacheFull}
use Rattle.geos_model.specs.declared.handle.ChunkHandle.{ChunkHandle}
use Rattle.geos_model.specs.declared.handle.VmHandle.{VmHandle}
use Rattle.geos_model.proofs.Undoing.{same_reply}
use Rattle.undo_log.specs.Sessions.{SessionState, machine_of}
use Rattle.undo_log.proofs.Locks.{is_locked-is, lock_count-is}
use Rattle.c_sessions.specs.Codes.{ReportsAnswer}
use Rattle.geos_c.specs.Lending.{HandsOutPlace, IsLent, Lends, lent_by}

-- what takes no memory, where no call of the store has failed, is answered by the rules alone
never_given_up : (c : Command) (m : Machine) (fault : Fault) → takes_memory c m ≡ false → may_give_up false c m fault ≡ true → ⊥
never_given_up c m Memory none may = absurd (cc (none, may))
never_given_up c m File none may = absurd (cc may)
never_given_up c m _ none may = absurd (cc may)

answered : (c : Command) (m : Machine) (reply : Reply) → takes_memory c m ≡ false → Step false m (Some c) reply m → next (Some c) m ≡ Some (reply, m)
answered c m reply none (inl is) = is
answered c m reply none (inr up) = absurd (never_given_up c m up.fault none up.may)

-- What is told of a block, where it is live or isn't, and a heap or not.
module _ (m : Machine) (k : ℕ) where
  -- by the answer to a look-up of its type
  abbrev told : Bool → Bool → Option (Reply × Machine)
  told live heap = option_map_or (λ fault. Some (Refused fault, m)) (first_refusal ((CacheFull, false) ∷ (NoBlock, not live) ∷ (WrongKind, not heap) ∷ [])) (Some (NumberIs k, m))

  told_heap : (live heap : Bool) (n : ℕ) → told live heap ≡ Some (NumberIs n, m) → (live ≡ true) × (heap ≡ true)
  told_heap true true n is = (refl, refl)
  told_heap true false n is = let wrong : Refused WrongKind ≡ NumberIs n = same_reply is in absurd (cc wrong)
  told_heap false heap n is = let wrong : Refused NoBlock ≡ NumberIs n = same_reply is in absurd (cc wrong)

  told_other : (live heap : Bool) (fault : Fault) → told live heap ≡ Some (Refused fault, m) → ((NoBlock ≡ fault) × (live ≡ false)) ⊎ ((WrongKind ≡ fault) × ((live ≡ true) × (heap ≡ false)))
  told_other true true fault is = let wrong : NumberIs k ≡ Refused fault = same_reply is in absurd (cc wrong)
  told_other true false fault is = let same : Refused WrongKind ≡ Refused fault = same_reply is in inr (cc same, (refl, refl))
  told_other false heap fault is = let same : Refused NoBlock ≡ Refused fault = same_reply is in inl (cc same, refl)

  -- by that to a look-up of its locks
  abbrev counted : Bool → Option (Reply × Machine)
  counted live = option_map_or (λ fault. Some (Refused fault, m)) (first_refusal ((CacheFull, false) ∷ (NoBlock, not live) ∷ [])) (Some (NumberIs k, m))

  told_count : (live : Bool) (n : ℕ) → counted live ≡ Some (NumberIs n, m) → (live ≡ true) × (k ≡ n)
  told_count true n is = let same : NumberIs k ≡ NumberIs n = same_reply is in (refl, cc same)
  told_count false n is = let wrong : Refused NoBlock ≡ NumberIs n = same_reply is in absurd (cc wrong)

  told_none : (live : Bool) (fault : Fault) → counted live ≡ Some (Refused fault, m) → (NoBlock ≡ fault) × (live ≡ false)
  told_none true fault is = let wrong : NumberIs k ≡ Refused fault = same_reply is in absurd (cc wrong)
  told_none false fault is = let same : Refused NoBlock ≡ Refused fault = same_reply is in (cc same, refl)

-- a live block is a heap or raw
not_raw : (o : Option Block) → option_map_or (λ b. is_heap_body b.body) o false ≡ true → option_map_or (λ b. not (is_heap_body b.body)) o false ≡ false
not_raw None heap = refl
not_raw (Some b) heap = ap not heap

raw : (o : Option Block) → is_some o ≡ true → option_map_or (λ b. is_heap_body b.body) o false ≡ false → option_map_or (λ b. not (is_heap_body b.body)) o false ≡ true
raw None live other = absurd (cc live)
raw (Some b) live other = ap not other

-- bytes are lent where it is locked and raw
unlocked : (locked is_raw : Bool) (bytes : List ℕ) → is_raw ≡ true → None ≡ (if locked && is_raw then Some bytes else None) → locked ≡ false
unlocked false is_raw bytes is none = refl
unlocked true true bytes is none = absurd (cc none)
unlocked true false bytes is none = absurd (cc is)

locked : (locked is_raw : Bool) (bytes lent : List ℕ) → Some lent ≡ (if locked && is_raw then Some bytes else None) → (locked ≡ true) × (bytes ≡ lent)
locked true true bytes lent is = (refl, cc is)
locked true false bytes lent is = absurd (cc is)
locked false is_raw bytes lent is = absurd (cc is)

-- What is lent of a chunk.
module _ (m : Machine) (b : VmHandle) (c : ChunkHandle) where
  abbrev Lent : Reply → Type 0
  Lent reply = lent_by (commands.Read b c) b.0 m ≡ Some reply

  -- the block isn't live, or is raw
  pub chunk_of_other : (fault : Fault) → Step false m (Some (commands.HeapType b)) (Refused fault) m → Lent (Refused fault)
  chunk_of_other fault step = elim (told_other m _ (is_live m.document b.0) (is_heap m.document b.0) fault (answered (commands.HeapType b) m (Refused fault) refl step)) [
    | inl dead ↦ rw dead.1 (ap (λ f. Some (Refused f)) dead.0)
    | inr other ↦ rw (other.1.0, other.1.1) (ap (λ f. Some (Refused f)) other.0)
  ]

  pub chunk_of_none : (fault : Fault) → Step false m (Some (commands.Locks b)) (Refused fault) m → Lent (Refused fault)
  chunk_of_none fault step =
      let none = told_none m _ (is_live m.document b.0) fault (answered (commands.Locks b) m (Refused fault) refl step) in
      rw none.1 (ap (λ f. Some (Refused f)) none.0)

  module _ (n : ℕ) (step : Step false m (Some (commands.HeapType b)) (NumberIs n) m) where
    heap : (is_live m.document b.0 ≡ true) × (is_heap m.document b.0 ≡ true)
    heap = told_heap m _ (is_live m.document b.0) (is_heap m.document b.0) n (answered (commands.HeapType b) m (NumberIs n) refl step)

    pub chunk_of_unlocked : is_locked m b.0 ≡ false → Lent (Refused NotLocked)
    chunk_of_unlocked out = rw (heap.0, heap.1, out) refl

    module _ (locked : is_locked m b.0 ≡ true) where
      no_chunk : None ≡ locked_chunk m b.0 c.0 → Lent (Refused NoChunk)
      no_chunk none =
          let gone : get (chunks_of m.document b.0) c.0 ≡ None = sym (none ∙ ap (λ (x : Bool). if x then get (chunks_of m.document b.0) c.0 else None) locked) in
          rw (heap.0, heap.1, locked, gone) refl

      chunk_lent : (bytes : List ℕ) → Some bytes ≡ locked_chunk m b.0 c.0 → Lent (BytesAre bytes)
      chunk_lent bytes some =
          let there : get (chunks_of m.document b.0) c.0 ≡ Some bytes = sym (some ∙ ap (λ (x : Bool). if x then get (chunks_of m.document b.0) c.0 else None) locked) in
          rw (heap.0, heap.1, locked, there) refl

      -- the session's answer, with a fault for none
      pub chunk_or_none : (o : Option (Bor (List ℕ))) → option_map (λ bytes. bytes.now) o ≡ locked_chunk m b.0 c.0 → Lent (reply_by (λ bytes. BytesAre bytes.now) (ok_or o NoChunk))
      chunk_or_none None is = no_chunk is
      chunk_or_none (Some bytes) is = chunk_lent bytes.now is

-- how often a block is locked
count_told : (m : Machine) (b : VmHandle) (n : ℕ) → Step false m (Some (commands.Locks b)) (NumberIs n) m → (is_live m.document b.0 ≡ true) × (lock_count m b.0 ≡ n)
count_told m b n step = told_count m _ (is_live m.document b.0) n (answered (commands.Locks b) m (NumberIs n) refl step)

-- so that it is locked just where that isn't 0
module _ {S : Type 0} (s : SessionState S) (target : Bool) (b : VmHandle) (n : ℕ) (step : Step false (machine_of target s) (Some (commands.Locks b)) (NumberIs n) (machine_of target s)) where
  locked_by : is_locked (machine_of target s) b.0 ≡ not (n == 0)
  locked_by = is_locked-is s target b.0 ∙ ap (λ (k : ℕ). not (k == 0)) (sym (lock_count-is s target b.0) ∙ (count_told (machine_of target s) b n step).1)

  pub unlocked_by : n ≡ 0 → is_locked (machine_of target s) b.0 ≡ false
  unlocked_by none = locked_by ∙ ap not (eq-eqb n 0 none)

  pub has_lock : n ≢ 0 → is_locked (machine_of target s) b.0 ≡ true
  has_lock some = locked_by ∙ ap not (ne_eqb n 0 some)

-- What is lent of a raw block.
module _ (m : Machine) (b : VmHandle) where
  abbrev Lent-raw : Reply → Type 0
  Lent-raw reply = lent_by (commands.ReadRaw b) b.0 m ≡ Some reply

  pub raw_of_none : (fault : Fault) → Step false m (Some (commands.Locks b)) (Refused fault) m → Lent-raw (Refused fault)
  raw_of_none fault step =
      let none = told_none m _ (is_live m.document b.0) fault (answered (commands.Locks b) m (Refused fault) refl step) in
      rw none.1 (ap (λ f. Some (Refused f)) none.0)

  pub raw_of_heap : (r : Result ℕ Fault) → is_ok r ≡ true → Step false m (Some (commands.HeapType b)) (reply_by NumberIs r) m → Lent-raw (Refused WrongKind)
  raw_of_heap (Ok n) ok step =
      let is = told_heap m _ (is_live m.document b.0) (is_heap m.document b.0) n (answered (commands.HeapType b) m (NumberIs n) refl step) in
      let other : is_raw m.document b.0 ≡ false = not_raw (get m.document.blocks b.0) is.1 in
      rw (is.0, other) refl
  raw_of_heap (Err fault) ok step = absurd (cc ok)

  -- it is live and no heap
  module _ (n : ℕ) (count : Step false m (Some (commands.Locks b)) (NumberIs n) m) where
    live : is_live m.document b.0 ≡ true
    live = (count_told m b n count).0

    is_not_heap : (r : Result ℕ Fault) → is_ok r ≡ false → Step false m (Some (commands.HeapType b)) (reply_by NumberIs r) m → is_heap m.document b.0 ≡ false
    is_not_heap (Ok k) other step = absurd (cc other)
    is_not_heap (Err fault) other step = elim (told_other m _ (is_live m.document b.0) (is_heap m.document b.0) fault (answered (commands.HeapType b) m (Refused fault) refl step)) [
      | inl dead ↦ absurd (cc (live, dead.1))
      | inr kind ↦ kind.1.1
    ]

    module _ (r : Result ℕ Fault) (other : is_ok r ≡ false) (step : Step false m (Some (commands.HeapType b)) (reply_by NumberIs r) m) where
      is_raw_block : is_raw m.document b.0 ≡ true
      is_raw_block = raw (get m.document.blocks b.0) live (is_not_heap r other step)

      raw_unlocked : None ≡ locked_raw m b.0 → Lent-raw (Refused NotLocked)
      raw_unlocked none =
          let out = unlocked (is_locked m b.0) (is_raw m.document b.0) (raw_bytes_of m.document b.0) is_raw_block none in
          rw (live, is_raw_block, out) refl

      raw_lent : (bytes : List ℕ) → Some bytes ≡ locked_raw m b.0 → Lent-raw (BytesAre bytes)
      raw_lent bytes some =
          let is = locked (is_locked m b.0) (is_raw m.document b.0) (raw_bytes_of m.document b.0) bytes some in
          rw (live, is_raw_block, is.0) (ap (λ x. Some (BytesAre x)) is.1)

      pub raw_or_none : (o : Option (Bor (List ℕ))) → option_map (λ bytes. bytes.now) o ≡ locked_raw m b.0 → Lent-raw (reply_by (λ bytes. BytesAre bytes.now) (ok_or o NotLocked))
      raw_or_none None is = raw_unlocked is
      raw_or_none (Some bytes) is = raw_lent bytes.now is

-- The bytes that the session lends are those that its machine does.

pub is_lent : (o : Option (Bor (List ℕ))) (bytes : List ℕ) → option_map (λ b. b.now) o ≡ Some bytes → IsSome o
is_lent None bytes is = absurd (cc is)
is_lent (Some lent) bytes is = refl

pub lent_is : (o : Option (Bor (List ℕ))) (lent : Bor (List ℕ)) (bytes : List ℕ) → o ≡ Some lent → option_map (λ b. b.now) o ≡ Some bytes → lent.now ≡ bytes
lent_is o lent bytes was is = let same : Some lent.now ≡ Some bytes = sym (ap (option_map (λ b. b.now)) was) ∙ is in cc same

-- a fault that is handed on
pub handed_on : (r : Result (Bor (List ℕ)) Fault) (fault : Fault) (o : Option Reply) → IsErrAnd r (λ e. e ≡ fault) → o ≡ Some (Refused fault) → o ≡ Some (reply_by (λ bytes. BytesAre bytes.now) r)
handed_on (Ok bytes) fault o is first = absurd is
handed_on (Err e) fault o is first = first ∙ ap (λ f. Some (Refused f)) (sym is)

-- What is lent is handed out.
pub handed_out : {S : Type 0} (command : Command) (block : ℕ) (old new : SessionState S) (answer : Result (Bor (List ℕ)) Fault) (at : Ptr) (count : ℕ) (code : ℤ)
    → IsLent command block old (reply_by (λ bytes. BytesAre bytes.now) answer) → new ≡ old → HandsOutPlace answer at count code → ReportsAnswer (Lends command block at count old new) code
handed_out command block old new (Ok bytes) at count code lent same out =
    let there : at ≢ null_ptr = λ none. let wrong : null_ptr ≡ as_ptr bytes = sym none ∙ out.place.0 in absurd (cc wrong) in
    (Ok bytes.now, out.code_is, (lent, same, (there, out.place.1)))
handed_out command block old new (Err fault) at count code lent same out = (Err fault, out.code_is, (lent, same, out.place))
