-- The locks of a machine are those of the blocks in memory.
use Rattle.std.proofs.Common.{◌≡◌, ◌≢◌, ℕ, ◌+◌, ◌==◌, Bool, true, false, not, cond, nat_eq, nat_cmp, List, [], ◌∷◌, map, Option, None, Some, is_some, unwrap_or, inl, inr, refl, sym, ap, ◌∙◌, arith, lt-ltb, ltb-false}
use Rattle.std.specs.Prelude.{◌&&◌, ◌||◌, nat_le, nat_lt, if◌then◌else◌}
use Rattle.std.proofs.lemmas.Bool.{and_parts, cases_Bool, cases_eq, cond-true, cond-false, eq-eqb, ne_eqb}
use Rattle.std.proofs.lemmas.List.Sums.{sum_by-cons}
use Rattle.std.specs.Cmp.{nat_cmp_total}
use Rattle.std.specs.FinMap.{FinMap, get, get-empty, empty, empty_of_len, insert, remove, contains_key, len, len-empty, len-insert, len-remove, same_map, nat_cmp-IsAntisymmetric}
use Rattle.std.specs.List.{list_any}
use Rattle.std.specs.Map.{lookup}
use Rattle.geos_model.specs.ElementArray.{all_distinct}
use Rattle.geos_model.specs.Machine as machine
use Rattle.geos_model.specs.Machine.{Needs, NoBody, OneBody, ManyBodies, is_barred, lock_count}
use Rattle.geos_model.specs.declared.command.Edit.{Edit}
use Rattle.geos_model.specs.declared.command.Edit.TheVariants as edits
use Rattle.geos_model.proofs.HeapEdits.{get-put_same, get-put_other, get-taken_same, get-taken_other}
use Rattle.vm_blocks.specs.State.{ResidentBlock, is_block_locked, locks_of, locked_count, KeepsLocks}
use Rattle.vm_blocks.proofs.Locks.{none_locked}
use Rattle.vm_blocks.specs.Keeping.{is_full, has_no_frame_for}
use Rattle.vm_blocks.proofs.KeepingLaws.{full-is, shut-is}
use Rattle.doc_edits.specs.Room.{lacks_frames}
use Rattle.undo_log.specs.Locking.{bars}
use Rattle.undo_log.specs.Sessions.{SessionState, cache_of, has_locked_blocks, locks_in, machine_of}

-- a count as a map has it, which has none of 0
abbrev pub as_locked : ℕ → Option ℕ
as_locked n = cond (n == 0) None (Some n)

isnt : (b : Bool) → not b ≡ true → b ≡ false
isnt true wrong = absurd (cc wrong)
isnt false is = refl

is_not : (b : Bool) → not b ≡ false → b ≡ true
is_not true is = refl
is_not false wrong = absurd (cc wrong)

-- the first seat of a list, of which the handle is
get_same : (m : FinMap nat_cmp ℕ) (s : ResidentBlock) (h : ℕ) → h ≡ s.0 → get (if is_block_locked s then insert m s.0 s.1 else remove m s.0) h ≡ as_locked s.1
get_same m s h at = elim (cases_Bool (is_block_locked s)) as (λ _. get (if is_block_locked s then insert m s.0 s.1 else remove m s.0) h ≡ as_locked s.1) [
  | inl locked ↦ ap (λ b. get (if b then insert m s.0 s.1 else remove m s.0) h) locked ∙ get-put_same m s.0 s.1 h at ∙ sym (cond-false _ _ _ (isnt (s.1 == 0) locked))
  | inr free ↦ ap (λ b. get (if b then insert m s.0 s.1 else remove m s.0) h) free ∙ get-taken_same m s.0 h at ∙ sym (cond-true _ _ _ (is_not (s.1 == 0) free))
]

get_other : (m : FinMap nat_cmp ℕ) (s : ResidentBlock) (h : ℕ) → h ≢ s.0 → get (if is_block_locked s then insert m s.0 s.1 else remove m s.0) h ≡ get m h
get_other m s h other =
    elim (is_block_locked s) as (λ b. get (if b then insert m s.0 s.1 else remove m s.0) h ≡ get m h) [
      | true ↦ get-put_other m s.0 s.1 h other
      | false ↦ get-taken_other m s.0 h other
    ]

pub get-locks : (ss : List ResidentBlock) (h : ℕ) → get (locks_in ss) h ≡ as_locked (locks_of ss h)
get-locks [] h = get-empty nat_cmp h
get-locks (s ∷ ss) h = elim (cases_eq h s.0) as (λ _. get (locks_in (s ∷ ss)) h ≡ as_locked (locks_of (s ∷ ss) h)) [
  | inl at ↦ get_same (locks_in ss) s h at ∙ sym (ap (λ b. as_locked (unwrap_or (cond b (Some s.1) (lookup (nat_eq h) ss)) 0)) (eq-eqb h s.0 at))
  | inr other ↦ get_other (locks_in ss) s h other ∙ get-locks ss h ∙ sym (ap (λ b. as_locked (unwrap_or (cond b (Some s.1) (lookup (nat_eq h) ss)) 0)) (ne_eqb h s.0 other))
]

some_locked : (n : ℕ) (b : Bool) → is_some (cond b None (Some n)) ≡ not b
some_locked n true = refl
some_locked n false = refl

pub contains-locks : (ss : List ResidentBlock) (h : ℕ) → contains_key (locks_in ss) h ≡ not (locks_of ss h == 0)
contains-locks ss h = ap is_some (get-locks ss h) ∙ some_locked (locks_of ss h) (locks_of ss h == 0)

-- how often a block is locked
pub count-locks : (ss : List ResidentBlock) (h : ℕ) → unwrap_or (get (locks_in ss) h) 0 ≡ locks_of ss h
count-locks ss h = ap (λ o. unwrap_or o 0) (get-locks ss h) ∙ elim (cases_eq (locks_of ss h) 0) as (λ _. unwrap_or (as_locked (locks_of ss h)) 0 ≡ locks_of ss h) [
  | inl none ↦ ap (λ b. unwrap_or (cond b None (Some (locks_of ss h))) 0) (eq-eqb (locks_of ss h) 0 none) ∙ sym none
  | inr some ↦ ap (λ b. unwrap_or (cond b None (Some (locks_of ss h))) 0) (ne_eqb (locks_of ss h) 0 some)
]

-- How many blocks are locked, where none is in memory twice.

absent : (x : ℕ) (ss : List ResidentBlock) → list_any (λ y. x == y) (map (λ s. s.0) ss) ≡ false → locks_of ss x ≡ 0
absent x [] none = refl
absent x (s ∷ ss) none = (elim (nat_eq x s.0) as (λ b. b || list_any (λ y. x == y) (map (λ s. s.0) ss) ≡ false → unwrap_or (cond b (Some s.1) (lookup (nat_eq x) ss)) 0 ≡ 0) [
  | true ↦ λ wrong. absurd (cc wrong)
  | false ↦ λ more. absent x ss more
]) none

counts : (s : ResidentBlock) (ss : List ResidentBlock) → locked_count (s ∷ ss) ≡ cond (is_block_locked s) 1 0 + locked_count ss
counts s ss = sum_by-cons (λ (x : ResidentBlock). cond (is_block_locked x) 1 0) s ss

pub len-locks : (ss : List ResidentBlock) → all_distinct (map (λ s. s.0) ss) ≡ true → len (locks_in ss) ≡ locked_count ss
len-locks [] distinct = len-empty nat_cmp ℕ
len-locks (s ∷ ss) distinct =
    let parts = and_parts (not (list_any (λ y. s.0 == y) (map (λ s. s.0) ss))) (all_distinct (map (λ s. s.0) ss)) distinct in
    let gone : locks_of ss s.0 ≡ 0 = absent s.0 ss (isnt _ parts.0) in
    let out : contains_key (locks_in ss) s.0 ≡ false = contains-locks ss s.0 ∙ ap not (eq-eqb (locks_of ss s.0) 0 gone) in
    let rest = len-locks ss parts.1 in
    let sum = counts s ss in
    (elim (is_block_locked s) as (λ b. locked_count (s ∷ ss) ≡ cond b 1 0 + locked_count ss → len (if b then insert (locks_in ss) s.0 s.1 else remove (locks_in ss) s.0) ≡ locked_count (s ∷ ss)) [
      | true ↦ λ all. let long : len (insert (locks_in ss) s.0 s.1) ≡ len (locks_in ss) + 1 = len-insert nat_cmp_total (locks_in ss) s.0 s.1 ∙ cond-false _ _ _ out in omega (arith, long, rest, all)
      | false ↦ λ all. let long : len (remove (locks_in ss) s.0) ≡ len (locks_in ss) = len-remove nat_cmp_total (locks_in ss) s.0 ∙ cond-false _ _ _ out in omega (arith, long, rest, all)
    ]) sum

-- where none is, each one isn't
pub none_of_count : (ss : List ResidentBlock) → nat_lt 0 (locked_count ss) ≡ false → (h : ℕ) → locks_of ss h ≡ 0
none_of_count ss none h = let few = ltb-false 0 (locked_count ss) none in none_locked ss (omega (arith, few)) h

-- maps of the same locks
pub same_locks : (m : FinMap nat_cmp ℕ) (ss : List ResidentBlock) → ((h : ℕ) → get m h ≡ as_locked (locks_of ss h)) → m ≡ locks_in ss
same_locks m ss each = same_map nat_cmp_total nat_cmp-IsAntisymmetric m (locks_in ss) (λ h. each h ∙ sym (get-locks ss h))

-- without a lock there is nothing in the map
pub no_locks : (ss : List ResidentBlock) → nat_lt 0 (len (locks_in ss)) ≡ false → locks_in ss ≡ empty
no_locks ss none = let few = ltb-false 0 (len (locks_in ss)) none in empty_of_len (locks_in ss) (omega (arith, few))

pub kept_locks : (old new : List ResidentBlock) → KeepsLocks old new → locks_in new ≡ locks_in old
kept_locks old new keeps = same_locks (locks_in new) old (λ h. get-locks new h ∙ ap as_locked (keeps.each h))

-- What the machine tells of locks, where no block is in memory twice.
module _ {S : Type 0} (s : SessionState S) where
  pub is_locked-is : (target : Bool) (b : ℕ) → machine.is_locked (machine_of target s) b ≡ not (locks_of s.resident b == 0)
  is_locked-is target b = contains-locks s.resident b

  pub lock_count-is : (target : Bool) (b : ℕ) → lock_count (machine_of target s) b ≡ locks_of s.resident b
  lock_count-is target b = count-locks s.resident b

  module _ (distinct : all_distinct (map (λ x. x.0) s.resident) ≡ true) where
    pub has_locks-is : has_locked_blocks s ≡ nat_lt 0 (locked_count s.resident)
    has_locks-is = ap (nat_lt 0) (len-locks s.resident distinct)

    pub all_locked-is : (target : Bool) → machine.all_locked (machine_of target s) ≡ is_full (cache_of s)
    all_locked-is target = ap (nat_le s.frames) (len-locks s.resident distinct) ∙ sym (full-is (cache_of s))

    pub is_shut_out-is : (target : Bool) (b : ℕ) → machine.is_shut_out (machine_of target s) b ≡ has_no_frame_for (cache_of s) b
    is_shut_out-is target b =
        ap (λ t. t && not (machine.is_locked (machine_of target s) b)) (all_locked-is target) ∙ ap (λ t. is_full (cache_of s) && t) (ap not (is_locked-is target b) ∙ not_not (locks_of s.resident b == 0))
        ∙ sym (shut-is (cache_of s) b)
      where
        not_not : (b : Bool) → not (not b) ≡ b
        not_not true = refl
        not_not false = refl

    pub has_no_room-is : (target : Bool) (needs : Needs) → machine.has_no_room (machine_of target s) needs ≡ lacks_frames (cache_of s) needs
    has_no_room-is target NoBody = refl
    has_no_room-is target (OneBody b) = is_shut_out-is target b
    has_no_room-is target ManyBodies = all_locked-is target

    some_locks : (n : ℕ) → not (n == 0) ≡ nat_lt 0 n
    some_locks n = elim (cases_eq n 0) as (λ _. not (n == 0) ≡ nat_lt 0 n) [
      | inl none ↦ ap (λ k. not (k == 0)) none ∙ sym (ap (nat_lt 0) none)
      | inr some ↦ ap not (ne_eqb n 0 some) ∙ sym (lt-ltb 0 n (omega (arith, some)))
    ]

    pub is_barred-is : (target : Bool) (e : Edit) → is_barred e (machine_of target s) ≡ bars s.resident e
    is_barred-is target (edits.FreeBlock b) = is_locked-is target b.0 ∙ some_locks (locks_of s.resident b.0)
    is_barred-is target (edits.CopyChain b) = has_locks-is
    is_barred-is target (edits.FreeChain b) = has_locks-is
    is_barred-is target (edits.InsertLarge b i bytes) = has_locks-is
    is_barred-is target (edits.SetLarge b i bytes) = has_locks-is
    is_barred-is target (edits.DeleteLarge b i n) = has_locks-is
    is_barred-is target _ = refl
