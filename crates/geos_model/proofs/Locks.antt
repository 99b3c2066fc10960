-- Locks stay valid: a locked block stays live, and locks are counted within their limits.
use Rattle.std.proofs.Common.{◌≡◌, ℕ, ◌+◌, ◌-◌, ◌≤◌, Bool, true, false, not, ◌&&◌, List, [], ◌∷◌, Option, Some, None, is_some, nat_cmp, nat_le, unwrap_or, refl, sym, ap, subst, ◌∙◌, inl, inr, arith, ltb-false}
use Rattle.std.proofs.lemmas.Bool.{cases_Bool, cases_eq, cond-true, cond-false, eqb-false, leb-false, true≢false}
use Rattle.std.specs.Option.{option_map_or}
use Rattle.std.specs.Cmp.{nat_cmp_total}
use Rattle.std.specs.FinMap.{FinMap, get, empty, get-empty, insert, remove, contains_key, len, len-empty, len-insert, len-remove, empty_of_len}
use Rattle.geos_model.specs.declared.block.Attributes.{Attributes}
use Rattle.geos_model.specs.Refusal.{Conditions, first_refusal}
use Rattle.geos_model.specs.Document.{Block, Document, is_live, attributes_of, with_block, with_blocks, with_attributes}
use Rattle.geos_model.specs.LargeEdits.{new_array_blocks, large_created}
use Rattle.geos_model.specs.Meaning.{effect}
use Rattle.geos_model.specs.Machine.{Machine, AreValidLocks, most_locks, lock_count, is_locked, has_locks, all_locked, is_shut_out, after_lock, after_unlock, is_barred, command_conditions}
use Rattle.geos_model.specs.declared.fault.Fault.TheVariants.{NoBlock, NotLocked, LockLimit, CacheFull}
use Rattle.geos_model.specs.declared.command.Edit.{Edit}
use Rattle.geos_model.specs.declared.command.Edit.TheVariants as edits
use Rattle.geos_model.specs.declared.handle.VmHandle.{VmHandle}
use Rattle.geos_model.specs.declared.command.Command.TheVariants as commands
use Rattle.geos_model.proofs.Refusals.{none_applies, or_none}
use Rattle.geos_model.proofs.HeapEdits.{get-put_same, get-put_other, get-taken, get-taken_other}
use Rattle.geos_model.proofs.Validity.{not_false}

-- Where nothing is locked.

pub none_locked : (m : Machine) → has_locks m ≡ false → (b : ℕ) → is_locked m b ≡ false
none_locked m none b =
    let few = ltb-false 0 (len m.locks) none in
    let bare : m.locks ≡ empty = empty_of_len m.locks (omega (arith, few)) in
    ap (λ (locks : FinMap nat_cmp ℕ). contains_key locks b) bare ∙ ap is_some (get-empty nat_cmp b)

-- A locked block is in memory already.
pub locked_in : (m : Machine) (b : ℕ) → is_locked m b ≡ true → is_shut_out m b ≡ false
locked_in m b locked = by_place (all_locked m) (is_locked m b) locked
  where
    by_place : (full locked : Bool) → locked ≡ true → (full && not locked) ≡ false
    by_place false locked is = refl
    by_place true true is = refl
    by_place true false is = absurd (cc is)

-- Locks that stay, of blocks that stay live.
pub kept_locks-valid : (old new : Machine) → AreValidLocks old → new.locks ≡ old.locks → new.frames ≡ old.frames
    → ((b : ℕ) → is_locked old b ≡ true → is_live old.document b ≡ true → is_live new.document b ≡ true) → AreValidLocks new
kept_locks-valid old new valid same as_many live = record {
  live = λ b n is. let was : get old.locks b ≡ Some n = ap (λ (locks : FinMap nat_cmp ℕ). get locks b) (sym same) ∙ is in live b (ap is_some was) (valid.live b n was);
  count = λ b n is. valid.count b n (ap (λ (locks : FinMap nat_cmp ℕ). get locks b) (sym same) ∙ is);
  few = let few = valid.few in let long : len new.locks ≡ len old.locks = ap len same in omega (arith, few, long, as_many);
}

-- Where there are none, they stay over any document.
pub no_locks-valid : (old new : Machine) → AreValidLocks old → has_locks old ≡ false → new.locks ≡ old.locks → new.frames ≡ old.frames → AreValidLocks new
no_locks-valid old new valid none same as_many =
    kept_locks-valid old new valid same as_many (λ b locked live. absurd (true≢false (sym locked ∙ none_locked old none b)))

pub empty_locks-valid : (m : Machine) → m.locks ≡ empty → AreValidLocks m
empty_locks-valid m bare =
    let nothing : (b n : ℕ) → get m.locks b ≡ Some n → ⊥ =
    λ b n is. let no : None ≡ Some n = sym (get-empty nat_cmp b) ∙ ap (λ (locks : FinMap nat_cmp ℕ). get locks b) (sym bare) ∙ is in cc no in record {
      live = λ b n is. absurd (nothing b n is);
      count = λ b n is. absurd (nothing b n is);
      few = let long : len m.locks ≡ 0 = ap len bare ∙ len-empty nat_cmp ℕ in omega (arith, long);
    }

-- An accepted edit leaves each locked block live.

put-live : (d : Document) (h : ℕ) (b : Block) (q : ℕ) → is_live d q ≡ true → is_live (with_block d h b) q ≡ true
put-live d h b q live = elim (cases_eq q h) [
  | inl e ↦ ap is_some (get-put_same d.blocks h b q e)
  | inr other ↦ ap is_some (get-put_other d.blocks h b q other) ∙ live
]

blocks-live : (d : Document) (ps : List (ℕ × Block)) (q : ℕ) → is_live d q ≡ true → is_live (with_blocks d ps) q ≡ true
blocks-live d [] q live = live
blocks-live d (p ∷ ps) q live = blocks-live (with_block d p.0 p.1) ps q (put-live d p.0 p.1 q live)

attributes-live : (d : Document) (h : ℕ) (a : Attributes) (q : ℕ) → is_live d q ≡ true → is_live (with_attributes d h a) q ≡ true
attributes-live d h a q live = by_block (get d.blocks h)
  where
    by_block : (o : Option Block) → is_live (option_map_or (λ b. with_block d h (record b { attributes = a })) o d) q ≡ true
    by_block None = live
    by_block (Some b) = put-live d h (record b { attributes = a }) q live

-- nothing is locked and one block is
locked_none : (m : Machine) (q : ℕ) → is_locked m q ≡ true → has_locks m ≡ false → ⊥
locked_none m q locked none = true≢false (sym locked ∙ none_locked m none q)

pub locked-live : (e : Edit) (m : Machine) → is_barred e m ≡ false → (q : ℕ) → is_locked m q ≡ true → is_live m.document q ≡ true → is_live (effect e m.document).0 q ≡ true
unfolding large_created
locked-live (edits.FreeBlock b) m free q locked live =
    ap is_some (get-taken_other m.document.blocks b.0 q (λ is. true≢false (sym locked ∙ ap (is_locked m) is ∙ free))) ∙ live
locked-live (edits.SetType b heap_type) m free q locked live = attributes-live m.document b.0 (record (attributes_of m.document b.0) { heap_type = heap_type }) q live
locked-live (edits.SetUserId b uid) m free q locked live = attributes-live m.document b.0 (record (attributes_of m.document b.0) { user_id = uid }) q live
locked-live (edits.SetMap b) m free q locked live = live
locked-live (edits.CopyChain b) m free q locked live = absurd (locked_none m q locked free)
locked-live (edits.FreeChain b) m free q locked live = absurd (locked_none m q locked free)
locked-live (edits.CreateLarge uid size) m free q locked live = blocks-live m.document (new_array_blocks m.document uid size) q live
locked-live (edits.InsertLarge b i bytes) m free q locked live = absurd (locked_none m q locked free)
locked-live (edits.SetLarge b i bytes) m free q locked live = absurd (locked_none m q locked free)
locked-live (edits.DeleteLarge b i n) m free q locked live = absurd (locked_none m q locked free)
locked-live _ m free q locked live = put-live m.document _ _ q live

-- Locks that are counted.

-- those of a block, at most as many as can be
lock_count-few : (m : Machine) → AreValidLocks m → (b : ℕ) → lock_count m b ≤ most_locks
lock_count-few m valid b = by_count (get m.locks b) (λ n is. valid.count b n is)
  where
    by_count : (o : Option ℕ) → ((n : ℕ) → o ≡ Some n → (1 ≤ n) × (n ≤ most_locks)) → unwrap_or o 0 ≤ most_locks
    by_count None count = omega arith
    by_count (Some n) count = (count n refl).1

-- with another count of a live block
put-valid : (m : Machine) (b n : ℕ) → AreValidLocks m → is_live m.document b ≡ true → 1 ≤ n → n ≤ most_locks → is_shut_out m b ≡ false
    → AreValidLocks (record m { locks = insert m.locks b n })
put-valid m b n valid live some most place = record {
  live = λ q k is. elim (cases_eq q b) [
    | inl e ↦ ap (is_live m.document) e ∙ live
    | inr other ↦ valid.live q k (sym (get-put_other m.locks b n q other) ∙ is)
  ];
  count = λ q k is. elim (cases_eq q b) [
    | inl e ↦ let found : Some n ≡ Some k = sym (get-put_same m.locks b n q e) ∙ is in let same : n ≡ k = cc found in subst (λ i. (1 ≤ i) × (i ≤ most_locks)) same (some, most)
    | inr other ↦ valid.count q k (sym (get-put_other m.locks b n q other) ∙ is)
  ];
  few = elim (cases_Bool (is_locked m b)) [
    | inl locked ↦ let long : len (insert m.locks b n) ≡ len m.locks = len-insert nat_cmp_total m.locks b n ∙ cond-true _ _ _ locked in let few = valid.few in omega (arith, few, long)
    | inr other ↦
        let long : len (insert m.locks b n) ≡ len m.locks + 1 = len-insert nat_cmp_total m.locks b n ∙ cond-false _ _ _ other in
        let fewer = leb-false m.frames (len m.locks) (not_full (all_locked m) (is_locked m b) place other) in
        omega (arith, fewer, long)
  ];
}
  where
    not_full : (full locked : Bool) → (full && not locked) ≡ false → locked ≡ false → full ≡ false
    not_full false locked place other = refl
    not_full true true place other = absurd (cc other)
    not_full true false place other = absurd (cc place)

-- without those of a block
taken-valid : (m : Machine) (b : ℕ) → AreValidLocks m → AreValidLocks (record m { locks = remove m.locks b })
taken-valid m b valid = record {
  live = λ q k is. valid.live q k (get-taken m.locks b q k is);
  count = λ q k is. valid.count q k (get-taken m.locks b q k is);
  few = elim (cases_Bool (is_locked m b)) [
    | inl locked ↦ let long : len (remove m.locks b) ≡ len m.locks - 1 = len-remove nat_cmp_total m.locks b ∙ cond-true _ _ _ locked in let few = valid.few in omega (arith, few, long)
    | inr other ↦ let long : len (remove m.locks b) ≡ len m.locks = len-remove nat_cmp_total m.locks b ∙ cond-false _ _ _ other in let few = valid.few in omega (arith, few, long)
  ];
}

-- with one more, where nothing refuses it
pub lock-valid : (m : Machine) (b : VmHandle) → AreValidLocks m → first_refusal (command_conditions (commands.Lock b) m) ≡ None → AreValidLocks (after_lock m b.0)
lock-valid m b valid none =
    let cs : Conditions = command_conditions (commands.Lock b) m in
    let live = not_false (is_live m.document b.0) (or_none (none_applies cs none NoBlock refl)).0 in
    let place = (or_none (none_applies cs none CacheFull refl)).0 in
    let below = eqb-false (lock_count m b.0) most_locks (or_none (none_applies cs none LockLimit refl)).0 in
    let few = lock_count-few m valid b.0 in
    put-valid m b.0 (lock_count m b.0 + 1) valid live (omega arith) (omega (arith, few, below)) place

-- and with one less
pub unlock-valid : (m : Machine) (b : VmHandle) → AreValidLocks m → first_refusal (command_conditions (commands.Unlock b) m) ≡ None → AreValidLocks (after_unlock m b.0)
unlock-valid m b valid none =
    let cs : Conditions = command_conditions (commands.Unlock b) m in
    let live = not_false (is_live m.document b.0) (or_none (none_applies cs none NoBlock refl)).0 in
    let locked = not_false (is_locked m b.0) (or_none (none_applies cs none NotLocked refl)).0 in
    let few = lock_count-few m valid b.0 in
    let place = locked_in m b.0 locked in
    elim (cases_Bool (nat_le (lock_count m b.0) 1)) [
      | inl last ↦ rw last (taken-valid m b.0 valid)
      | inr more ↦
          let above = leb-false (lock_count m b.0) 1 more in
          rw more (put-valid m b.0 (lock_count m b.0 - 1) valid live (omega (arith, above)) (omega (arith, few)) place)
    ]
