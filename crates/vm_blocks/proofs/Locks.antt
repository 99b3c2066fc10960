-- What stays locked, where blocks come into memory and go out of it.
use Rattle.std.proofs.Common.{◌≡◌, ◌⊎◌, ℕ, ◌+◌, ◌-◌, ◌≤◌, ◌==◌, Bool, true, false, not, cond, nat_eq, List, [], ◌∷◌, map, Option, None, Some, unwrap_or, Result, Ok, Err, OnOk, OnErr, inl, inr, refl, sym, ap, subst, ◌∙◌, arith, is_some, eq-eqb, eqb-true, leb-true}
use Rattle.std.specs.Prelude.{◌&&◌, ◌||◌, ◌<◌, if◌then◌else◌, length}
use Rattle.std.proofs.lemmas.Bool.{and_parts, cases_eq, cond-true, cond-false, ne_eqb}
use Rattle.std.proofs.lemmas.List.Sums.{sum_by-cons}
use Rattle.std.proofs.lemmas.Map.{lookup-none, lookup-remove_entry}
use Rattle.std.proofs.lemmas.Map.Entries.{none_past_head}
use Rattle.std.proofs.lemmas.Map.Keys.{IsDistinct-head, IsDistinct-tail}
use Rattle.std.specs.Cmp.{nat_eq_equiv}
use Rattle.std.specs.List.{AllByRecursion, IsDistinct, list_any}
use Rattle.std.specs.Map.{lookup, lookup_entry, remove_entry, set_value, keys_of}
use Rattle.std.specs.Option.{option_map, option_map_or}
use Rattle.geos_model.specs.Document.{Document}
use Rattle.geos_model.specs.ElementArray.{all_distinct}
use Rattle.geos_model.specs.declared.fault.Fault.{Fault}
use Rattle.lru.specs.LruCache.{promoted}
use Rattle.vm_blocks.specs.State.{ResidentBlock, is_resident, is_block_locked, locks_of, locked_count, all_frames_locked, victim, evicted, KeepsLocks}
use Rattle.vm_blocks.specs.Frames.{frame_of, residents, IsFrameOf, AreFramesOf}
use Rattle.vm_blocks.specs.declared.frame.Frame.{Frame}
use Rattle.vm_blocks.proofs.OrderOfUse.{lookup-residents, residents-remove, fewer_locked}

pub keys-residents : (es : List (ℕ × Frame)) → keys_of (residents es) ≡ keys_of es
keys-residents [] = refl
keys-residents (e ∷ es) = ap (λ ks. e.0 ∷ ks) (keys-residents es)

abbrev one : ResidentBlock → ℕ
one s = cond (is_block_locked s) 1 0

counts : (s : ResidentBlock) (ss : List ResidentBlock) → locked_count (s ∷ ss) ≡ one s + locked_count ss
counts s ss = sum_by-cons (λ (x : ResidentBlock). cond (is_block_locked x) 1 0) s ss

pub keeps_refl : (ss : List ResidentBlock) → KeepsLocks ss ss
keeps_refl ss = record { each = λ h. refl; count = refl }

-- the one that goes isn't locked

unlocked : (n : ℕ) → not (n == 0) ≡ false → n ≡ 0
unlocked n is = eqb-true n 0 (by (n == 0) refl)
  where
    by : (b : Bool) → (n == 0) ≡ b → (n == 0) ≡ true
    by true at = at
    by false at = absurd (cc (at, is))

free_first : (s : ResidentBlock) (ss : List ResidentBlock) (h : ℕ) (o : Option ℕ) (b : Bool) → is_block_locked s ≡ b → IsDistinct nat_eq (keys_of (s ∷ ss)) → ((k : ℕ) → o ≡ Some k → lookup (nat_eq k) ss ≡ Some 0)
    → option_map_or (λ h. Some h) o (cond b None (Some s.0)) ≡ Some h → lookup (nat_eq h) (s ∷ ss) ≡ Some 0
free_first s ss h (Some k) b locked distinct more same =
    let is : k ≡ h = ap (λ (o : Option ℕ). unwrap_or o k) same in
    let on : lookup (nat_eq h) ss ≡ Some 0 = more h (ap (λ n. Some n) is) in
    elim (cases_eq h s.0) as (λ _. lookup (nat_eq h) (s ∷ ss) ≡ Some 0) [
      | inl here ↦ let gone : lookup (nat_eq h) ss ≡ None = lookup-none (nat_eq h) ss (none_past_head nat_eq_equiv h s ss distinct (eq-eqb h s.0 here)) in
          let wrong : None ≡ Some 0 = sym gone ∙ on in absurd (cc wrong)
      | inr other ↦ ap (λ b. cond b (Some s.1) (lookup (nat_eq h) ss)) (ne_eqb h s.0 other) ∙ on
    ]
free_first s ss h None true locked distinct more same = absurd (cc same)
free_first s ss h None false locked distinct more same =
    let is : s.0 ≡ h = ap (λ (o : Option ℕ). unwrap_or o s.0) same in
    ap (λ b. cond b (Some s.1) (lookup (nat_eq h) ss)) (eq-eqb h s.0 (sym is)) ∙ ap (λ n. Some n) (unlocked s.1 locked)

victim_unlocked : (ss : List ResidentBlock) (h : ℕ) → IsDistinct nat_eq (keys_of ss) → victim ss ≡ Some h → lookup (nat_eq h) ss ≡ Some 0
victim_unlocked [] h distinct is = absurd (cc is)
victim_unlocked (s ∷ ss) h distinct is = free_first s ss h (victim ss) (is_block_locked s) refl distinct (λ k at. victim_unlocked ss k (IsDistinct-tail nat_eq s.0 (keys_of ss) distinct) at) is

-- a block that isn't locked goes

count_removed : (h : ℕ) (ss : List ResidentBlock) → lookup (nat_eq h) ss ≡ Some 0 → locked_count (remove_entry (nat_eq h) ss) ≡ locked_count ss
count_removed h [] is = refl
count_removed h (s ∷ ss) is = (elim (nat_eq h s.0) as (λ b. cond b (Some s.1) (lookup (nat_eq h) ss) ≡ Some 0 → locked_count (cond b ss (s ∷ remove_entry (nat_eq h) ss)) ≡ locked_count (s ∷ ss)) [
  | true ↦ λ here.
      let free : s.1 ≡ 0 = ap (λ (o : Option ℕ). unwrap_or o 0) here in
      let none : ◌≡◌ {A = ℕ} (one s) 0 = ap (λ n. cond (not (n == 0)) 1 0) free in
      let sum = counts s ss in
      omega (arith, none, sum)
  | false ↦ λ on.
      let more = count_removed h ss on in
      let a = counts s ss in
      let b = counts s (remove_entry (nat_eq h) ss) in
      omega (arith, more, a, b)
]) is

locks_removed : (h : ℕ) (ss : List ResidentBlock) → IsDistinct nat_eq (keys_of ss) → lookup (nat_eq h) ss ≡ Some 0 → (q : ℕ) → locks_of (remove_entry (nat_eq h) ss) q ≡ locks_of ss q
locks_removed h ss distinct is q =
    let out : lookup (nat_eq q) (remove_entry (nat_eq h) ss) ≡ cond (nat_eq h q) None (lookup (nat_eq q) ss) = lookup-remove_entry nat_eq_equiv (nat_eq h) (nat_eq_equiv.congr h) q ss distinct in
    ap (λ o. unwrap_or o 0) out ∙ elim (cases_eq q h) as (λ _. unwrap_or (cond (nat_eq h q) None (lookup (nat_eq q) ss)) 0 ≡ locks_of ss q) [
      | inl at ↦ ap (λ b. unwrap_or (cond b None (lookup (nat_eq q) ss)) 0) (eq-eqb h q (sym at)) ∙ sym (ap (λ k. locks_of ss k) at ∙ ap (λ (o : Option ℕ). unwrap_or o 0) is)
      | inr other ↦ ap (λ b. unwrap_or (cond b None (lookup (nat_eq q) ss)) 0) (ne_eqb h q (λ same. other (sym same)))
    ]

pub keeps_evicted : (ss : List ResidentBlock) → IsDistinct nat_eq (keys_of ss) → KeepsLocks ss (evicted ss)
keeps_evicted ss distinct = by (victim ss) refl
  where
    by : (o : Option ℕ) → victim ss ≡ o → KeepsLocks ss (option_map_or (λ h. remove_entry (nat_eq h) ss) o ss)
    by None is = keeps_refl ss
    by (Some h) is = let free = victim_unlocked ss h distinct is in record { each = locks_removed h ss distinct free; count = count_removed h ss free }

-- a block comes in, and is not locked

pub keeps_more : (h : ℕ) (ss ts : List ResidentBlock) → lookup (nat_eq h) ss ≡ None → KeepsLocks ss ts → KeepsLocks ss ((h, 0) ∷ ts)
keeps_more h ss ts absent keeps = record {
  each = λ q. elim (cases_eq q h) as (λ _. locks_of ((h, 0) ∷ ts) q ≡ locks_of ss q) [
    | inl at ↦ ap (λ b. unwrap_or (cond b (Some 0) (lookup (nat_eq q) ts)) 0) (eq-eqb q h at) ∙ sym (ap (λ k. locks_of ss k) at ∙ ap (λ (o : Option ℕ). unwrap_or o 0) absent)
    | inr other ↦ ap (λ b. unwrap_or (cond b (Some 0) (lookup (nat_eq q) ts)) 0) (ne_eqb q h other) ∙ keeps.each q
  ];
  count =
      let none : ◌≡◌ {A = ℕ} (one (h, 0)) 0 = refl in
      let sum = counts (h, 0) ts in
      omega (arith, none, sum, keeps.count);
}

keeps_cond : (b : Bool) (ss : List ResidentBlock) → IsDistinct nat_eq (keys_of ss) → KeepsLocks ss (cond b ss (evicted ss))
keeps_cond true ss distinct = keeps_refl ss
keeps_cond false ss distinct = keeps_evicted ss distinct

-- a block that is there goes first

count_first : (h : ℕ) (ss : List ResidentBlock) (s : ResidentBlock) → lookup_entry (nat_eq h) ss ≡ Some s → one s + locked_count (remove_entry (nat_eq h) ss) ≡ locked_count ss
count_first h [] s is = absurd (cc is)
count_first h (x ∷ ss) s is = (elim (nat_eq h x.0) as (λ b. cond b (Some x) (lookup_entry (nat_eq h) ss) ≡ Some s → one s + locked_count (cond b ss (x ∷ remove_entry (nat_eq h) ss)) ≡ locked_count (x ∷ ss)) [
  | true ↦ λ here.
      let same : x ≡ s = ap (λ (o : Option ResidentBlock). unwrap_or o x) here in
      let ones : ◌≡◌ {A = ℕ} (one x) (one s) = ap one same in
      let sum = counts x ss in
      omega (arith, ones, sum)
  | false ↦ λ on.
      let more = count_first h ss s on in
      let a = counts x ss in
      let b = counts x (remove_entry (nat_eq h) ss) in
      omega (arith, more, a, b)
]) is

pub count_promoted : (h : ℕ) (ss : List ResidentBlock) → locked_count (promoted (nat_eq h) ss) ≡ locked_count ss
count_promoted h ss = by (lookup_entry (nat_eq h) ss) refl
  where
    by : (o : Option ResidentBlock) → lookup_entry (nat_eq h) ss ≡ o → locked_count (option_map_or (λ s. s ∷ remove_entry (nat_eq h) ss) o ss) ≡ locked_count ss
    by None is = refl
    by (Some s) is = counts s (remove_entry (nat_eq h) ss) ∙ count_first h ss s is

-- all that a load may leave

pub keeps_either : (r : Result (Unit {0}) Fault) (h : ℕ) (b : Bool) (ss ts : List ResidentBlock) → IsDistinct nat_eq (keys_of ss) → lookup (nat_eq h) ss ≡ None
    → OnOk r (ts ≡ (h, 0) ∷ cond b ss (evicted ss)) → OnErr r ((ts ≡ ss) ⊎ (ts ≡ evicted ss)) → KeepsLocks ss ts
keeps_either (Ok x) h b ss ts distinct absent ok err = subst (KeepsLocks ss) (sym ok) (keeps_more h ss (cond b ss (evicted ss)) absent (keeps_cond b ss distinct))
keeps_either (Err x) h b ss ts distinct absent ok err = elim err as (λ _. KeepsLocks ss ts) [
  | inl same ↦ subst (KeepsLocks ss) (sym same) (keeps_refl ss)
  | inr less ↦ subst (KeepsLocks ss) (sym less) (keeps_evicted ss distinct)
]

-- No block is in memory twice, and each is locked 255 times at most.

none_met : (x : ℕ) (xs : List ℕ) → AllByRecursion (λ y. nat_eq x y ≡ false) xs → list_any (λ y. x == y) xs ≡ false
none_met x [] none = refl
none_met x (y ∷ ys) none = ap (λ b. b || list_any (λ y. x == y) ys) none.0 ∙ none_met x ys none.1

all_apart : (xs : List ℕ) → IsDistinct nat_eq xs → all_distinct xs ≡ true
all_apart [] distinct = refl
all_apart (x ∷ xs) distinct =
    ap (λ b. not b && all_distinct xs) (none_met x xs (IsDistinct-head nat_eq x xs distinct)) ∙ all_apart xs (IsDistinct-tail nat_eq x xs distinct)

pub seats_apart : (es : List (ℕ × Frame)) → IsDistinct nat_eq (keys_of es) → all_distinct (map (λ s. s.0) (residents es)) ≡ true
seats_apart es distinct = ap all_distinct (keys-residents es) ∙ all_apart (keys_of es) distinct

pub few_locks : (honest : Bool) (d : Document) (es : List (ℕ × Frame)) → AreFramesOf honest d es → (h : ℕ) → locks_of (residents es) h ≤ 255
few_locks honest d es kept h = subst (λ (o : Option ℕ). unwrap_or o 0 ≤ 255) (sym (lookup-residents h es)) (by (frame_of es h) (kept.each h))
  where
    by : (o : Option Frame) → ((f : Frame) → o ≡ Some f → IsFrameOf honest d h f) → unwrap_or (option_map (λ (f : Frame). f.locks) o) 0 ≤ 255
    by None each = omega arith
    by (Some f) each = (each f refl).few

-- A block goes that isn't locked: the others stay locked as often as before.

apart_first : (x : ℕ) (xs : List ℕ) → list_any (λ y. x == y) xs ≡ false → AllByRecursion (λ y. nat_eq x y ≡ false) xs
apart_first x [] none = tt
apart_first x (y ∷ ys) none = by (nat_eq x y) refl (apart_first x ys) none
  where
    by : (b : Bool) → nat_eq x y ≡ b → (list_any (λ y. x == y) ys ≡ false → AllByRecursion (λ y. nat_eq x y ≡ false) ys)
        → b || list_any (λ y. x == y) ys ≡ false → AllByRecursion (λ y. nat_eq x y ≡ false) (y ∷ ys)
    by true at on wrong = absurd (cc wrong)
    by false at on more = (at, on more)

isnt : (b : Bool) → not b ≡ true → b ≡ false
isnt true wrong = absurd (cc wrong)
isnt false is = refl

from_apart : (xs : List ℕ) → all_distinct xs ≡ true → IsDistinct nat_eq xs
unfolding IsDistinct
from_apart [] distinct = tt
from_apart (x ∷ xs) distinct =
    let parts = and_parts (not (list_any (λ y. x == y) xs)) (all_distinct xs) distinct in
    (apart_first x xs (isnt (list_any (λ y. x == y) xs) parts.0), from_apart xs parts.1)

none_removed : (h : ℕ) (ss : List ResidentBlock) → lookup (nat_eq h) ss ≡ None → remove_entry (nat_eq h) ss ≡ ss
none_removed h [] none = refl
none_removed h (s ∷ ss) none = (elim (nat_eq h s.0) as (λ b. cond b (Some s.1) (lookup (nat_eq h) ss) ≡ None → cond b ss (s ∷ remove_entry (nat_eq h) ss) ≡ s ∷ ss) [
  | true ↦ λ wrong. absurd (cc wrong)
  | false ↦ λ more. ap (λ l. s ∷ l) (none_removed h ss more)
]) none

pub keeps_removed : (h : ℕ) (ss : List ResidentBlock) → all_distinct (map (λ s. s.0) ss) ≡ true → locks_of ss h ≡ 0 → KeepsLocks ss (remove_entry (nat_eq h) ss)
keeps_removed h ss distinct none = by (lookup (nat_eq h) ss) refl none
  where
    by : (o : Option ℕ) → lookup (nat_eq h) ss ≡ o → unwrap_or o 0 ≡ 0 → KeepsLocks ss (remove_entry (nat_eq h) ss)
    by None is none = subst (KeepsLocks ss) (sym (none_removed h ss is)) (keeps_refl ss)
    by (Some n) is none =
        let free : lookup (nat_eq h) ss ≡ Some 0 = is ∙ ap (λ n. Some n) none in
        record { each = locks_removed h ss (from_apart (keys_of ss) distinct) free; count = count_removed h ss free }

-- Where as many are locked as there are frames, each that is in memory is.

positive : (n : ℕ) → not (n == 0) ≡ true → 0 < n
positive n is = elim (cases_eq n 0) as (λ _. 0 < n) [
  | inl none ↦ let wrong : true ≡ false = sym is ∙ ap not (eq-eqb n 0 none) in absurd (cc wrong)
  | inr some ↦ omega (arith, some)
]

-- Where none is locked, each one isn't.
pub none_locked : (ss : List ResidentBlock) → locked_count ss ≡ 0 → (h : ℕ) → locks_of ss h ≡ 0
none_locked [] none h = refl
none_locked (s ∷ ss) none h =
    let sum = counts s ss in
    elim (cases_eq s.1 0) as (λ _. locks_of (s ∷ ss) h ≡ 0) [
      | inl free ↦
          let rest : locks_of ss h ≡ 0 = none_locked ss (omega (arith, sum, none)) h in
          elim (nat_eq h s.0) as (λ b. unwrap_or (cond b (Some s.1) (lookup (nat_eq h) ss)) 0 ≡ 0) [ true ↦ free | false ↦ rest ]
      | inr some ↦ let single : ◌≡◌ {A = ℕ} (one s) 1 = ap (λ b. cond (not b) 1 0) (ne_eqb s.1 0 some) in absurd (omega (arith, sum, single, none))
    ]

all_held : (h : ℕ) (ss : List ResidentBlock) → length ss ≤ locked_count ss → is_some (lookup (nat_eq h) ss) ≡ true → 0 < locks_of ss h
all_held h [] all there = absurd (cc there)
all_held h (s ∷ ss) all there =
    let sum = counts s ss in
    let most = fewer_locked ss in
    (elim (is_block_locked s) as (λ b. is_block_locked s ≡ b → 0 < locks_of (s ∷ ss) h) [
      | true ↦ λ locked.
          let single : ◌≡◌ {A = ℕ} (one s) 1 = ap (λ b. cond b 1 0) locked in
          let rest : length ss ≤ locked_count ss = omega (arith, sum, single, all) in
          (elim (nat_eq h s.0) as (λ b. is_some (cond b (Some s.1) (lookup (nat_eq h) ss)) ≡ true → 0 < unwrap_or (cond b (Some s.1) (lookup (nat_eq h) ss)) 0) [
            | true ↦ λ _. positive s.1 locked
            | false ↦ λ more. all_held h ss rest more
          ]) there
      | false ↦ λ free. let none : ◌≡◌ {A = ℕ} (one s) 0 = ap (λ b. cond b 1 0) free in absurd (omega (arith, sum, none, most, all))
    ]) refl

pub each_locked : (frames : ℕ) (ss : List ResidentBlock) (h : ℕ) → length ss ≤ frames → all_frames_locked frames ss ≡ true → is_resident ss h ≡ true → 0 < locks_of ss h
each_locked frames ss h few full there = let most = leb-true frames (locked_count ss) full in all_held h ss (omega (arith, few, most)) there

-- How many blocks are locked, kept from call to call.

-- a block that isn't locked comes in
pub free_counted : (h : ℕ) (ss : List ResidentBlock) → locked_count ((h, 0) ∷ ss) ≡ locked_count ss
free_counted h ss =
    let none : ◌≡◌ {A = ℕ} (one (h, 0)) 0 = refl in
    let sum = counts (h, 0) ss in
    omega (arith, none, sum)

-- one that isn't goes
pub evicted_count : (h : ℕ) (es fs gs : List (ℕ × Frame)) → IsDistinct nat_eq (keys_of fs) → residents fs ≡ residents es → victim (residents es) ≡ Some h → gs ≡ remove_entry (nat_eq h) fs → locked_count (residents gs) ≡ locked_count (residents es)
evicted_count h es fs gs distinct same at is =
    let free = victim_unlocked (residents fs) h (subst (IsDistinct nat_eq) (sym (keys-residents fs)) distinct) (ap victim same ∙ at) in
    ap (λ (xs : List (ℕ × Frame)). locked_count (residents xs)) is ∙ ap locked_count (residents-remove h fs) ∙ count_removed h (residents fs) free ∙ ap locked_count same

-- where a block is locked, some are
pub some_locked : (h : ℕ) (ss : List ResidentBlock) → 0 < locks_of ss h → 0 < locked_count ss
some_locked h ss some = elim (cases_eq (locked_count ss) 0) as (λ _. 0 < locked_count ss) [
  | inl none ↦ let free = none_locked ss none h in absurd (omega (arith, free, some))
  | inr more ↦ omega (arith, more)
]

-- a block has another number of locks
count_set : (h n k : ℕ) (ss : List ResidentBlock) → lookup (nat_eq h) ss ≡ Some k → locked_count (set_value (nat_eq h) ss n) + one (h, k) ≡ locked_count ss + one (h, n)
count_set h n k [] is = absurd (cc is)
count_set h n k (s ∷ ss) is = (elim (nat_eq h s.0) as (λ b. cond b (Some s.1) (lookup (nat_eq h) ss) ≡ Some k → locked_count (cond b ((s.0, n) ∷ ss) (s ∷ set_value (nat_eq h) ss n)) + one (h, k) ≡ locked_count (s ∷ ss) + one (h, n)) [
  | true ↦ λ here.
      let same : s.1 ≡ k = ap (λ (o : Option ℕ). unwrap_or o k) here in
      let was : ◌≡◌ {A = ℕ} (one s) (one (h, k)) = ap (λ m. cond (not (m == 0)) 1 0) same in
      let now : ◌≡◌ {A = ℕ} (one (s.0, n)) (one (h, n)) = refl in
      let a = counts s ss in
      let b = counts (s.0, n) ss in
      omega (arith, was, now, a, b)
  | false ↦ λ on.
      let more = count_set h n k ss on in
      let a = counts s ss in
      let b = counts s (set_value (nat_eq h) ss n) in
      omega (arith, more, a, b)
]) is

module _ (h : ℕ) (ss : List ResidentBlock) (there : is_resident ss h ≡ true) where
  found : lookup (nat_eq h) ss ≡ Some (locks_of ss h)
  found = by (lookup (nat_eq h) ss) there
    where
      by : (o : Option ℕ) → is_some o ≡ true → o ≡ Some (unwrap_or o 0)
      by None out = absurd (cc out)
      by (Some n) some = refl

  pub lock_counted : locked_count (set_value (nat_eq h) ss (locks_of ss h + 1)) ≡ (if locks_of ss h == 0 then locked_count ss + 1 else locked_count ss)
  lock_counted =
      let n = locks_of ss h in
      let sum = count_set h (n + 1) n ss found in
      let now : ◌≡◌ {A = ℕ} (one (h, n + 1)) 1 = ap (λ b. cond (not b) 1 0) (ne_eqb (n + 1) 0 (λ none. omega (arith, none))) in
      elim (cases_eq n 0) as (λ _. locked_count (set_value (nat_eq h) ss (n + 1)) ≡ (if n == 0 then locked_count ss + 1 else locked_count ss)) [
        | inl none ↦
            let was : ◌≡◌ {A = ℕ} (one (h, n)) 0 = ap (λ b. cond (not b) 1 0) (eq-eqb n 0 none) in
            omega (arith, sum, now, was) ∙ sym (cond-true _ _ _ (eq-eqb n 0 none))
        | inr some ↦
            let was : ◌≡◌ {A = ℕ} (one (h, n)) 1 = ap (λ b. cond (not b) 1 0) (ne_eqb n 0 some) in
            omega (arith, sum, now, was) ∙ sym (cond-false _ _ _ (ne_eqb n 0 some))
      ]

  pub unlock_counted : 0 < locks_of ss h → locked_count (set_value (nat_eq h) ss (locks_of ss h - 1)) ≡ (if locks_of ss h == 1 then locked_count ss - 1 else locked_count ss)
  unlock_counted locked =
      let n = locks_of ss h in
      let sum = count_set h (n - 1) n ss found in
      let was : ◌≡◌ {A = ℕ} (one (h, n)) 1 = ap (λ b. cond (not b) 1 0) (ne_eqb n 0 (λ none. omega (arith, none, locked))) in
      elim (cases_eq n 1) as (λ _. locked_count (set_value (nat_eq h) ss (n - 1)) ≡ (if n == 1 then locked_count ss - 1 else locked_count ss)) [
        | inl last ↦
            let now : ◌≡◌ {A = ℕ} (one (h, n - 1)) 0 = ap (λ b. cond (not b) 1 0) (eq-eqb (n - 1) 0 (omega (arith, last))) in
            omega (arith, sum, now, was) ∙ sym (cond-true _ _ _ (eq-eqb n 1 last))
        | inr more ↦
            let now : ◌≡◌ {A = ℕ} (one (h, n - 1)) 1 = ap (λ b. cond (not b) 1 0) (ne_eqb (n - 1) 0 (λ none. omega (arith, none, more, locked))) in
            omega (arith, sum, now, was) ∙ sym (cond-false _ _ _ (ne_eqb n 1 more))
      ]
