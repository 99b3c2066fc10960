-- Tables as finite maps: what `table_map` and `first_gap` say, slot by slot.
use Rattle.std.proofs.Common.{◌≡◌, ◌≢◌, ℕ, zero, suc, ◌+◌, ◌-◌, ◌*◌, ◌<◌, ◌≤◌, max, min, Bool, true, false, cond, not, ◌&&◌, T, List, [], ◌∷◌, ◌++◌, map, length, get_or, set, take, drop, replicate, Option, Some, None, is_some, if◌then◌else◌, nat_lt, ◌==◌, find, nat_cmp, is_lt, Less, Equal, Greater, refl, sym, ap, subst, ◌∙◌, inl, inr, arith, map-id, mul-suc, length-append}
use Rattle.std.proofs.lemmas.Bool.{lt-ltb, le-ltb, ne_eqb, eq-eqb, eqb-true, cases_Bool, cases_lt, cases_eq, cond-true, cond-false}
use Rattle.std.proofs.lemmas.List.{append-nil, length-replicate, length-set, length-take, get_or-take, get_or-set_same, get_or-set_other}
use Rattle.std.specs.List.{range_with_len}
use Rattle.std.specs.Cmp.{nat_cmp_total, unsigned_tied}
use Rattle.std.specs.FinMap.{get, entries, keys, values, insert, remove, empty, contains_key, from_entries, from_sorted, same_map, nat_cmp-IsAntisymmetric, get-empty, get-insert, get-remove, get-from_entries, get-from_sorted, entries-from_sorted}
use Rattle.std.specs.FinMap.Entries.{is_sorted, below_all}
use Rattle.geos_model.proofs.Table.{table_entries, table_map, first_gap}
use Rattle.geos_model.specs.Heap.{next_chunk, chunk_handles}
use Rattle.geos_model.specs.Document.{Block, next_handle, vm_handles, most_blocks}

-- the slot at a place, and none past the end
abbrev pub slot_at : {X : Type 0} → List (Option X) → ℕ → Option X
slot_at t i = get_or t i None

module _ {X : Type 0} where
  -- past the end there is nothing
  pub slot_at_past : (t : List (Option X)) (i : ℕ) → length t ≤ i → slot_at t i ≡ None
  slot_at_past [] i l = refl
  slot_at_past (o ∷ t) zero l = absurd (omega arith)
  slot_at_past (o ∷ t) (suc i) l = slot_at_past t i (omega arith)

  -- a slot with a value is in the table
  pub slot_at_within : (t : List (Option X)) (i : ℕ) → is_some (slot_at t i) ≡ true → i < length t
  slot_at_within [] i e = cc
  slot_at_within (o ∷ t) zero e = omega arith
  slot_at_within (o ∷ t) (suc i) e = let l = slot_at_within t i e in omega (arith, l)

  gaps_past : (t : List (Option X)) (k i : ℕ) → slot_at (t ++ replicate k None) i ≡ slot_at t i
  gaps_past [] zero i = refl
  gaps_past [] (suc k) zero = refl
  gaps_past [] (suc k) (suc i) = gaps_past [] k i
  gaps_past (o ∷ t) k zero = refl
  gaps_past (o ∷ t) k (suc i) = gaps_past t k i

  -- the table as far as a slot, behind gaps where it has no such slot
  abbrev pub slots_to : List (Option X) → ℕ → List (Option X)
  slots_to t i = t ++ replicate (i + 1 - length t) None

  pub length-slots_to : (t : List (Option X)) (i : ℕ) → length (slots_to t i) ≡ max (length t) (i + 1)
  length-slots_to t i = let n = i + 1 - length t in omega (arith, length-append t (replicate n None), length-replicate {A = Option X} n None)

  pub slot_at-slots_to : (t : List (Option X)) (i k : ℕ) → slot_at (slots_to t i) k ≡ slot_at t k
  slot_at-slots_to t i k = gaps_past t (i + 1 - length t) k

  -- the table with a value in a slot
  abbrev pub put_at : List (Option X) → ℕ → X → List (Option X)
  put_at t i x = set (slots_to t i) i (Some x)

  pub length-put_at : (t : List (Option X)) (i : ℕ) (x : X) → length (put_at t i x) ≡ max (length t) (i + 1)
  length-put_at t i x = length-set (slots_to t i) i (Some x) ∙ length-slots_to t i

  pub slot_at-put_same : (t : List (Option X)) (i : ℕ) (x : X) → slot_at (put_at t i x) i ≡ Some x
  slot_at-put_same t i x = get_or-set_same (slots_to t i) i (Some x) None (omega (arith, length-slots_to t i))

  pub slot_at-put_other : (t : List (Option X)) (i k : ℕ) (x : X) → k ≢ i → slot_at (put_at t i x) k ≡ slot_at t k
  slot_at-put_other t i k x other = get_or-set_other (slots_to t i) i k (Some x) None other ∙ slot_at-slots_to t i k

  -- a slot has a value then if it is this one, or had a value
  pub full-put_at : (t : List (Option X)) (i k : ℕ) (x : X) → (k ≢ i → is_some (slot_at t k) ≡ true) → is_some (slot_at (put_at t i x) k) ≡ true
  full-put_at t i k x full = elim (cases_eq k i) [
    | inl e ↦ ap (λ (j : ℕ). is_some (slot_at (put_at t i x) j)) e ∙ ap is_some (slot_at-put_same t i x)
    | inr e ↦ ap is_some (slot_at-put_other t i k x e) ∙ full e
  ]

  -- no gap is added where the slot is there
  pub put_at-within : (t : List (Option X)) (i : ℕ) (x : X) → i < length t → put_at t i x ≡ set t i (Some x)
  put_at-within t i x l =
      let none : i + 1 - length t ≡ 0 = omega arith in
      ap (λ (k : ℕ). set (t ++ replicate k None) i (Some x)) none ∙ ap (λ (s : List (Option X)). set s i (Some x)) (append-nil t)

  -- gaps that are left off at the end change no slot
  slot_at-cut : (t : List (Option X)) (n i : ℕ) → ((k : ℕ) → n ≤ k → slot_at t k ≡ None) → slot_at (take n t) i ≡ slot_at t i
  slot_at-cut t n i gaps = elim (cases_lt i n) [
    | inl l ↦ get_or-take n t i None l
    | inr l ↦ slot_at_past (take n t) i (omega (arith, length-take n t)) ∙ sym (gaps i l)
  ]

-- two tests that both hold
both : (a b : Bool) → T a → T b → T (a && b)
both true b p q = q
both false b p q = p

-- the same test a second time
same_twice : {A : Type 0} (b : Bool) (x y z : A) → cond b x (cond b y z) ≡ cond b x z
same_twice true x y z = refl
same_twice false x y z = refl

-- two tests that don't both hold
either_first : {A : Type 0} (a b : Bool) (x y z : A) → (a ≡ true → b ≡ true → ⊥) → cond a x (cond b y z) ≡ cond b y (cond a x z)
either_first true true x y z apart = absurd (apart refl refl)
either_first true false x y z apart = refl
either_first false b x y z apart = refl

-- a rank of numbers in order
rank-less : (x y : ℕ) → x < y → T (is_lt (nat_cmp x y))
rank-less x y l = subst (λ b. T (is_lt (cond b Less (cond (x == y) Equal Greater)))) (sym (lt-ltb x y l)) tt

-- the first place of a row, and the next ones
row-zero : (step h : ℕ) → h + step * 0 ≡ h
row-zero step h = omega arith

row-suc : (step h i : ℕ) → h + step * suc i ≡ h + step + step * i
row-suc step h i = omega (arith, mul-suc step i)

-- tables with the same slots show the same map
module _ {X : Type 0} (step : ℕ) where
  entries_cons : (h : ℕ) (o : Option X) (s t : List (Option X)) → table_entries step (h + step) s ≡ table_entries step (h + step) t → table_entries step h (o ∷ s) ≡ table_entries step h (o ∷ t)
  entries_cons h None s t same = same
  entries_cons h (Some x) s t same = ap (λ (es : List (ℕ × X)). (h, x) ∷ es) same

  entries_same : (h : ℕ) (s t : List (Option X)) → ((i : ℕ) → slot_at s i ≡ slot_at t i) → table_entries step h s ≡ table_entries step h t
  entries_same h [] [] same = refl
  entries_same h [] (p ∷ t) same = entries_cons h None [] t (entries_same (h + step) [] t (λ i. same (suc i))) ∙ ap (λ (o : Option X). table_entries step h (o ∷ t)) (same 0)
  entries_same h (o ∷ s) [] same = entries_cons h o s [] (entries_same (h + step) s [] (λ i. same (suc i))) ∙ ap (λ (p : Option X). table_entries step h (p ∷ [])) (same 0)
  entries_same h (o ∷ s) (p ∷ t) same = entries_cons h o s t (entries_same (h + step) s t (λ i. same (suc i))) ∙ ap (λ (q : Option X). table_entries step h (q ∷ t)) (same 0)

  pub table_map-same : (h : ℕ) (s t : List (Option X)) → ((i : ℕ) → slot_at s i ≡ slot_at t i) → table_map step h s ≡ table_map step h t
  unfolding table_map
  table_map-same h s t same = ap from_entries (entries_same h s t same)

  -- so gaps at the end show nothing
  pub table_map-cut : (h : ℕ) (t : List (Option X)) (n : ℕ) → ((k : ℕ) → n ≤ k → slot_at t k ≡ None) → table_map step h (take n t) ≡ table_map step h t
  table_map-cut h t n gaps = table_map-same h (take n t) t (λ i. slot_at-cut t n i gaps)

module _ {X : Type 0} {step : ℕ} (up : 0 < step) where
  below-table_entries : (x h : ℕ) (t : List (Option X)) → x < h → T (below_all nat_cmp x (table_entries step h t))
  below-table_entries x h [] l = tt
  below-table_entries x h (None ∷ t) l = below-table_entries x (h + step) t (omega arith)
  below-table_entries x h (Some v ∷ t) l = both _ _ (rank-less x h l) (below-table_entries x (h + step) t (omega arith))

  -- the handles of a table strictly rise
  pub is_sorted-table_entries : (h : ℕ) (t : List (Option X)) → T (is_sorted nat_cmp (table_entries step h t))
  is_sorted-table_entries h [] = tt
  is_sorted-table_entries h (None ∷ t) = is_sorted-table_entries (h + step) t
  is_sorted-table_entries h (Some v ∷ t) = both _ _ (below-table_entries h (h + step) t (omega arith)) (is_sorted-table_entries (h + step) t)

  -- the entries of the map are those of the table
  pub entries-table_map : (h : ℕ) (t : List (Option X)) → entries (table_map step h t) ≡ table_entries step h t
  unfolding table_map
  entries-table_map h t =
      let es : List (ℕ × X) = table_entries step h t in
      let rising : T (is_sorted nat_cmp es) = is_sorted-table_entries h t in
      let same : from_entries {R = nat_cmp} es ≡ from_sorted es = same_map nat_cmp_total nat_cmp-IsAntisymmetric _ _ (λ q. get-from_entries nat_cmp_total es q ∙ sym (get-from_sorted nat_cmp es q rising)) in
      ap entries same ∙ entries-from_sorted nat_cmp es rising

  pub keys-table_map : (h : ℕ) (t : List (Option X)) → keys (table_map step h t) ≡ map (λ e. e.0) (table_entries step h t)
  keys-table_map h t = ap (map (λ (e : ℕ × X). e.0)) (entries-table_map h t)

  pub values-table_map : (h : ℕ) (t : List (Option X)) → values (table_map step h t) ≡ map (λ e. e.1) (table_entries step h t)
  values-table_map h t = ap (map (λ (e : ℕ × X). e.1)) (entries-table_map h t)

  -- there is nothing below the first handle
  pub get-table_map_below : (h : ℕ) (t : List (Option X)) (q : ℕ) → q < h → get (table_map step h t) q ≡ None
  unfolding table_map
  get-table_map_below h [] q l = get-empty nat_cmp q
  get-table_map_below h (None ∷ t) q l = get-table_map_below (h + step) t q (omega arith)
  get-table_map_below h (Some x ∷ t) q l =
      let other : (q == h) ≡ false = ne_eqb q h (λ e. absurd (omega arith)) in
      get-insert nat_cmp_total _ h x q ∙ cond-false _ _ _ (unsigned_tied q h ∙ other) ∙ get-table_map_below (h + step) t q (omega arith)

  -- the slots of a table one by one
  pub get-table_map_nil : (h q : ℕ) → get (table_map {X = X} step h []) q ≡ None
  unfolding table_map
  get-table_map_nil h q = get-empty nat_cmp q

  pub get-table_map_cons : (h : ℕ) (o : Option X) (t : List (Option X)) (q : ℕ) → get (table_map step h (o ∷ t)) q ≡ cond (q == h) o (get (table_map step (h + step) t) q)
  unfolding table_map
  get-table_map_cons h (Some x) t q = get-insert nat_cmp_total _ h x q ∙ ap (λ b. cond b (Some x) (get (table_map step (h + step) t) q)) (unsigned_tied q h)
  get-table_map_cons h None t q = elim (cases_Bool (q == h)) [
    | inl e ↦
        let at : q ≡ h = eqb-true q h e in
        get-table_map_below (h + step) t q (omega arith) ∙ sym (cond-true _ _ _ e)
    | inr e ↦ sym (cond-false _ _ _ e)
  ]

  -- a key that is no handle of the table
  pub get-table_map_off : (h : ℕ) (t : List (Option X)) (q : ℕ) → ((i : ℕ) → i < length t → q ≢ h + step * i) → get (table_map step h t) q ≡ None
  get-table_map_off h [] q off = get-table_map_nil h q
  get-table_map_off h (o ∷ t) q off =
      let other : (q == h) ≡ false = ne_eqb q h (λ e. off 0 (omega arith) (e ∙ sym (row-zero step h))) in
      get-table_map_cons h o t q ∙ cond-false _ _ _ other ∙ get-table_map_off (h + step) t q (λ i l e. off (suc i) (omega arith) (e ∙ sym (row-suc step h i)))

  -- what is under the handle of a slot
  pub get-table_map : (h : ℕ) (t : List (Option X)) (i : ℕ) → get (table_map step h t) (h + step * i) ≡ slot_at t i
  get-table_map h [] i = get-table_map_nil h (h + step * i)
  get-table_map h (o ∷ t) zero = get-table_map_cons h o t (h + step * 0) ∙ cond-true _ _ _ (eq-eqb _ _ (row-zero step h))
  get-table_map h (o ∷ t) (suc i) =
      let next : h + step * suc i ≡ h + step + step * i = row-suc step h i in
      let other : (h + step * suc i == h) ≡ false = ne_eqb _ _ (λ e. absurd (omega arith)) in
      get-table_map_cons h o t (h + step * suc i) ∙ cond-false _ _ _ other ∙ ap (get (table_map step (h + step) t)) next ∙ get-table_map (h + step) t i

  -- the same at a key that is equal to the handle
  pub get-table_map_at : (h : ℕ) (t : List (Option X)) (i q : ℕ) → q ≡ h + step * i → get (table_map step h t) q ≡ slot_at t i
  get-table_map_at h t i q e = ap (get (table_map step h t)) e ∙ get-table_map h t i

  pub contains_key-table_map : (h : ℕ) (t : List (Option X)) (i : ℕ) → contains_key (table_map step h t) (h + step * i) ≡ is_some (slot_at t i)
  contains_key-table_map h t i = ap is_some (get-table_map h t i)

  -- what is under a key after a slot was set
  pub get-table_map_set : (h : ℕ) (t : List (Option X)) (i : ℕ) (o : Option X) (q : ℕ) → i < length t → get (table_map step h (set t i o)) q ≡ cond (q == h + step * i) o (get (table_map step h t) q)
  get-table_map_set h [] i o q l = absurd (omega arith)
  get-table_map_set h (a ∷ t) zero o q l =
      let first : h + step * 0 ≡ h = row-zero step h in
      get-table_map_cons h o t q
      ∙ sym (same_twice (q == h) o a (get (table_map step (h + step) t) q))
      ∙ ap (cond (q == h) o) (sym (get-table_map_cons h a t q))
      ∙ ap (λ (k : ℕ). cond (q == k) o (get (table_map step h (a ∷ t)) q)) (sym first)
  get-table_map_set h (a ∷ t) (suc i) o q l =
      let next : h + step * suc i ≡ h + step + step * i = row-suc step h i in
      get-table_map_cons h a (set t i o) q
      ∙ ap (cond (q == h) a) (get-table_map_set (h + step) t i o q (omega arith))
      ∙ either_first (q == h) (q == h + step + step * i) a o _ (λ x y. let e : q ≡ h = eqb-true q h x in let f : q ≡ h + step + step * i = eqb-true q _ y in absurd (omega arith))
      ∙ ap (cond (q == h + step + step * i) o) (sym (get-table_map_cons h a t q))
      ∙ ap (λ (k : ℕ). cond (q == k) o (get (table_map step h (a ∷ t)) q)) (sym next)

  -- a slot is filled
  pub table_map-set : (h : ℕ) (t : List (Option X)) (i : ℕ) (x : X) → i < length t → table_map step h (set t i (Some x)) ≡ insert (table_map step h t) (h + step * i) x
  table_map-set h t i x l = same_map nat_cmp_total nat_cmp-IsAntisymmetric _ _ (λ q.
      get-table_map_set h t i (Some x) q l
      ∙ sym (get-insert nat_cmp_total (table_map step h t) (h + step * i) x q ∙ ap (λ b. cond b (Some x) (get (table_map step h t) q)) (unsigned_tied q (h + step * i))))

  -- a slot is cleared
  pub table_map-clear : (h : ℕ) (t : List (Option X)) (i : ℕ) → i < length t → table_map step h (set t i None) ≡ remove (table_map step h t) (h + step * i)
  table_map-clear h t i l = same_map nat_cmp_total nat_cmp-IsAntisymmetric _ _ (λ q.
      get-table_map_set h t i None q l
      ∙ sym (get-remove nat_cmp_total (table_map step h t) (h + step * i) q ∙ ap (λ b. cond b None (get (table_map step h t) q)) (unsigned_tied q (h + step * i))))

  -- a value is put in a slot
  pub table_map-put : (h : ℕ) (t : List (Option X)) (i : ℕ) (x : X) → table_map step h (put_at t i x) ≡ insert (table_map step h t) (h + step * i) x
  table_map-put h t i x =
      table_map-set h (slots_to t i) i x (omega (arith, length-slots_to t i))
      ∙ ap (λ m. insert m (h + step * i) x) (table_map-same step h (slots_to t i) t (slot_at-slots_to t i))

-- nothing but gaps shows the empty map
pub table_map-nil : {X : Type 0} (step h : ℕ) → table_map {X = X} step h [] ≡ empty
unfolding table_map
table_map-nil step h = refl

pub table_map-nones : {X : Type 0} (step h n : ℕ) → table_map {X = X} step h (replicate n None) ≡ empty
unfolding table_map
table_map-nones step h zero = refl
table_map-nones step h (suc n) = table_map-nones step (h + step) n

-- an order one step on
less-suc : (a b : ℕ) → nat_lt a b ≡ nat_lt (suc a) (suc b)
less-suc a b = elim (cases_lt a b) [
  | inl l ↦ lt-ltb a b l ∙ sym (lt-ltb (suc a) (suc b) (omega arith))
  | inr l ↦ le-ltb a b l ∙ sym (le-ltb (suc a) (suc b) (omega arith))
]

-- the first of a row of numbers at which a table has a gap
pub find-first_gap : {X : Type 0} (p : ℕ → Bool) (f : ℕ → ℕ) (n a : ℕ) (t : List (Option X)) → ((i : ℕ) → p (f (a + i)) ≡ not (is_some (slot_at t i))) → find p (map f (range_with_len a n)) ≡ (if nat_lt (first_gap t) n then Some (f (a + first_gap t)) else None)
find-first_gap p f zero a t free = sym (cond-false _ _ _ (le-ltb (first_gap t) 0 (omega arith)))
find-first_gap p f (suc n) a [] free =
    let here : a + 0 ≡ a = omega arith in
    let passes : p (f a) ≡ true = ap (λ (k : ℕ). p (f k)) (sym here) ∙ free 0 in
    cond-true _ _ _ passes ∙ ap (λ (k : ℕ). Some (f k)) (sym here) ∙ sym (cond-true _ _ _ (lt-ltb 0 (suc n) (omega arith)))
find-first_gap p f (suc n) a (None ∷ t) free =
    let here : a + 0 ≡ a = omega arith in
    let passes : p (f a) ≡ true = ap (λ (k : ℕ). p (f k)) (sym here) ∙ free 0 in
    cond-true _ _ _ passes ∙ ap (λ (k : ℕ). Some (f k)) (sym here) ∙ sym (cond-true _ _ _ (lt-ltb 0 (suc n) (omega arith)))
find-first_gap p f (suc n) a (Some x ∷ t) free =
    let here : a + 0 ≡ a = omega arith in
    let fails : p (f a) ≡ false = ap (λ (k : ℕ). p (f k)) (sym here) ∙ free 0 in
    let shift : (i : ℕ) → a + suc i ≡ a + 1 + i = λ i. omega arith in
    cond-false _ _ _ fails
    ∙ find-first_gap p f n (a + 1) t (λ i. ap (λ (k : ℕ). p (f k)) (sym (shift i)) ∙ free (suc i))
    ∙ ap (λ (k : ℕ). if nat_lt (first_gap t) n then Some (f k) else None) (sym (shift (first_gap t)))
    ∙ ap (λ b. if b then Some (f (a + suc (first_gap t))) else None) (less-suc (first_gap t) n)

-- the least free handle of a row of n
pub find-table_map : {X : Type 0} {step : ℕ} (up : 0 < step) (h n : ℕ) (t : List (Option X)) → find (λ q. not (contains_key (table_map step h t) q)) (map (λ i. h + step * i) (range_with_len 0 n)) ≡ (if nat_lt (first_gap t) n then Some (h + step * first_gap t) else None)
find-table_map {step = step} up h n t =
    let at_zero : (i : ℕ) → 0 + i ≡ i = λ i. omega arith in
    find-first_gap (λ q. not (contains_key (table_map step h t) q)) (λ i. h + step * i) n 0 t (λ i. ap (λ (k : ℕ). not (contains_key (table_map step h t) (h + step * k))) (at_zero i) ∙ ap not (contains_key-table_map up h t i))
    ∙ ap (λ (k : ℕ). if nat_lt (first_gap t) n then Some (h + step * k) else None) (at_zero (first_gap t))

-- the least free chunk handle
pub next_chunk-table : (t : List (Option (List ℕ))) → next_chunk (table_map 2 16 t) ≡ (if nat_lt (first_gap t) 32752 then Some (16 + 2 * first_gap t) else None)
unfolding next_chunk chunk_handles
next_chunk-table t = find-table_map (omega arith) 16 32752 t

-- the least free handle of n block handles
find-blocks : (n : ℕ) (t : List (Option Block)) → find (λ q. not (contains_key (table_map 1 1 t) q)) (range_with_len 1 n) ≡ (if nat_lt (first_gap t) n then Some (1 + first_gap t) else None)
find-blocks n t =
    let twice : (i : ℕ) → 1 + i ≡ 1 + 1 * i = λ i. omega arith in
    ap (find (λ q. not (contains_key (table_map 1 1 t) q))) (sym (map-id (range_with_len 1 n)))
    ∙ find-first_gap (λ q. not (contains_key (table_map 1 1 t) q)) (λ q. q) n 1 t (λ i. ap (λ (k : ℕ). not (contains_key (table_map 1 1 t) k)) (twice i) ∙ ap not (contains_key-table_map (omega arith) 1 t i))

-- the least free block handle
pub next_handle-table : (t : List (Option Block)) (m : ℕ) → next_handle (record { blocks = table_map 1 1 t; map_block = m }) ≡ (if nat_lt (first_gap t) most_blocks then Some (1 + first_gap t) else None)
unfolding next_handle vm_handles
next_handle-table t m = find-blocks most_blocks t

module _ {X : Type 0} where
  -- below the first gap each slot has a value
  pub first_gap_below : (t : List (Option X)) (i : ℕ) → i < first_gap t → is_some (slot_at t i) ≡ true
  first_gap_below [] i l = absurd (omega arith)
  first_gap_below (None ∷ t) i l = absurd (omega arith)
  first_gap_below (Some x ∷ t) zero l = refl
  first_gap_below (Some x ∷ t) (suc i) l = first_gap_below t i (omega arith)

  -- at the first gap there is none
  pub first_gap_none : (t : List (Option X)) → slot_at t (first_gap t) ≡ None
  first_gap_none [] = refl
  first_gap_none (None ∷ t) = refl
  first_gap_none (Some x ∷ t) = first_gap_none t

  -- the first gap is where each slot below has a value and this one has none
  pub first_gap_is : (t : List (Option X)) (i : ℕ) → ((k : ℕ) → k < i → is_some (slot_at t k) ≡ true) → is_some (slot_at t i) ≡ false → first_gap t ≡ i
  first_gap_is [] zero full none = refl
  first_gap_is [] (suc i) full none = let e = full 0 (omega arith) in cc
  first_gap_is (None ∷ t) zero full none = refl
  first_gap_is (None ∷ t) (suc i) full none = let e = full 0 (omega arith) in cc
  first_gap_is (Some x ∷ t) zero full none = cc
  first_gap_is (Some x ∷ t) (suc i) full none = ap suc (first_gap_is t i (λ k l. full (suc k) (omega arith)) none)

  -- where each slot below has a value, the first gap is no less
  first_gap_past : (t : List (Option X)) (n : ℕ) → ((k : ℕ) → k < n → is_some (slot_at t k) ≡ true) → n ≤ first_gap t
  first_gap_past t n full = elim (cases_lt (first_gap t) n) [
    | inl l ↦ let e : false ≡ true = ap is_some (sym (first_gap_none t)) ∙ full (first_gap t) l in cc
    | inr l ↦ l
  ]

  first_gap-drop : (t : List (Option X)) (n : ℕ) → n ≤ first_gap t → first_gap t ≡ n + first_gap (drop n t)
  first_gap-drop t zero l = omega arith
  first_gap-drop [] (suc n) l = absurd (omega arith)
  first_gap-drop (None ∷ t) (suc n) l = absurd (omega arith)
  first_gap-drop (Some x ∷ t) (suc n) l = omega (arith, first_gap-drop t n (omega arith))

  -- of the first of the slots
  pub first_gap-take : (t : List (Option X)) (n : ℕ) → first_gap (take n t) ≡ min (first_gap t) n
  first_gap-take t zero = omega arith
  first_gap-take [] (suc n) = omega arith
  first_gap-take (None ∷ t) (suc n) = omega arith
  first_gap-take (Some x ∷ t) (suc n) = omega (arith, first_gap-take t n)

  -- the first gap once another slot has a value
  pub first_gap-put_other : (t : List (Option X)) (i : ℕ) (x : X) → first_gap t ≢ i → first_gap (put_at t i x) ≡ first_gap t
  first_gap-put_other t i x other =
      first_gap_is (put_at t i x) (first_gap t) (λ k l. full-put_at t i k x (λ e. first_gap_below t k l)) (ap is_some (slot_at-put_other t i (first_gap t) x other ∙ first_gap_none t))

  -- once it is filled itself
  pub first_gap-put_first : (t : List (Option X)) (i : ℕ) (x : X) → first_gap t ≡ i → first_gap (put_at t i x) ≡ i + 1 + first_gap (drop (i + 1) (put_at t i x))
  first_gap-put_first t i x is = first_gap-drop (put_at t i x) (i + 1) (first_gap_past (put_at t i x) (i + 1) (λ k l. full-put_at t i k x (λ e. first_gap_below t k (omega arith))))

  -- once a slot is cleared
  pub first_gap-clear : (t : List (Option X)) (i : ℕ) → i < length t → first_gap (set t i None) ≡ min (first_gap t) i
  first_gap-clear [] i l = absurd (omega arith)
  first_gap-clear (o ∷ t) zero l = omega arith
  first_gap-clear (None ∷ t) (suc i) l = omega arith
  first_gap-clear (Some x ∷ t) (suc i) l = omega (arith, first_gap-clear t i (omega arith))
