-- The order of use.
use Rattle.std.proofs.Common.{◌≡◌, ◌⊎◌, ℕ, suc, ◌<◌, ◌≤◌, ◌==◌, nat_eq, nat_le, Bool, true, false, cond, not, List, [], ◌∷◌, length, Option, None, Some, is_some, refl, sym, ap, subst, ◌∙◌, arith, inl, inr, unwrap_or, le-leb, reverse, eq-eqb, eqb-true, leb-true}
use Rattle.std.specs.Prelude.{◌||◌, find, MatchOption}
use Rattle.std.specs.List.{IsDistinct, filter, list_any}
use Rattle.std.specs.Cmp.{nat_eq_equiv}
use Rattle.std.proofs.lemmas.Map.{lookup-remove_entry}
use Rattle.std.proofs.lemmas.Bool.{cases_Bool, cases_eq, ne_eqb}
use Rattle.std.proofs.lemmas.List.{reverse-append}
use Rattle.std.proofs.lemmas.List.Folds.{find-append}
use Rattle.std.proofs.lemmas.List.Sums.{sum_by-cons}
use Rattle.std.specs.Option.{option_map_or, option_map, option_or}
use Rattle.std.specs.Map.{lookup, lookup_entry, remove_entry, set_value, keys_of}
use Rattle.lru.specs.LruCache.{promoted}
use Rattle.vm_blocks.specs.State.{ResidentBlock, is_resident, is_block_locked, locked_count, all_frames_locked, victim, evicted}
use Rattle.vm_blocks.specs.Frames.{frame_of, residents, with_frame, changed_in, is_changed_in}
use Rattle.vm_blocks.specs.declared.frame.Frame.{Frame}

pub residents-remove : (h : ℕ) (es : List (ℕ × Frame)) → residents (remove_entry (nat_eq h) es) ≡ remove_entry (nat_eq h) (residents es)
residents-remove h [] = refl
residents-remove h (e ∷ es) = elim (nat_eq h e.0) as (λ b. residents (cond b es (e ∷ remove_entry (nat_eq h) es)) ≡ cond b (residents es) ((e.0, e.1.locks) ∷ remove_entry (nat_eq h) (residents es))) [
  | true ↦ refl
  | false ↦ ap (λ ss. (e.0, e.1.locks) ∷ ss) (residents-remove h es)
]

pub lookup-residents : (h : ℕ) (es : List (ℕ × Frame)) → lookup (nat_eq h) (residents es) ≡ option_map (λ f. f.locks) (frame_of es h)
lookup-residents h [] = refl
lookup-residents h (e ∷ es) = elim (nat_eq h e.0) as (λ b. cond b (Some e.1.locks) (lookup (nat_eq h) (residents es)) ≡ option_map (λ f. f.locks) (cond b (Some e.1) (frame_of es h))) [
  | true ↦ refl
  | false ↦ lookup-residents h es
]

some_map : {A B : Type 0} (g : A → B) (o : Option A) → is_some (option_map g o) ≡ is_some o
some_map g None = refl
some_map g (Some a) = refl

pub resident_is : (h : ℕ) (es : List (ℕ × Frame)) → is_resident (residents es) h ≡ is_some (frame_of es h)
resident_is h es = ap is_some (lookup-residents h es) ∙ some_map (λ (f : Frame). f.locks) (frame_of es h)

pub residents-length : (es : List (ℕ × Frame)) → length (residents es) ≡ length es
residents-length [] = refl
residents-length (e ∷ es) = ap suc (residents-length es)

-- another frame of a block
pub residents-set_value : (h : ℕ) (es : List (ℕ × Frame)) (g : Frame) → residents (set_value (nat_eq h) es g) ≡ set_value (nat_eq h) (residents es) g.locks
residents-set_value h [] g = refl
residents-set_value h (e ∷ es) g = elim (nat_eq h e.0) as (λ b. residents (cond b ((e.0, g) ∷ es) (e ∷ set_value (nat_eq h) es g)) ≡ cond b ((e.0, g.locks) ∷ residents es) ((e.0, e.1.locks) ∷ set_value (nat_eq h) (residents es) g.locks)) [
  | true ↦ refl
  | false ↦ ap (λ ss. (e.0, e.1.locks) ∷ ss) (residents-set_value h es g)
]

same_value : (h : ℕ) (ss : List ResidentBlock) (v : ℕ) → lookup (nat_eq h) ss ≡ Some v → set_value (nat_eq h) ss v ≡ ss
same_value h [] v is = refl
same_value h (s ∷ ss) v is = (elim (nat_eq h s.0) as (λ b. cond b (Some s.1) (lookup (nat_eq h) ss) ≡ Some v → cond b ((s.0, v) ∷ ss) (s ∷ set_value (nat_eq h) ss v) ≡ s ∷ ss) [
  | true ↦ λ here. let at : s.1 ≡ v = ap (λ (o : Option ℕ). unwrap_or o s.1) here in ap (λ n. (s.0, n) ∷ ss) (sym at)
  | false ↦ λ on. ap (λ l. s ∷ l) (same_value h ss v on)
]) is

pub seats_kept : (h : ℕ) (es : List (ℕ × Frame)) (f g : Frame) → frame_of es h ≡ Some f → g.locks ≡ f.locks → residents (set_value (nat_eq h) es g) ≡ residents es
seats_kept h es f g is same = residents-set_value h es g ∙ ap (set_value (nat_eq h) (residents es)) same ∙ same_value h (residents es) f.locks (lookup-residents h es ∙ ap (option_map (λ (x : Frame). x.locks)) is)

-- one fewer
pub length-removed : {X : Type 0} (test : ℕ → Bool) (es : List (ℕ × X)) → is_some (lookup test es) ≡ true → length (remove_entry test es) < length es
length-removed test [] some = absurd (cc some)
length-removed test (e ∷ es) some = (elim (test e.0) as (λ b. is_some (cond b (Some e.1) (lookup test es)) ≡ true → length (cond b es (e ∷ remove_entry test es)) < length (e ∷ es)) [
  | true ↦ λ _. omega arith
  | false ↦ λ more. let less = length-removed test es more in omega (arith, less)
]) some

-- the block that has to go

either : (e : ℕ × Frame) (o : Option (ℕ × Frame)) (b : Bool) (v : Option ℕ) → option_map (λ (e : ℕ × Frame). e.0) o ≡ v → option_map (λ (e : ℕ × Frame). e.0) (option_or o (cond b (Some e) None)) ≡ option_map_or (λ h. Some h) v (cond (not b) None (Some e.0))
either e (Some x) b v is = ap (λ w. option_map_or (λ h. Some h) w (cond (not b) None (Some e.0))) is
either e None true v is = ap (λ w. option_map_or (λ h. Some h) w (Some e.0)) is
either e None false v is = ap (λ w. option_map_or (λ h. Some h) w None) is

pub victim_is : (es : List (ℕ × Frame)) → option_map (λ (e : ℕ × Frame). e.0) (find (λ (e : ℕ × Frame). e.1.locks == 0) (reverse es)) ≡ victim (residents es)
victim_is [] = refl
victim_is (e ∷ es) =
    let free : ℕ × Frame → Bool = λ e. e.1.locks == 0 in
    let on : find free (reverse (e ∷ es)) ≡ option_or (find free (reverse es)) (cond (free e) (Some e) None) = ap (find free) (reverse-append (e ∷ []) es) ∙ find-append free (reverse es) (e ∷ []) in
    ap (option_map (λ (e : ℕ × Frame). e.0)) on ∙ either e (find free (reverse es)) (free e) (victim (residents es)) (victim_is es)

found_on : (s : ResidentBlock) (ss : List ResidentBlock) (h : ℕ) → is_some (lookup (nat_eq h) ss) ≡ true → is_some (lookup (nat_eq h) (s ∷ ss)) ≡ true
found_on s ss h is = elim (nat_eq h s.0) as (λ b. is_some (cond b (Some s.1) (lookup (nat_eq h) ss)) ≡ true) [ true ↦ refl | false ↦ is ]

there_at : (s : ResidentBlock) (ss : List ResidentBlock) (h : ℕ) (o : Option ℕ) (b : Bool) → ((k : ℕ) → o ≡ Some k → is_some (lookup (nat_eq k) ss) ≡ true) → option_map_or (λ h. Some h) o (cond b None (Some s.0)) ≡ Some h → is_some (lookup (nat_eq h) (s ∷ ss)) ≡ true
there_at s ss h (Some k) b more same = let is : k ≡ h = ap (λ (o : Option ℕ). unwrap_or o k) same in found_on s ss h (more h (ap (λ n. Some n) is))
there_at s ss h None true more same = absurd (cc same)
there_at s ss h None false more same = let is : s.0 ≡ h = ap (λ (o : Option ℕ). unwrap_or o s.0) same in ap (λ b. is_some (cond b (Some s.1) (lookup (nat_eq h) ss))) (eq-eqb h s.0 (sym is))

pub victim_there : (ss : List ResidentBlock) (h : ℕ) → victim ss ≡ Some h → is_some (lookup (nat_eq h) ss) ≡ true
victim_there [] h is = absurd (cc is)
victim_there (s ∷ ss) h is = there_at s ss h (victim ss) (is_block_locked s) (λ k at. victim_there ss k at) is

none_at : (s : ResidentBlock) (ss : List ResidentBlock) (o : Option ℕ) (b : Bool) → is_block_locked s ≡ b → (o ≡ None → locked_count ss ≡ length ss) → option_map_or (λ h. Some h) o (cond b None (Some s.0)) ≡ None → locked_count (s ∷ ss) ≡ length (s ∷ ss)
none_at s ss (Some k) b locked more same = absurd (cc same)
none_at s ss None true locked more same = let on = more refl in let one : ◌≡◌ {A = ℕ} (cond (is_block_locked s) 1 0) 1 = ap (λ b. cond b 1 0) locked in let sum = sum_by-cons (λ (x : ResidentBlock). cond (is_block_locked x) 1 0) s ss in omega (arith, on, one, sum)
none_at s ss None false locked more same = absurd (cc same)

pub no_victim : (ss : List ResidentBlock) → victim ss ≡ None → locked_count ss ≡ length ss
no_victim [] is = refl
no_victim (s ∷ ss) is = none_at s ss (victim ss) (is_block_locked s) refl (λ at. no_victim ss at) is

some_by : (o : Option ℕ) → (o ≡ None → ⊥) → is_some o ≡ true
some_by (Some k) never = refl
some_by None never = absurd (never refl)

pub has_victim : (frames : ℕ) (ss : List ResidentBlock) → frames ≤ length ss → all_frames_locked frames ss ≡ false → is_some (victim ss) ≡ true
has_victim frames ss full some = some_by (victim ss) (λ at. let count = no_victim ss at in let wrong : true ≡ false = sym (le-leb frames (locked_count ss) (omega (arith, count, full))) ∙ some in absurd (cc wrong))

-- a block that is there goes first

pub residents-lookup_entry : (h : ℕ) (es : List (ℕ × Frame)) → lookup_entry (nat_eq h) (residents es) ≡ option_map (λ e. (e.0, e.1.locks)) (lookup_entry (nat_eq h) es)
residents-lookup_entry h [] = refl
residents-lookup_entry h (e ∷ es) = elim (nat_eq h e.0) as (λ b. cond b (Some (e.0, e.1.locks)) (lookup_entry (nat_eq h) (residents es)) ≡ option_map (λ (e : ℕ × Frame). (e.0, e.1.locks)) (cond b (Some e) (lookup_entry (nat_eq h) es))) [
  | true ↦ refl
  | false ↦ residents-lookup_entry h es
]

first_by : (h : ℕ) (es : List (ℕ × Frame)) (o : Option (ℕ × Frame)) → residents (option_map_or (λ e. e ∷ remove_entry (nat_eq h) es) o es) ≡ option_map_or (λ s. s ∷ remove_entry (nat_eq h) (residents es)) (option_map (λ (e : ℕ × Frame). (e.0, e.1.locks)) o) (residents es)
first_by h es None = refl
first_by h es (Some e) = ap (λ ss. (e.0, e.1.locks) ∷ ss) (residents-remove h es)

pub residents-promoted : (h : ℕ) (es : List (ℕ × Frame)) → residents (promoted (nat_eq h) es) ≡ promoted (nat_eq h) (residents es)
residents-promoted h es = first_by h es (lookup_entry (nat_eq h) es) ∙ sym (ap (λ o. option_map_or (λ (s : ResidentBlock). s ∷ remove_entry (nat_eq h) (residents es)) o (residents es)) (residents-lookup_entry h es))

pub entry_found : (h : ℕ) (es : List (ℕ × Frame)) → option_map (λ (e : ℕ × Frame). e.1) (lookup_entry (nat_eq h) es) ≡ frame_of es h
entry_found h [] = refl
entry_found h (e ∷ es) = elim (nat_eq h e.0) as (λ b. option_map (λ (e : ℕ × Frame). e.1) (cond b (Some e) (lookup_entry (nat_eq h) es)) ≡ cond b (Some e.1) (frame_of es h)) [
  | true ↦ refl
  | false ↦ entry_found h es
]

key_found : (h : ℕ) (es : List (ℕ × Frame)) (e : ℕ × Frame) → lookup_entry (nat_eq h) es ≡ Some e → e.0 ≡ h
key_found h [] e is = absurd (cc is)
key_found h (x ∷ es) e is = (elim (nat_eq h x.0) as (λ b. nat_eq h x.0 ≡ b → cond b (Some x) (lookup_entry (nat_eq h) es) ≡ Some e → e.0 ≡ h) [
  | true ↦ λ at same. let is : x ≡ e = ap (λ (o : Option (ℕ × Frame)). unwrap_or o x) same in sym (ap (λ (p : ℕ × Frame). p.0) is) ∙ sym (eqb-true h x.0 at)
  | false ↦ λ at more. key_found h es e more
]) refl is

held_first : (h q : ℕ) (es : List (ℕ × Frame)) (o : Option (ℕ × Frame)) → IsDistinct nat_eq (keys_of es) → lookup_entry (nat_eq h) es ≡ o → frame_of (option_map_or (λ e. e ∷ remove_entry (nat_eq h) es) o es) q ≡ frame_of es q
held_first h q es None distinct is = refl
held_first h q es (Some e) distinct is =
    let key : e.0 ≡ h = key_found h es e is in
    let found : Some e.1 ≡ frame_of es h = sym (ap (option_map (λ (e : ℕ × Frame). e.1)) is) ∙ entry_found h es in
    let rest : frame_of (remove_entry (nat_eq h) es) q ≡ cond (nat_eq h q) None (frame_of es q) = lookup-remove_entry nat_eq_equiv (nat_eq h) (nat_eq_equiv.congr h) q es distinct in
    elim (cases_eq q h) as (λ _. cond (nat_eq q e.0) (Some e.1) (frame_of (remove_entry (nat_eq h) es) q) ≡ frame_of es q) [
      | inl at ↦ ap (λ b. cond b (Some e.1) (frame_of (remove_entry (nat_eq h) es) q)) (eq-eqb q e.0 (at ∙ sym key)) ∙ found ∙ ap (frame_of es) (sym at)
      | inr other ↦ ap (λ b. cond b (Some e.1) (frame_of (remove_entry (nat_eq h) es) q)) (ne_eqb q e.0 (λ is. other (is ∙ key))) ∙ rest ∙ ap (λ b. cond b None (frame_of es q)) (ne_eqb h q (λ is. other (sym is)))
    ]

pub held-promoted : (h q : ℕ) (es : List (ℕ × Frame)) → IsDistinct nat_eq (keys_of es) → frame_of (promoted (nat_eq h) es) q ≡ frame_of es q
held-promoted h q es distinct = held_first h q es (lookup_entry (nat_eq h) es) distinct refl

-- a block that isn't in memory moves nothing
pub absent_stays : (h : ℕ) (es : List (ℕ × Frame)) → is_some (frame_of es h) ≡ false → promoted (nat_eq h) es ≡ es
absent_stays h es out = by (lookup_entry (nat_eq h) es) (ap is_some (entry_found h es) ∙ out)
  where
    by : (o : Option (ℕ × Frame)) → is_some (option_map (λ (e : ℕ × Frame). e.1) o) ≡ false → option_map_or (λ e. e ∷ remove_entry (nat_eq h) es) o es ≡ es
    by None out = refl
    by (Some e) out = absurd (cc out)

-- a block that isn't in memory doesn't come in when another goes

removed_absent : (h : ℕ) (test : ℕ → Bool) (ss : List ResidentBlock) → lookup (nat_eq h) ss ≡ None → lookup (nat_eq h) (remove_entry test ss) ≡ None
removed_absent h test [] none = refl
removed_absent h test (s ∷ ss) none = (elim (nat_eq h s.0) as (λ b. nat_eq h s.0 ≡ b → cond b (Some s.1) (lookup (nat_eq h) ss) ≡ None → lookup (nat_eq h) (cond (test s.0) ss (s ∷ remove_entry test ss)) ≡ None) [
  | true ↦ λ at wrong. absurd (cc wrong)
  | false ↦ λ at more. elim (test s.0) as (λ t. lookup (nat_eq h) (cond t ss (s ∷ remove_entry test ss)) ≡ None) [
    | true ↦ more
    | false ↦ ap (λ b. cond b (Some s.1) (lookup (nat_eq h) (remove_entry test ss))) at ∙ removed_absent h test ss more
  ]
]) refl none

absent_by : (h : ℕ) (ss : List ResidentBlock) (o : Option ℕ) → lookup (nat_eq h) ss ≡ None → lookup (nat_eq h) (option_map_or (λ k. remove_entry (nat_eq k) ss) o ss) ≡ None
absent_by h ss None none = none
absent_by h ss (Some k) none = removed_absent h (nat_eq k) ss none

absent_cond : (h : ℕ) (ss : List ResidentBlock) (b : Bool) → lookup (nat_eq h) ss ≡ None → lookup (nat_eq h) (cond b ss (evicted ss)) ≡ None
absent_cond h ss true none = none
absent_cond h ss false none = absent_by h ss (victim ss) none

pub none_held : {X : Type 0} (o : Option X) → is_some o ≡ false → o ≡ None
none_held None is = refl
none_held (Some x) is = absurd (cc is)

pub still_away : (h : ℕ) (ss ts : List ResidentBlock) (b : Bool) → ts ≡ cond b ss (evicted ss) → is_resident ss h ≡ false → is_resident ts h ≡ false
still_away h ss ts b is away = ap (λ us. is_some (lookup (nat_eq h) us)) is ∙ ap is_some (absent_cond h ss b (none_held (lookup (nat_eq h) ss) away))

either_seats : (b : Bool) (ss ts : List ResidentBlock) → ts ≡ cond b ss (evicted ss) → (ts ≡ ss) ⊎ (ts ≡ evicted ss)
either_seats true ss ts is = inl is
either_seats false ss ts is = inr is

pub either_left : (b : Bool) (ss ts : List ResidentBlock) → ts ≡ cond b ss (evicted ss) → (ts ≡ ss) ⊎ (ts ≡ evicted ss)
either_left b ss ts is = either_seats b ss ts is

-- which are changed

pub changed_listed : (h : ℕ) (es : List (ℕ × Frame)) → is_changed_in es h ≡ true → list_any (nat_eq h) (changed_in es) ≡ true
changed_listed h [] wrong = absurd (cc wrong)
changed_listed h (e ∷ es) changed = (elim (nat_eq h e.0) as (λ b. nat_eq h e.0 ≡ b → option_map_or (λ (f : Frame). f.changed) (cond b (Some e.1) (frame_of es h)) false ≡ true → list_any (nat_eq h) (changed_in (e ∷ es)) ≡ true) [
  | true ↦ λ here changed. ap (λ t. list_any (nat_eq h) (keys_of (cond t (e ∷ filter (λ (e : ℕ × Frame). e.1.changed) es) (filter (λ (e : ℕ × Frame). e.1.changed) es)))) changed ∙ ap (λ t. t || list_any (nat_eq h) (changed_in es)) here
  | false ↦ λ other changed. elim e.1.changed as (λ t. list_any (nat_eq h) (keys_of (cond t (e ∷ filter (λ (e : ℕ × Frame). e.1.changed) es) (filter (λ (e : ℕ × Frame). e.1.changed) es))) ≡ true) [
    | true ↦ ap (λ t. t || list_any (nat_eq h) (changed_in es)) other ∙ changed_listed h es changed
    | false ↦ changed_listed h es changed
  ]
]) refl changed

-- locks

pub locks_below : (o : Option Frame) (n : ℕ) → unwrap_or (option_map (λ f. f.locks) o) 0 < n → MatchOption o (Unit {0}) (λ f. f.locks < n)
locks_below None n low = tt
locks_below (Some f) n low = low

pub locks_under : (o : Option Frame) (n : ℕ) (f : Frame) → o ≡ Some f → MatchOption o (Unit {0}) (λ f. f.locks < n) → f.locks < n
locks_under o n f is low = subst (λ o. MatchOption o (Unit {0}) (λ f. f.locks < n)) is low

pub locks_some : (o : Option Frame) → 0 < unwrap_or (option_map (λ f. f.locks) o) 0 → MatchOption o (Unit {0}) (λ f. 0 < f.locks)
locks_some None low = tt
locks_some (Some f) low = low

pub residents-with_frame : (h : ℕ) (es : List (ℕ × Frame)) (g : Frame → Frame) (f : Frame) → frame_of es h ≡ Some f → residents (with_frame es h g) ≡ set_value (nat_eq h) (residents es) (g f).locks
residents-with_frame h es g f is = ap (λ o. residents (option_map_or (λ (f : Frame). set_value (nat_eq h) es (g f)) o es)) is ∙ residents-set_value h es (g f)

same_by : (h : ℕ) (es : List (ℕ × Frame)) (g : Frame → Frame) → ((f : Frame) → (g f).locks ≡ f.locks) → (o : Option Frame) → frame_of es h ≡ o → residents (option_map_or (λ f. set_value (nat_eq h) es (g f)) o es) ≡ residents es
same_by h es g same None is = refl
same_by h es g same (Some f) is = seats_kept h es f (g f) is (same f)

pub seats_same : (h : ℕ) (es : List (ℕ × Frame)) (g : Frame → Frame) → ((f : Frame) → (g f).locks ≡ f.locks) → residents (with_frame es h g) ≡ residents es
seats_same h es g same = same_by h es g same (frame_of es h) refl

pub frame_by : (o : Option Frame) → is_some o ≡ true → (f : Frame) × (o ≡ Some f)
frame_by None is = absurd (cc is)
frame_by (Some f) is = (f, refl)

pub locked_there : (h : ℕ) (ss : List ResidentBlock) → 0 < unwrap_or (lookup (nat_eq h) ss) 0 → is_some (lookup (nat_eq h) ss) ≡ true
locked_there h ss low = by (lookup (nat_eq h) ss) low
  where
    by : (o : Option ℕ) → 0 < unwrap_or o 0 → is_some o ≡ true
    by None low = absurd (omega (arith, low))
    by (Some n) low = refl

-- how many blocks are locked

pub fewer_locked : (ss : List ResidentBlock) → locked_count ss ≤ length ss
fewer_locked [] = omega arith
fewer_locked (s ∷ ss) =
    let on = fewer_locked ss in
    let sum = sum_by-cons (λ (x : ResidentBlock). cond (is_block_locked x) 1 0) s ss in
    let one = at_most_one (is_block_locked s) in
    omega (arith, on, sum, one)
  where
    at_most_one : (b : Bool) → cond b 1 0 ≤ 1
    at_most_one true = omega arith
    at_most_one false = omega arith

free_at : (s : ResidentBlock) (ss : List ResidentBlock) (h : ℕ) (o : Option ℕ) (b : Bool) → is_block_locked s ≡ b → ((k : ℕ) → o ≡ Some k → locked_count ss < length ss) → option_map_or (λ h. Some h) o (cond b None (Some s.0)) ≡ Some h → locked_count (s ∷ ss) < length (s ∷ ss)
free_at s ss h (Some k) true locked more same =
    let on = more k refl in
    let one : ◌≡◌ {A = ℕ} (cond (is_block_locked s) 1 0) 1 = ap (λ b. cond b 1 0) locked in
    let sum = sum_by-cons (λ (x : ResidentBlock). cond (is_block_locked x) 1 0) s ss in
    omega (arith, on, one, sum)
free_at s ss h (Some k) false locked more same =
    let on = more k refl in
    let one : ◌≡◌ {A = ℕ} (cond (is_block_locked s) 1 0) 0 = ap (λ b. cond b 1 0) locked in
    let sum = sum_by-cons (λ (x : ResidentBlock). cond (is_block_locked x) 1 0) s ss in
    omega (arith, on, one, sum)
free_at s ss h None true locked more same = absurd (cc same)
free_at s ss h None false locked more same =
    let on = fewer_locked ss in
    let one : ◌≡◌ {A = ℕ} (cond (is_block_locked s) 1 0) 0 = ap (λ b. cond b 1 0) locked in
    let sum = sum_by-cons (λ (x : ResidentBlock). cond (is_block_locked x) 1 0) s ss in
    omega (arith, on, one, sum)

pub victim_free : (ss : List ResidentBlock) (h : ℕ) → victim ss ≡ Some h → locked_count ss < length ss
victim_free [] h is = absurd (cc is)
victim_free (s ∷ ss) h is = free_at s ss h (victim ss) (is_block_locked s) refl (λ k at. victim_free ss k at) is

pub some_free : (frames : ℕ) (ss : List ResidentBlock) → locked_count ss < frames → all_frames_locked frames ss ≡ false
some_free frames ss below =
    elim (cases_Bool (nat_le frames (locked_count ss))) as (λ _. all_frames_locked frames ss ≡ false) [
      | inl full ↦ let above = leb-true frames (locked_count ss) full in absurd (omega (arith, above, below))
      | inr out ↦ out
    ]

pub none_free : (frames : ℕ) (ss : List ResidentBlock) → length ss ≤ frames → frames ≤ length ss → victim ss ≡ None → all_frames_locked frames ss ≡ true
none_free frames ss most least is = let all = no_victim ss is in le-leb frames (locked_count ss) (omega (arith, all, most, least))
