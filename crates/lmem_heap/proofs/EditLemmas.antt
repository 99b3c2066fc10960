-- What the writes of words and the moves of bytes leave.
use Rattle.std.proofs.Common.{◌≡◌, ℕ, ◌+◌, ◌/◌, ◌%◌, ◌<◌, ◌≤◌, List, ◌++◌, length, take, drop, get_or, sym, ap, ◌∙◌, arith, length-take, ◌≢◌, ◌-◌, ◌*◌, slice_range, replicate, refl, subst, inl, inr}
use Rattle.std.proofs.lemmas.List.{get_or-take, get_or-drop, get_or_append_left, length-replicate, get_or-replicate}
use Rattle.geos_model.specs.Words.{word}
use Rattle.raw_region.specs.Bytes.{put}
use Rattle.raw_region.proofs.Puts.{put_is, drop-put, drop-put_past, length-put}
use Rattle.lmem_heap.specs.Pieces.{word_in, entry}
use Rattle.std.proofs.lemmas.List.Edits.{length-between, get_or-between}
use Rattle.std.proofs.lemmas.Bool.{cases_lt, cases_eq}
use Rattle.lmem_heap.specs.Edits.{Same, IsSet, IsSlid, IsZeroed, IsSized, IsRangeCopied, IsLow, IsEntryLowered}

-- ---- the bytes of a region one by one, after a run of them was written over

module _ (xs ws : List ℕ) (at : ℕ) (le : at + length ws ≤ length xs) where
  pub get_or-put_before : (k d : ℕ) → k < at → get_or (put xs at ws) k d ≡ get_or xs k d
  get_or-put_before k d before =
      ap (λ (l : List ℕ). get_or l k d) (put_is xs ws at le)
      ∙ (get_or_append_left (take at xs) (ws ++ drop (at + length ws) xs) d k (omega (arith, length-take at xs)) ∙ get_or-take at xs k d before)

  pub get_or-put : (k d : ℕ) → k < length ws → get_or (put xs at ws) (at + k) d ≡ get_or ws k d
  get_or-put k d inside =
      sym (get_or-drop at (put xs at ws) k d) ∙ (ap (λ (l : List ℕ). get_or l k d) (drop-put xs ws at le) ∙ get_or_append_left ws (drop (at + length ws) xs) d k inside)

  pub get_or-put_past : (k d : ℕ) → at + length ws ≤ k → get_or (put xs at ws) k d ≡ get_or xs k d
  get_or-put_past k d past =
      let is : k + 0 ≡ k = omega arith in
      ap (λ (j : ℕ). get_or (put xs at ws) j d) (sym is)
      ∙ (sym (get_or-drop k (put xs at ws) 0 d) ∙ (ap (λ (l : List ℕ). get_or l 0 d) (drop-put_past xs ws at le k past) ∙ (get_or-drop k xs 0 d ∙ ap (λ (j : ℕ). get_or xs j d) is)))

-- a word that was written
pub word-put_word : (xs : List ℕ) (at v : ℕ) → at + 2 ≤ length xs → v < 65536 → word_in (put xs at (word v)) at ≡ v
unfolding word_in
word-put_word xs at v within small =
    let P = put xs at (word v) in let is : at + 0 ≡ at = omega arith in
    let low : get_or P at 0 ≡ v % 256 = ap (λ (j : ℕ). get_or P j 0) (sym is) ∙ get_or-put xs (word v) at within 0 0 (omega arith) in
    let high : get_or P (at + 1) 0 ≡ v / 256 % 256 = get_or-put xs (word v) at within 1 0 (omega arith) in
    omega (arith, low, high)

-- ---- what the writes of words and the moves of bytes leave

pub entry_word : (xs : List ℕ) (i p : ℕ) → p ≡ 16 + 2 * i → word_in xs p ≡ entry xs i
unfolding word_in entry
entry_word xs i p e = ap (λ (k : ℕ). get_or xs k 0 + 256 * get_or xs (k + 1) 0) e

pub set_is : (xs ys : List ℕ) (p v : ℕ) → ys ≡ put xs p (word v) → p + 2 ≤ length xs → v < 65536 → IsSet xs ys p v
set_is xs ys p v is within small = subst (λ (l : List ℕ). IsSet xs l p v) (sym is) (record {
  long = length-put xs (word v) p;
  word = word-put_word xs p v within small;
  before = λ k below. get_or-put_before xs (word v) p within k 0 below;
  behind = λ k past. get_or-put_past xs (word v) p within k 0 past;
})

pub slid_is : (xs ys : List ℕ) (p q n : ℕ) → ys ≡ put xs q (slice_range xs p (p + n)) → p + n ≤ length xs → q + n ≤ length xs → IsSlid xs ys p q n
slid_is xs ys p q n is from to =
    let ws = slice_range xs p (p + n) in let count : length ws ≡ n = omega (arith, length-between xs p (p + n) from) in
    let within : q + length ws ≤ length xs = omega arith in
    subst (λ (l : List ℕ). IsSlid xs l p q n) (sym is) (record {
      long = length-put xs ws q;
      moved = λ k l. get_or-put xs ws q within k 0 (omega arith) ∙ get_or-between xs p (p + n) k 0 (omega arith);
      before = λ k below. get_or-put_before xs ws q within k 0 below;
      behind = λ k past. get_or-put_past xs ws q within k 0 (omega arith);
    })

pub zeroed_is : (xs ys : List ℕ) (p n : ℕ) → ys ≡ put xs p (replicate n 0) → p + n ≤ length xs → IsZeroed xs ys p n
zeroed_is xs ys p n is fits =
    let ws = replicate n 0 in let count : length ws ≡ n = length-replicate {A = ℕ} n 0 in let within : p + length ws ≤ length xs = omega arith in
    subst (λ (l : List ℕ). IsZeroed xs l p n) (sym is) (record {
      long = length-put xs ws p;
      zeros = λ k l. get_or-put xs ws p within k 0 (omega arith) ∙ get_or-replicate n k 0 0 l;
      before = λ k below. get_or-put_before xs ws p within k 0 below;
      behind = λ k past. get_or-put_past xs ws p within k 0 (omega arith);
    })

-- a word of bytes that are the same
pub word_same : (xs ys : List ℕ) (p : ℕ) → get_or ys p 0 ≡ get_or xs p 0 → get_or ys (p + 1) 0 ≡ get_or xs (p + 1) 0 → word_in ys p ≡ word_in xs p
unfolding word_in
word_same xs ys p low high = omega (arith, low, high)

pub word_kept : (xs ys : List ℕ) (a b p : ℕ) → Same xs ys a b → a ≤ p → p + 2 ≤ b → word_in ys p ≡ word_in xs p
word_kept xs ys a b p same from to = word_same xs ys p (same.at p (omega arith) (omega arith)) (same.at (p + 1) (omega arith) (omega arith))

pub entry_kept : (xs ys : List ℕ) (a b i : ℕ) → Same xs ys a b → a ≤ 16 + 2 * i → 18 + 2 * i ≤ b → entry ys i ≡ entry xs i
entry_kept xs ys a b i same from to =
    let p = 16 + 2 * i in sym (entry_word ys i p refl) ∙ (word_kept xs ys a b p same from (omega arith) ∙ entry_word xs i p refl)

-- what a written word leaves before it and behind it
pub set_before : {xs ys : List ℕ} {p v : ℕ} (a b : ℕ) → IsSet xs ys p v → b ≤ p → Same xs ys a b
set_before a b s le = record { at = λ k from to. s.before k (omega arith) }

pub set_behind : {xs ys : List ℕ} {p v : ℕ} (a b : ℕ) → IsSet xs ys p v → p + 2 ≤ a → Same xs ys a b
set_behind a b s le = record { at = λ k from to. s.behind k (omega arith) }

pub same_same : {xs ys zs : List ℕ} {a b : ℕ} → Same xs ys a b → Same ys zs a b → Same xs zs a b
same_same s t = record { at = λ k from to. t.at k from to ∙ s.at k from to }

-- an entry that was written, and another
pub entry_set : {xs ys : List ℕ} {p v : ℕ} (i : ℕ) → IsSet xs ys p v → p ≡ 16 + 2 * i → entry ys i ≡ v
entry_set {ys = ys} {p = p} i s here = sym (entry_word ys i p here) ∙ s.word

pub entry_other : {xs ys : List ℕ} {p v : ℕ} (i j : ℕ) → IsSet xs ys p v → p ≡ 16 + 2 * i → j ≢ i → entry ys j ≡ entry xs j
entry_other {xs = xs} {ys = ys} {p = p} i j s here other = elim (cases_lt j i) [
  | inl below ↦ entry_kept xs ys 0 p j (set_before 0 p s (omega arith)) (omega arith) (omega arith)
  | inr above ↦ let b = 18 + 2 * j in entry_kept xs ys (p + 2) b j (set_behind (p + 2) b s (omega arith)) (omega arith) (omega arith)
]

-- the bytes of a piece, cut or with zeros behind them
pub sized_is : (xs us ys : List ℕ) (p size n : ℕ) → (size < n → IsZeroed xs us (p + 2 + size) (n - size)) → (n ≤ size → us ≡ xs) → IsSet us ys p n → IsSized xs ys p size n
sized_is xs us ys p size n more less head = elim (cases_lt size n) [
  | inl longer ↦
      let z = more longer in
      record {
        long = head.long ∙ z.long;
        head = head.word;
        front = λ k l. head.behind (p + 2 + k) (omega arith) ∙ z.before (p + 2 + k) (omega arith);
        zeros = λ k from to.
            let is : p + 2 + size + (k - size) ≡ p + 2 + k = omega arith in
            head.behind (p + 2 + k) (omega arith) ∙ (ap (λ (j : ℕ). get_or us j 0) (sym is) ∙ z.zeros (k - size) (omega arith));
        before = λ k l. head.before k l ∙ z.before k (omega arith);
        behind = λ k past over. head.behind k (omega arith) ∙ z.behind k (omega arith);
      }
  | inr shorter ↦
      let same = less shorter in
      record {
        long = head.long ∙ ap length same;
        head = head.word;
        front = λ k l. head.behind (p + 2 + k) (omega arith) ∙ ap (λ (l : List ℕ). get_or l (p + 2 + k) 0) same;
        zeros = λ k from to. absurd (omega arith);
        before = λ k l. head.before k l ∙ ap (λ (l : List ℕ). get_or l k 0) same;
        behind = λ k past over. head.behind k (omega arith) ∙ ap (λ (l : List ℕ). get_or l k 0) same;
      }
]

-- they are copied
pub copied_is : (xs us ys : List ℕ) (p q size n : ℕ) → size ≤ n → IsSlid xs us (p + 2) (q + 2) size → IsZeroed us ys (q + 2 + size) (n - size) → IsRangeCopied xs ys p q size n
copied_is xs us ys p q size n le slid z = record {
  long = z.long ∙ slid.long;
  moved = λ k l. z.before (q + 2 + k) (omega arith) ∙ slid.moved k l;
  zeros = λ k from to. let is : q + 2 + size + (k - size) ≡ q + 2 + k = omega arith in ap (λ (j : ℕ). get_or ys j 0) (sym is) ∙ z.zeros (k - size) (omega arith);
  before = λ k l. z.before k (omega arith) ∙ slid.before k l;
  behind = λ k past. z.behind k (omega arith) ∙ slid.behind k (omega arith);
}

-- ---- entries go down with the pieces that they point to

pub entry_lowered : (xs ys : List ℕ) (i m by e h : ℕ) → e ≡ entry xs i → by ≤ e → 1 < e → e < m → IsSet xs ys h (e - by) → h ≡ 16 + 2 * i → IsEntryLowered xs ys i m by
entry_lowered xs ys i m by e h is enough live below written here = record {
  long = written.long;
  own = record {
    low = λ l b. omega (arith, entry_set i written here);
    high = λ past. absurd (omega arith);
    dead = λ d. absurd (omega arith);
  };
  others = λ j ne. entry_other i j written here ne;
  beyond = λ k past. written.behind k (omega arith);
}

pub entry_left : (xs : List ℕ) (i m by e : ℕ) → e ≡ entry xs i → (1 < e → e < m → ⊥) → 1 < m → IsEntryLowered xs xs i m by
entry_left xs i m by e is none some = record {
  long = refl;
  own = record { low = λ l b. absurd (none (omega arith) (omega arith)); high = λ past. refl; dead = λ d. refl };
  others = λ j ne. refl;
  beyond = λ k past. refl;
}

pub record AreLowering (old xs : List ℕ) (t m by i : ℕ) : Type 0 where
  pub long : length xs ≡ length old
  pub done : (j : ℕ) → j < i → IsLow old xs m by j
  pub todo : (j : ℕ) → i ≤ j → entry xs j ≡ entry old j
  pub beyond : (k : ℕ) → 16 + 2 * t ≤ k → get_or xs k 0 ≡ get_or old k 0

low_kept : (old xs ys : List ℕ) (m by j k : ℕ) → k ≡ j → entry ys k ≡ entry xs k → IsLow old xs m by j → IsLow old ys m by j
low_kept old xs ys m by j k here same l =
    let e : entry ys j ≡ entry xs j = ap (λ (q : ℕ). entry ys q) (sym here) ∙ (same ∙ ap (λ (q : ℕ). entry xs q) here) in
    record { low = λ a b. ap (λ (q : ℕ). q + by) e ∙ l.low a b; high = λ a. e ∙ l.high a; dead = λ a. e ∙ l.dead a }

low_old : (old xs ys : List ℕ) (m by i : ℕ) → entry xs i ≡ entry old i → IsLow xs ys m by i → IsLow old ys m by i
low_old old xs ys m by i same l = record {
  low = λ a b. l.low (omega arith) (omega arith) ∙ same;
  high = λ a. l.high (omega arith) ∙ same;
  dead = λ a. l.dead (omega arith) ∙ same;
}

pub lowering_next : (old xs ys : List ℕ) (t m by i : ℕ) → i < t → AreLowering old xs t m by i → IsEntryLowered xs ys i m by → AreLowering old ys t m by (i + 1)
lowering_next old xs ys t m by i within w h = record {
  long = h.long ∙ w.long;
  done = λ j l. elim (cases_eq j i) [
    | inl here ↦ subst (λ (q : ℕ). IsLow old ys m by q) (sym here) (low_old old xs ys m by i (w.todo i (omega arith)) h.own)
    | inr other ↦ low_kept old xs ys m by j j refl (h.others j other) (w.done j (omega arith))
  ];
  todo = λ j above. let ne : j ≢ i = omega arith in h.others j ne ∙ w.todo j (omega arith);
  beyond = λ k past. h.beyond k (omega arith) ∙ w.beyond k past;
}
