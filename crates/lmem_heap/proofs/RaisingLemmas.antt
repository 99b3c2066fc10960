-- The words of a table that are places within a run go up.
use Rattle.std.proofs.Common.{◌≡◌, ℕ, ◌+◌, ◌-◌, ◌*◌, ◌<◌, ◌≤◌, List, [], ◌∷◌, ◌++◌, length, take, drop, get_or, slice_range, refl, sym, ap, ◌∙◌, inl, inr, arith, length-take, length-append}
use Rattle.std.proofs.lemmas.Bool.{cases_lt}
use Rattle.std.specs.Int.{w16, to_le_bytes, from_le_bytes}
use borrow.Rule.Slice.PartMut.{put_mid}
use Rattle.std.proofs.lemmas.List.{get_or-take, get_or-drop, get_or_append_left, get_or-append_right, length-drop}
use Rattle.std.proofs.lemmas.List.Edits.{get_or-between}
use Rattle.raw_region.specs.Bytes.{put}
use Rattle.raw_region.proofs.Puts.{length-put}
use Rattle.lmem_heap.specs.Pieces.{word_in, entry}
use Rattle.lmem_heap.specs.Edits.{IsWordRaised, AreWordsRaised, AreRaised}
use Rattle.lmem_heap.proofs.EditLemmas.{get_or-put, get_or-put_past, entry_word}

-- the same bytes, the same word
pub word_same : (xs ys : List ℕ) (p q : ℕ) → get_or ys q 0 ≡ get_or xs p 0 → get_or ys (q + 1) 0 ≡ get_or xs (p + 1) 0 → word_in ys q ≡ word_in xs p
unfolding word_in
word_same xs ys p q low high = omega (arith, low, high)

pub word_raised : (v w from to by x y : ℕ) → x ≡ v → y ≡ w → IsWordRaised v w from to by → IsWordRaised x y from to by
word_raised v w from to by x y is is_w r = record {
  below = λ l. omega (arith, is, is_w, r.below (omega (arith, l, is)));
  moved = λ l m. omega (arith, is, is_w, r.moved (omega (arith, l, is)) (omega (arith, m, is)));
  above = λ l. omega (arith, is, is_w, r.above (omega (arith, l, is)));
}

-- ---- a word that is read and written as two bytes

pub pair_read : (word : List ℕ) (e : ℕ) → length word ≡ 2 → e ≡ from_le_bytes w16 (take 2 word) → e ≡ word_in word 0
unfolding word_in
pair_read [] e l is = absurd (omega arith)
pair_read (x ∷ []) e l is = absurd (omega arith)
pair_read (x ∷ (y ∷ [])) e l is = omega (arith, is)
pair_read (x ∷ (y ∷ (z ∷ word))) e l is = absurd (omega arith)

pub pair_written : (v : ℕ) (rest : List ℕ) → v < 65536 → word_in (to_le_bytes w16 v ++ rest) 0 ≡ v
unfolding word_in
pair_written v rest small = omega arith

-- `moved` is the word that goes in the place of `v`
pub word_moved : (v w from to by moved : ℕ) → w ≡ moved → (v < from → moved ≡ v) → (from ≤ v → v < to → moved ≡ v + by) → (to ≤ v → moved ≡ v) → IsWordRaised v w from to by
word_moved v w from to by moved is below up above = record { below = λ l. is ∙ below l; moved = λ l m. is ∙ up l m; above = λ l. is ∙ above l }

-- ---- words in a row

module _ (a k : ℕ) (ts ws : List ℕ) (within : a + k ≤ length ts) (count : length ws ≡ k) where
  part_before : (j : ℕ) → j < a → get_or (put_mid a k ts ws) j 0 ≡ get_or ts j 0
  part_before j l = get_or_append_left (take a ts) (ws ++ drop k (drop a ts)) 0 j (omega (arith, length-take a ts)) ∙ get_or-take a ts j 0 l

  part_right : (j : ℕ) → get_or (put_mid a k ts ws) (a + j) 0 ≡ get_or (ws ++ drop k (drop a ts)) j 0
  part_right j =
      get_or-append_right (take a ts) (ws ++ drop k (drop a ts)) a (a + j) 0 (omega (arith, length-take a ts)) (omega arith)
      ∙ ap (λ (n : ℕ). get_or (ws ++ drop k (drop a ts)) n 0) (omega arith)

  part_at : (j : ℕ) → j < k → get_or (put_mid a k ts ws) (a + j) 0 ≡ get_or ws j 0
  part_at j l = part_right j ∙ get_or_append_left ws (drop k (drop a ts)) 0 j (omega arith)

  part_past : (j : ℕ) → a + k ≤ j → get_or (put_mid a k ts ws) j 0 ≡ get_or ts j 0
  part_past j past =
      let n = j - a in let at : a + n ≡ j = omega arith in
      ap (λ (m : ℕ). get_or (put_mid a k ts ws) m 0) (sym at)
      ∙ (part_right n
      ∙ (get_or-append_right ws (drop k (drop a ts)) k n 0 count (omega arith)
      ∙ (get_or-drop k (drop a ts) (n - k) 0
      ∙ (get_or-drop a ts (k + (n - k)) 0
      ∙ ap (λ (m : ℕ). get_or ts m 0) (omega arith)))))

  part_length : length (put_mid a k ts ws) ≡ length ts
  part_length = omega (arith, length-append (take a ts) (ws ++ drop k (drop a ts)), length-take a ts, length-append ws (drop k (drop a ts)), length-drop k (drop a ts), length-drop a ts)

abbrev pub AreRaisedTo : List ℕ → List ℕ → ℕ → ℕ → ℕ → ℕ → Type 0
AreRaisedTo xs ts i from to by =
    (length ts ≡ length xs)
    × ((j : ℕ) → j < i → IsWordRaised (word_in xs (2 * j)) (word_in ts (2 * j)) from to by)
    × ((k : ℕ) → 2 * i ≤ k → get_or ts k 0 ≡ get_or xs k 0)

pub raised_next : (xs ts ws : List ℕ) (i k from to by : ℕ) → AreRaisedTo xs ts i from to by → 2 * i + 2 ≤ length xs → k ≡ 2 → length ws ≡ 2
    → IsWordRaised (word_in (slice_range ts (2 * i) (2 * i + 2)) 0) (word_in ws 0) from to by → AreRaisedTo xs (put_mid (2 * i) k ts ws) (i + 1) from to by
raised_next xs ts ws i k from to by inv within two count own =
    let a = 2 * i in let zs = put_mid a k ts ws in let fits : a + k ≤ length ts = omega (arith, inv.0) in let same : length ws ≡ k = omega arith in (
      part_length a k ts ws fits same ∙ inv.0,
      (λ j l. elim (cases_lt j i) [
        | inl before ↦ word_raised (word_in xs (2 * j)) (word_in ts (2 * j)) from to by (word_in xs (2 * j)) (word_in zs (2 * j)) refl
            (word_same ts zs (2 * j) (2 * j) (part_before a k ts ws fits same (2 * j) (omega arith)) (part_before a k ts ws fits same (2 * j + 1) (omega arith))) (inv.1 j before)
        | inr past ↦
            let here : 2 * j ≡ a = omega arith in
            word_raised (word_in (slice_range ts a (a + 2)) 0) (word_in ws 0) from to by (word_in xs (2 * j)) (word_in zs (2 * j))
            (ap (λ (m : ℕ). word_in xs m) here ∙ word_same (slice_range ts a (a + 2)) xs 0 a
            (sym (get_or-between ts a (a + 2) 0 0 (omega arith) ∙ (ap (λ (m : ℕ). get_or ts m 0) (omega arith) ∙ inv.2 a (omega arith))))
            (sym (get_or-between ts a (a + 2) 1 0 (omega arith) ∙ inv.2 (a + 1) (omega arith))))
            (ap (λ (m : ℕ). word_in zs m) here ∙ word_same ws zs 0 a
            (ap (λ (m : ℕ). get_or zs m 0) (omega arith) ∙ part_at a k ts ws fits same 0 (omega arith))
            (part_at a k ts ws fits same 1 (omega arith)))
            own
      ]),
      (λ m past. part_past a k ts ws fits same m (omega arith) ∙ inv.2 m (omega arith)),
    )

-- the table of a region is written over by words that went up
pub table_raised : (xs ws zs : List ℕ) (t from to by : ℕ) → length xs ≡ 65520 → 16 + 2 * t ≤ 65520 → ws ≡ slice_range xs 16 (16 + 2 * t) → length ws ≡ 2 * t → AreWordsRaised ws zs from to by → AreRaised xs (put xs 16 (take (2 * t) zs)) t from to by
table_raised xs ws zs t from to by long within is count r =
    let n = 2 * t in let us = take n zs in let same : length us ≡ n = omega (arith, length-take n zs, r.long) in let fits : 16 + length us ≤ length xs = omega arith in
    let byte : (k : ℕ) → k < n → get_or ws k 0 ≡ get_or xs (16 + k) 0 = (λ k l. ap (λ (vs : List ℕ). get_or vs k 0) is ∙ get_or-between xs 16 (16 + n) k 0 (omega arith)) in
    let put_byte : (k : ℕ) → k < n → get_or (put xs 16 us) (16 + k) 0 ≡ get_or zs k 0 = (λ k l. get_or-put xs us 16 fits k 0 (omega arith) ∙ get_or-take n zs k 0 l) in
    record {
      long = length-put xs us 16;
      each = λ j l.
          word_raised (word_in ws (2 * j)) (word_in zs (2 * j)) from to by (entry xs j) (entry (put xs 16 us) j)
          (sym (entry_word xs j (16 + 2 * j) refl) ∙ word_same ws xs (2 * j) (16 + 2 * j)
          (sym (byte (2 * j) (omega arith)))
          (ap (λ (k : ℕ). get_or xs k 0) (omega arith) ∙ sym (byte (2 * j + 1) (omega arith))))
          (sym (entry_word (put xs 16 us) j (16 + 2 * j) refl) ∙ word_same zs (put xs 16 us) (2 * j) (16 + 2 * j)
          (put_byte (2 * j) (omega arith))
          (ap (λ (k : ℕ). get_or (put xs 16 us) k 0) (omega arith) ∙ put_byte (2 * j + 1) (omega arith)))
          (r.each j (omega arith));
      beyond = λ k past. get_or-put_past xs us 16 fits k 0 (omega arith);
    }
