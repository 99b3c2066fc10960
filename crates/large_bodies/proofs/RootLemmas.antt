-- Bytes with the parts of a root are a root, and a root's bytes have them.
use Rattle.std.proofs.Common.{◌≡◌, ◌≢◌, ℕ, zero, suc, ◌+◌, ◌*◌, ◌/◌, ◌%◌, ◌<◌, ◌≤◌, Bool, true, ◌&&◌, ◌||◌, ◌==◌, nat_le, nat_lt, List, [], ◌∷◌, ◌++◌, map, length, take, drop, flat_map, sum_by, Option, Some, None, refl, sym, ap, ap₂, subst, ◌∙◌, inl, inr, arith, ltb-true, leb-true, eqb-true}
use Rattle.std.proofs.lemmas.Bool.{cases_Bool, and_parts, and_from, cond-true, eqb-false, lt-ltb, le-leb}
use Rattle.std.proofs.lemmas.List.{append-nil, drop_all, length-drop, get_or-drop}
use Rattle.std.proofs.lemmas.List.FromFn.{length-map-range_with_len}
use Rattle.std.proofs.lemmas.List.Sums.{sum_by-append}
use Rattle.std.specs.List.{range_with_len, list_all}
use Rattle.byteorder.specs.Endian.{little_number}
use Rattle.byteorder.specs.Numbers.{little_number-reads_back}
use Rattle.geos_model.specs.Heap.{capacity}
use Rattle.geos_model.specs.Bytes.{same_bytes}
use Rattle.geos_model.specs.Words.{word, double_word, word_at, double_word_at}
use Rattle.geos_model.specs.Chain.{tree_mark}
use Rattle.geos_model.proofs.Images.{word-reads_back}
use Rattle.geos_model.proofs.Arrays.{are_words, same_bytes-refl}
use Rattle.chunk_arrays.specs.Parts.{AreByteValues}
use Rattle.chunk_arrays.proofs.CutLemmas.{word_at-lt, rejoin, word_rejoin, words_rejoin}
use Rattle.geos_model.specs.LargeLayout.{Root, greatest_element_size, large_mark, root_bytes, is_root, root_read, root_of, total_count}
use Rattle.large_bodies.specs.RootParts.{branches_in, count_in, HasCounts, HasZeros, HasRoot}
use Rattle.geos_model.proofs.RootBytes.{FitsRoot, link_of, links_read, root_head, root_spelled, root_bytes-spelled, length-root_bytes, place-read, behind_counts, root_of-read}

-- Numbers in four bytes.

quad_written : (a b c e : ℕ) → a < 256 → b < 256 → c < 256 → e < 256
    → double_word (a + 256 * (b + 256 * (c + 256 * (e + 256 * 0)))) ≡ a ∷ b ∷ c ∷ e ∷ []
quad_written a b c e la lb lc le =
    let n : ℕ = a + 256 * (b + 256 * (c + 256 * (e + 256 * 0))) in
    let one : n % 256 ≡ a = omega arith in
    let two : n / 256 % 256 ≡ b = omega arith in
    let three : n / 65536 % 256 ≡ c = omega arith in
    let four : n / 16777216 % 256 ≡ e = omega arith in
    ap₂ (λ (x y : ℕ). x ∷ y ∷ n / 65536 % 256 ∷ n / 16777216 % 256 ∷ []) one two ∙ ap₂ (λ (x y : ℕ). a ∷ b ∷ x ∷ y ∷ []) three four

double_written : (xs : List ℕ) → 4 ≤ length xs → AreByteValues xs → double_word (little_number 4 xs) ≡ take 4 xs
double_written [] l are = absurd (omega arith)
double_written (a ∷ []) l are = absurd (omega arith)
double_written (a ∷ b ∷ []) l are = absurd (omega arith)
double_written (a ∷ b ∷ c ∷ []) l are = absurd (omega arith)
double_written (a ∷ b ∷ c ∷ e ∷ xs) l are = quad_written a b c e (are 0) (are 1) (are 2) (are 3)

-- such a number, and the bytes behind it
double_rejoin : (bytes : List ℕ) → AreByteValues bytes → (i : ℕ) → i + 4 ≤ length bytes → double_word (double_word_at bytes i) ++ drop (i + 4) bytes ≡ drop i bytes
double_rejoin bytes are i l =
    let long = length-drop i bytes in
    let are_behind : AreByteValues (drop i bytes) = λ k. subst (λ n. n < 256) (sym (get_or-drop i bytes k 0)) (are (i + k)) in
    ap (λ (w : List ℕ). w ++ drop (i + 4) bytes) (double_written (drop i bytes) (omega arith) are_behind) ∙ rejoin bytes i 4

-- branches, and the bytes behind them
links_rejoin : (bytes : List ℕ) → AreByteValues bytes → (start k n : ℕ) → start + 4 * (k + n) ≤ length bytes
    → ((i : ℕ) → k ≤ i → i < k + n → word_at bytes (start + 4 * i) ≡ 0)
    → flat_map link_of (map (λ i. word_at bytes (start + 2 + 4 * i)) (range_with_len k n)) ++ drop (start + 4 * (k + n)) bytes ≡ drop (start + 4 * k) bytes
links_rejoin bytes are start k zero l zeros =
    let same : start + 4 * (k + 0) ≡ start + 4 * k = omega arith in
    ap (λ (m : ℕ). drop m bytes) same
links_rejoin bytes are start k (suc n) l zeros =
    let rest : List ℕ = flat_map link_of (map (λ i. word_at bytes (start + 2 + 4 * i)) (range_with_len (k + 1) n)) in
    let shift : start + 4 * (k + suc n) ≡ start + 4 * (k + 1 + n) = omega arith in
    let next : start + 4 * (k + 1) ≡ start + 4 * k + 2 + 2 = omega arith in
    let at : start + 2 + 4 * k ≡ start + 4 * k + 2 = omega arith in
    let behind : rest ++ drop (start + 4 * (k + suc n)) bytes ≡ drop (start + 4 * k + 2 + 2) bytes =
    ap (λ (m : ℕ). rest ++ drop m bytes) shift
    ∙ links_rejoin bytes are start (k + 1) n (omega arith) (λ i from low. zeros i (omega arith) (omega arith))
    ∙ ap (λ (m : ℕ). drop m bytes) next in
    ap (λ (tail : List ℕ). word 0 ++ word (word_at bytes (start + 2 + 4 * k)) ++ tail) behind
    ∙ ap (λ (m : ℕ). word 0 ++ word (word_at bytes m) ++ drop (start + 4 * k + 2 + 2) bytes) at
    ∙ ap (λ (tail : List ℕ). word 0 ++ tail) (word_rejoin bytes are (start + 4 * k + 2) (omega arith))
    ∙ ap (λ (w : ℕ). word w ++ drop (start + 4 * k + 2) bytes) (sym (zeros k (omega arith) (omega arith)))
    ∙ word_rejoin bytes are (start + 4 * k) (omega arith)

-- Tests of numbers at some places.

tests_from : (p : ℕ → Bool) (f : ℕ → ℕ) (a n : ℕ) → ((i : ℕ) → a ≤ i → i < a + n → p (f i) ≡ true) → list_all p (map f (range_with_len a n)) ≡ true
tests_from p f a zero each = refl
tests_from p f a (suc n) each =
    and_from (p (f a)) (list_all p (map f (range_with_len (a + 1) n))) (each a (omega arith) (omega arith))
    (tests_from p f (a + 1) n (λ i from low. each i (omega arith) (omega arith)))

tests_to : (p : ℕ → Bool) (f : ℕ → ℕ) (a n : ℕ) → list_all p (map f (range_with_len a n)) ≡ true → (i : ℕ) → a ≤ i → i < a + n → p (f i) ≡ true
tests_to p f a zero all i from low = absurd (omega arith)
tests_to p f a (suc n) all i from low =
    let parts = and_parts (p (f a)) (list_all p (map f (range_with_len (a + 1) n))) all in
    elim (cases_Bool (i == a)) [
      | inl is ↦ ap (λ (k : ℕ). p (f k)) (eqb-true i a is) ∙ parts.0
      | inr other ↦ (let apart = eqb-false i a other in tests_to p f (a + 1) n parts.1 i (omega arith) (omega arith))
    ]

numbers_to : (p : ℕ → Bool) (a n : ℕ) → list_all p (range_with_len a n) ≡ true → (i : ℕ) → a ≤ i → i < a + n → p i ≡ true
numbers_to p a zero all i from low = absurd (omega arith)
numbers_to p a (suc n) all i from low =
    let parts = and_parts (p a) (list_all p (range_with_len (a + 1) n)) all in
    elim (cases_Bool (i == a)) [
      | inl is ↦ ap p (eqb-true i a is) ∙ parts.0
      | inr other ↦ (let apart = eqb-false i a other in numbers_to p (a + 1) n parts.1 i (omega arith) (omega arith))
    ]

-- The first half: bytes with these parts are a root.
pub length-counts_read : (bytes : List ℕ) → length (root_read bytes).counts ≡ branches_in bytes
length-counts_read bytes = length-map-range_with_len (λ i. word_at bytes (16 + 2 * i)) 0 (word_at bytes 4)

pub length-branches_read : (bytes : List ℕ) → length (root_read bytes).branches ≡ branches_in bytes
length-branches_read bytes = length-map-range_with_len (λ i. word_at bytes (18 + 2 * word_at bytes 4 + 4 * i)) 0 (word_at bytes 4)

module _ (bytes : List ℕ) (are : AreByteValues bytes) (has : HasRoot bytes) where
  abbrev n : ℕ
  n = branches_in bytes

  abbrev r : Root
  r = root_read bytes

  long : length bytes ≡ 16 + 6 * n
  long = has.head.length.long

  -- the numbers of the header, and the bytes behind it
  head_rejoin : root_head r ++ drop 16 bytes ≡ bytes
  head_rejoin =
      let room = has.head.header in
      ap (λ (m : ℕ). word tree_mark ++ word (16 + 2 * m) ++ word m ++ large_mark ++ word r.size ++ double_word (total_count r) ++ drop 16 bytes) (length-counts_read bytes)
      ∙ ap (λ (m : ℕ). word tree_mark ++ word (16 + 2 * n) ++ word n ++ large_mark ++ word r.size ++ double_word m ++ drop 16 bytes) (sym has.total)
      ∙ ap (λ (l : List ℕ). word tree_mark ++ word (16 + 2 * n) ++ word n ++ large_mark ++ word r.size ++ l) (double_rejoin bytes are 12 (omega arith))
      ∙ ap (λ (l : List ℕ). word tree_mark ++ word (16 + 2 * n) ++ word n ++ large_mark ++ l) (word_rejoin bytes are 10 (omega arith))
      ∙ ap (λ (m : List ℕ). word tree_mark ++ word (16 + 2 * n) ++ word n ++ m ++ drop 10 bytes) (sym has.head.marks.letters)
      ∙ ap (λ (l : List ℕ). word tree_mark ++ word (16 + 2 * n) ++ word n ++ l) (rejoin bytes 6 4)
      ∙ ap (λ (l : List ℕ). word tree_mark ++ word (16 + 2 * n) ++ l) (word_rejoin bytes are 4 (omega arith))
      ∙ ap (λ (m : ℕ). word tree_mark ++ word m ++ drop 4 bytes) (sym has.head.length.place)
      ∙ ap (λ (l : List ℕ). word tree_mark ++ l) (word_rejoin bytes are 2 (omega arith))
      ∙ ap (λ (m : ℕ). word m ++ drop 2 bytes) (sym has.head.marks.mark)
      ∙ word_rejoin bytes are 0 (omega arith)

  pub links_are : flat_map link_of r.branches ≡ drop (16 + 2 * n) bytes
  links_are =
      let all = long in
      let place : 18 + 2 * n ≡ 16 + 2 * n + 2 = omega arith in
      let start : 16 + 2 * n + 4 * 0 ≡ 16 + 2 * n = omega arith in
      let links : List ℕ = flat_map link_of (map (λ i. word_at bytes (16 + 2 * n + 2 + 4 * i)) (range_with_len 0 n)) in
      ap (λ (m : ℕ). flat_map link_of (map (λ i. word_at bytes (m + 4 * i)) (range_with_len 0 n))) place
      ∙ sym (append-nil links)
      ∙ ap (λ (l : List ℕ). links ++ l) (sym (drop_all (16 + 2 * n + 4 * (0 + n)) bytes (omega arith)))
      ∙ links_rejoin bytes are (16 + 2 * n) 0 n (omega arith) (λ i _ low. has.zeros i (omega arith))
      ∙ ap (λ (m : ℕ). drop m bytes) start

  pub behind_are : flat_map word r.counts ++ flat_map link_of r.branches ≡ drop 16 bytes
  behind_are =
      let all = long in
      let end : 16 + 2 * n ≡ 16 + 2 * (0 + n) = omega arith in
      ap (λ (l : List ℕ). flat_map word r.counts ++ l) (links_are ∙ ap (λ (m : ℕ). drop m bytes) end)
      ∙ words_rejoin bytes are 16 0 n (omega arith)

  pub bytes-read : root_bytes r ≡ bytes
  bytes-read = root_bytes-spelled r ∙ ap (λ (l : List ℕ). root_head r ++ l) behind_are ∙ head_rejoin

  is-read : is_root r ≡ true
  is-read =
      let count = length-counts_read bytes in
      let some = has.head.length.some in
      let positive : ℕ → Bool = λ c. nat_lt 0 c in
      and_from (nat_lt 0 (length r.counts) && nat_le r.size greatest_element_size) (length r.counts == 1 || list_all positive r.counts)
      (and_from (nat_lt 0 (length r.counts)) (nat_le r.size greatest_element_size) (lt-ltb 0 (length r.counts) (omega arith)) (le-leb r.size greatest_element_size has.head.marks.size))
      (elim (cases_Bool (length r.counts == 1)) [
        | inl one ↦ ap (λ (b : Bool). b || list_all positive r.counts) one
        | inr more ↦
            (let several : n ≢ 1 = λ is. eqb-false (length r.counts) 1 more (count ∙ is) in
            ap (λ (b : Bool). b || list_all positive r.counts) more
            ∙ tests_from positive (count_in bytes) 0 n (λ i _ low. lt-ltb 0 (count_in bytes i) (has.counts several i (omega arith))))
      ])

  pub root_of-parts : root_of bytes ≡ Some r
  unfolding root_of
  root_of-parts =
      cond-true _ _ _ (and_from (is_root r) (same_bytes (root_bytes r) bytes) is-read (subst (λ l. same_bytes l bytes ≡ true) (sym bytes-read) (same_bytes-refl bytes)))

-- The second half: a root's bytes have these parts.

pub words-read : (bytes : List ℕ) → AreByteValues bytes → (f : ℕ → ℕ) (a n : ℕ) → are_words (map (λ i. word_at bytes (f i)) (range_with_len a n)) ≡ true
words-read bytes are f a n = tests_from (λ p. nat_lt p 65536) (λ i. word_at bytes (f i)) a n (λ i from low. lt-ltb (word_at bytes (f i)) 65536 (word_at-lt bytes are (f i)))

pub sum-few : (cs : List ℕ) → are_words cs ≡ true → sum_by (λ c. c) cs ≤ 65535 * length cs
sum-few [] small = omega arith
sum-few (c ∷ cs) small =
    let parts = and_parts (nat_lt c 65536) (are_words cs) small in
    let here = ltb-true c 65536 parts.0 in
    let rest = sum-few cs parts.1 in
    let step = sum_by-append (λ (x : ℕ). x) (c ∷ []) cs in
    omega arith

module _ (bytes : List ℕ) (are : AreByteValues bytes) (short : length bytes ≤ capacity) (q : Root) (found : root_of bytes ≡ Some q) where
  abbrev back : Root
  back = root_read bytes

  read : (root_read bytes ≡ q) × (is_root q ≡ true) × (root_bytes q ≡ bytes)
  read = root_of-read bytes q found

  is : is_root back ≡ true
  is = ap is_root read.0 ∙ read.1

  written : root_bytes back ≡ bytes
  written = ap root_bytes read.0 ∙ read.2

  as_many : length back.branches ≡ length back.counts
  as_many = length-branches_read bytes ∙ sym (length-counts_read bytes)

  whole : length bytes ≡ 16 + 6 * length back.counts
  whole = ap length (sym written) ∙ length-root_bytes back as_many

  pub fits-read : FitsRoot back
  fits-read =
      let all = whole in record {
        is = is;
        as_many = as_many;
        few = omega arith;
        counts = words-read bytes are (λ i. 16 + 2 * i) 0 (word_at bytes 4);
        branches = words-read bytes are (λ i. 18 + 2 * word_at bytes 4 + 4 * i) 0 (word_at bytes 4);
      }

  spells : root_spelled back ≡ bytes
  spells = sym (root_bytes-spelled back) ∙ written

  tests : (nat_lt 0 (length back.counts) ≡ true) × (nat_le back.size greatest_element_size ≡ true)
      × ((length back.counts == 1 || list_all (λ c. nat_lt 0 c) back.counts) ≡ true)
  tests =
      let parts = and_parts (nat_lt 0 (length back.counts) && nat_le back.size greatest_element_size) (length back.counts == 1 || list_all (λ c. nat_lt 0 c) back.counts) is in
      let two = and_parts (nat_lt 0 (length back.counts)) (nat_le back.size greatest_element_size) parts.0 in
      (two.0, two.1, parts.1)

  total_back : double_word_at bytes 12 ≡ total_count back
  total_back =
      let few = sum-few back.counts fits-read.counts in
      let all = whole in
      let low : total_count back < 4294967296 = omega arith in
      ap (λ (l : List ℕ). double_word_at l 12) (sym spells) ∙ little_number-reads_back 4 (total_count back) [] low

  zeros_back : HasZeros bytes
  zeros_back i low =
      let count = length-counts_read bytes in
      let many = length-branches_read bytes in
      let zeros = (links_read (root_spelled back) (16 + 2 * length back.counts) 0 back.branches [] fits-read.branches (behind_counts back fits-read)).1 in
      let here = numbers_to (λ k. word_at (root_spelled back) (16 + 2 * length back.counts + 4 * k) == 0) 0 (length back.branches) zeros i (omega arith) (omega arith) in
      ap₂ (λ (l : List ℕ) (m : ℕ). word_at l (16 + 2 * m + 4 * i)) (sym spells) (sym count)
      ∙ eqb-true (word_at (root_spelled back) (16 + 2 * length back.counts + 4 * i)) 0 here

  counts_back : HasCounts bytes
  counts_back several i low =
      let count = length-counts_read bytes in
      elim (cases_Bool (length back.counts == 1)) [
        | inl one ↦ absurd (several (sym count ∙ eqb-true (length back.counts) 1 one))
        | inr more ↦
            (let all : list_all (λ c. nat_lt 0 c) back.counts ≡ true = ap (λ (b : Bool). b || list_all (λ c. nat_lt 0 c) back.counts) (sym more) ∙ tests.2 in
            ltb-true 0 (count_in bytes i) (tests_to (λ c. nat_lt 0 c) (count_in bytes) 0 (branches_in bytes) all i (omega arith) (omega arith)))
      ]

  pub has-parts : HasRoot bytes
  has-parts =
      let count = length-counts_read bytes in
      let all = whole in
      let some = ltb-true 0 (length back.counts) tests.0 in
      record {
        head = record {
          header = omega arith;
          marks = record {
            mark = ap (λ (l : List ℕ). word_at l 0) (sym spells) ∙ word-reads_back tree_mark [] (omega arith);
            letters = ap (λ (l : List ℕ). take 4 (drop 6 l)) (sym spells);
            size = leb-true back.size greatest_element_size tests.1;
          };
          length = record {
            some = omega arith;
            place = ap (λ (l : List ℕ). word_at l 2) (sym spells) ∙ place-read back fits-read ∙ ap (λ (m : ℕ). 16 + 2 * m) count;
            long = all ∙ ap (λ (m : ℕ). 16 + 6 * m) count;
          };
        };
        total = total_back;
        counts = counts_back;
        zeros = zeros_back;
      }

-- Bytes without these parts are no root.
pub no_root : (bytes : List ℕ) → AreByteValues bytes → length bytes ≤ capacity → (HasRoot bytes → ⊥) → root_of bytes ≡ None
no_root bytes are short none = by_root (root_of bytes) refl
  where
    by_root : (o : Option Root) → root_of bytes ≡ o → o ≡ None
    by_root None found = refl
    by_root (Some q) found = absurd (none (has-parts bytes are short q found))
