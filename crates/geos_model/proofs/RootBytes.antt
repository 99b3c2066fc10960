-- A root's bytes read back as the root, and they are those of a tree block with the root's branches.
use Rattle.std.proofs.Common.{◌≡◌, ℕ, ◌+◌, ◌*◌, ◌<◌, true, not, ◌&&◌, ◌||◌, ◌==◌, nat_le, nat_lt, if◌then◌else◌, List, [], ◌∷◌, ◌++◌, map, length, drop, filter, Some, None, flat_map, refl, sym, ap, ap₂, subst, ◌∙◌, arith, inl, inr, length-append, append_assoc, append-nil, drop-drop, drop_at, ltb-true, le-leb, leb-true}
use Rattle.std.proofs.lemmas.Bool.{cases_Bool, and_parts, and_from, cond-true, cond-false, eq-eqb}
use Rattle.std.proofs.lemmas.List.FromFn.{length-map-range_with_len}
use Rattle.std.specs.List.{range_with_len, list_all}
use Rattle.byteorder.specs.Endian.{little_number}
use Rattle.geos_model.specs.Bytes.{same_bytes}
use Rattle.geos_model.specs.Words.{word, double_word, word_at}
use Rattle.geos_model.specs.Chain.{tree_mark, is_tree, branches_at, branch_count, has_branches, is_linked, link_count, first_link, links}
use Rattle.geos_model.proofs.Images.{word-reads_back}
use Rattle.geos_model.proofs.Arrays.{are_words, words_read, length-words, same_bytes-is, same_bytes-refl}
use Rattle.geos_model.specs.LargeLayout.{Root, total_count, large_mark, greatest_element_size, root_bytes, is_root, root_read, root_of}

-- A branch in a root: a zero word, and the handle.
abbrev pub link_of : ℕ → List ℕ
link_of h = word 0 ++ word h

pub length-links : (hs : List ℕ) → length (flat_map link_of hs) ≡ 4 * length hs
length-links [] = refl
length-links (h ∷ hs) = (let rest = length-links hs in omega arith)

-- such that lie one after another from a place on
pub links_read : (bytes : List ℕ) (start k : ℕ) (hs rest : List ℕ) → are_words hs ≡ true → drop (start + 4 * k) bytes ≡ flat_map link_of hs ++ rest
    → (map (λ i. word_at bytes (start + 2 + 4 * i)) (range_with_len k (length hs)) ≡ hs)
    × (list_all (λ i. word_at bytes (start + 4 * i) == 0) (range_with_len k (length hs)) ≡ true)
links_read bytes start k [] rest small at = (refl, refl)
links_read bytes start k (h ∷ hs) rest small at =
    let parts = and_parts (nat_lt h 65536) (are_words hs) small in
    let behind : List ℕ = flat_map link_of hs ++ rest in
    let here : start + 2 + 4 * k ≡ start + 4 * k + 2 = omega arith in
    let shift : start + 4 * (k + 1) ≡ start + 4 * k + 4 = omega arith in
    let word_here : word_at bytes (start + 2 + 4 * k) ≡ h =
    ap (word_at bytes) here ∙ ap (little_number 2) (sym (drop-drop 2 (start + 4 * k) bytes) ∙ ap (drop 2) at)
    ∙ word-reads_back h behind (ltb-true h 65536 parts.0) in
    let zero_here : word_at bytes (start + 4 * k) ≡ 0 = ap (little_number 2) at ∙ word-reads_back 0 (word h ++ behind) (omega arith) in
    let next : drop (start + 4 * (k + 1)) bytes ≡ behind =
    ap (λ (n : ℕ). drop n bytes) shift ∙ sym (drop-drop 4 (start + 4 * k) bytes) ∙ ap (drop 4) at in
    let more = links_read bytes start (k + 1) hs rest parts.1 next in (
      ap₂ (λ (n : ℕ) (ns : List ℕ). n ∷ ns) word_here more.0,
      and_from (word_at bytes (start + 4 * k) == 0) (list_all (λ i. word_at bytes (start + 4 * i) == 0) (range_with_len (k + 1) (length hs)))
          (eq-eqb (word_at bytes (start + 4 * k)) 0 zero_here) more.1,
    )

-- A root whose numbers have room in its bytes.
pub record FitsRoot (r : Root) : Type 0 where
  pub is : is_root r ≡ true
  pub as_many : length r.branches ≡ length r.counts
  pub few : 16 + 2 * length r.counts < 65536
  pub counts : are_words r.counts ≡ true
  pub branches : are_words r.branches ≡ true

-- its bytes, from the right: what has a fixed length, and the rest
abbrev pub root_head : Root → List ℕ
root_head r =
    word tree_mark ++ word (16 + 2 * length r.counts) ++ word (length r.counts) ++ large_mark ++ word r.size ++ double_word (total_count r)

abbrev pub root_spelled : Root → List ℕ
root_spelled r = root_head r ++ (flat_map word r.counts ++ flat_map link_of r.branches)

pub root_bytes-spelled : (r : Root) → root_bytes r ≡ root_spelled r
unfolding root_bytes
root_bytes-spelled r = append_assoc (root_head r) (flat_map word r.counts) (flat_map link_of r.branches)

pub length-root_bytes : (r : Root) → length r.branches ≡ length r.counts → length (root_bytes r) ≡ 16 + 6 * length r.counts
length-root_bytes r as_many =
    let counts = length-words r.counts in
    let branches = length-links r.branches in
    let rest = length-append (flat_map word r.counts) (flat_map link_of r.branches) in
    ap length (root_bytes-spelled r) ∙ omega (arith, as_many, counts, branches, rest)

-- what reading makes of the number of branches
abbrev read_with : ℕ → List ℕ → Root
read_with n bytes = record {
  size = word_at bytes 10;
  counts = map (λ i. word_at bytes (16 + 2 * i)) (range_with_len 0 n);
  branches = map (λ i. word_at bytes (18 + 2 * n + 4 * i)) (range_with_len 0 n);
}

module _ (r : Root) (fits : FitsRoot r) where
  abbrev bytes : List ℕ
  bytes = root_spelled r

  abbrev n : ℕ
  n = length r.counts

  behind_head : drop 16 bytes ≡ flat_map word r.counts ++ flat_map link_of r.branches
  behind_head = drop_at (root_head r) (flat_map word r.counts ++ flat_map link_of r.branches) 16 refl

  pub place-read : word_at bytes 2 ≡ 16 + 2 * n
  place-read = word-reads_back (16 + 2 * n) [] (let few = fits.few in omega arith)

  pub count-read : word_at bytes 4 ≡ n
  count-read = word-reads_back n [] (let few = fits.few in omega arith)

  pub size-read : word_at bytes 10 ≡ r.size
  size-read =
      let parts = and_parts (nat_lt 0 n && nat_le r.size greatest_element_size) (n == 1 || list_all (λ c. nat_lt 0 c) r.counts) fits.is in
      let two = and_parts (nat_lt 0 n) (nat_le r.size greatest_element_size) parts.0 in
      let small = leb-true r.size greatest_element_size two.1 in
      word-reads_back r.size [] (omega arith)

  counts-read : map (λ i. word_at bytes (16 + 2 * i)) (range_with_len 0 n) ≡ r.counts
  counts-read = words_read bytes 16 0 r.counts (flat_map link_of r.branches) fits.counts behind_head

  pub behind_counts : drop (16 + 2 * n + 4 * 0) bytes ≡ flat_map link_of r.branches ++ []
  behind_counts =
      let long : length (root_head r ++ flat_map word r.counts) ≡ 16 + 2 * n + 4 * 0 =
      length-append (root_head r) (flat_map word r.counts) ∙ (let words = length-words r.counts in omega arith) in
      ap (drop (16 + 2 * n + 4 * 0)) (sym (append_assoc (root_head r) (flat_map word r.counts) (flat_map link_of r.branches)))
      ∙ drop_at (root_head r ++ flat_map word r.counts) (flat_map link_of r.branches) (16 + 2 * n + 4 * 0) long
      ∙ sym (append-nil (flat_map link_of r.branches))

  branches-read : map (λ i. word_at bytes (18 + 2 * n + 4 * i)) (range_with_len 0 n) ≡ r.branches
  branches-read =
      let read = links_read bytes (16 + 2 * n) 0 r.branches [] fits.branches behind_counts in
      let at : 16 + 2 * n + 2 ≡ 18 + 2 * n = omega arith in
      ap₂ (λ (m k : ℕ). map (λ i. word_at bytes (m + 4 * i)) (range_with_len 0 k)) (sym at) (sym fits.as_many) ∙ read.0

  root_read-spelled : root_read bytes ≡ r
  root_read-spelled =
      ap (λ (m : ℕ). read_with m bytes) count-read
      ∙ ap (λ (s : ℕ). record { size = s; counts = map (λ i. word_at bytes (16 + 2 * i)) (range_with_len 0 n); branches = map (λ i. word_at bytes (18 + 2 * n + 4 * i)) (range_with_len 0 n) }) size-read
      ∙ ap₂ (λ (cs hs : List ℕ). record { size = r.size; counts = cs; branches = hs }) counts-read branches-read

  -- The bytes of a root are those of that root.
  pub root-again : root_of (root_bytes r) ≡ Some r
  unfolding root_of
  root-again =
      let read : root_read (root_bytes r) ≡ r = ap root_read (root_bytes-spelled r) ∙ root_read-spelled in
      let same : (is_root r && same_bytes (root_bytes r) (root_bytes r)) ≡ true = and_from (is_root r) (same_bytes (root_bytes r) (root_bytes r)) fits.is (same_bytes-refl (root_bytes r)) in
      cond-true _ _ _ (subst (λ q. (is_root q && same_bytes (root_bytes q) (root_bytes r)) ≡ true) (sym read) same) ∙ ap Some read

  tree : is_tree bytes ≡ true
  tree = eq-eqb (word_at bytes 0) tree_mark (word-reads_back tree_mark [] (omega arith))

  long : length bytes ≡ 16 + 6 * n
  long = ap length (sym (root_bytes-spelled r)) ∙ length-root_bytes r fits.as_many

  has : has_branches bytes ≡ true
  has =
      let few = fits.few in
      let at = place-read in
      let many = count-read in
      let all = long in
      let zeros = (links_read bytes (16 + 2 * n) 0 r.branches [] fits.branches behind_counts).1 in
      let zeros_there : list_all (λ i. word_at bytes (branches_at bytes + 4 * i) == 0) (range_with_len 0 (branch_count bytes)) ≡ true =
      ap₂ (λ (m k : ℕ). list_all (λ i. word_at bytes (m + 4 * i) == 0) (range_with_len 0 k)) place-read (count-read ∙ sym fits.as_many) ∙ zeros in
      and_from (nat_le 6 (length bytes) && nat_le 6 (branches_at bytes) && nat_le (branches_at bytes + 4 * branch_count bytes) (length bytes))
      (list_all (λ i. word_at bytes (branches_at bytes + 4 * i) == 0) (range_with_len 0 (branch_count bytes)))
      (and_from (nat_le 6 (length bytes) && nat_le 6 (branches_at bytes)) (nat_le (branches_at bytes + 4 * branch_count bytes) (length bytes))
      (and_from (nat_le 6 (length bytes)) (nat_le 6 (branches_at bytes)) (le-leb 6 (length bytes) (omega arith)) (le-leb 6 (branches_at bytes) (omega arith)))
      (le-leb (branches_at bytes + 4 * branch_count bytes) (length bytes) (omega arith)))
      zeros_there

  linked : is_linked bytes ≡ true
  linked =
      let all = long in
      and_from (nat_le 2 (length bytes)) (if is_tree bytes then has_branches bytes else true) (le-leb 2 (length bytes) (omega arith)) (cond-true (is_tree bytes) (has_branches bytes) true tree ∙ has)

  -- It is a body that a block of a chain can have, and links to the root's branches.
  pub root_linked : is_linked (root_bytes r) ≡ true
  root_linked = ap is_linked (root_bytes-spelled r) ∙ linked

  pub root_links : links (root_bytes r) ≡ filter (λ h. not (h == 0)) r.branches
  root_links =
      let count : link_count bytes ≡ n = cond-true (is_tree bytes) (branch_count bytes) 1 tree ∙ count-read in
      let first : first_link bytes ≡ 18 + 2 * n = cond-true (is_tree bytes) (branches_at bytes + 2) 0 tree ∙ (let at = place-read in omega arith) in
      ap links (root_bytes-spelled r)
      ∙ ap₂ (λ (f k : ℕ). filter (λ h. not (h == 0)) (map (λ i. word_at bytes (f + 4 * i)) (range_with_len 0 k))) first count
      ∙ ap (filter (λ h. not (h == 0))) branches-read

-- What bytes read as is what reading makes of them.
pub root_of-read : (bytes : List ℕ) (r : Root) → root_of bytes ≡ Some r → (root_read bytes ≡ r) × (is_root r ≡ true) × (root_bytes r ≡ bytes)
unfolding root_of
root_of-read bytes r e =
    let q : Root = root_read bytes in
    elim (cases_Bool (is_root q && same_bytes (root_bytes q) bytes)) [
      | inl so ↦
          (let some : Some q ≡ Some r = sym (cond-true _ _ _ so) ∙ e in
          let is : q ≡ r = cc in
          let parts = and_parts (is_root r) (same_bytes (root_bytes r) bytes) (subst (λ x. (is_root x && same_bytes (root_bytes x) bytes) ≡ true) is so) in
          (is, parts.0, same_bytes-is (root_bytes r) bytes parts.1))
      | inr other ↦ (let none : None ≡ Some r = sym (cond-false _ _ _ other) ∙ e in absurd (cc))
    ]

-- It has as many branches as counts.
pub root_of-is : (bytes : List ℕ) (r : Root) → root_of bytes ≡ Some r
    → (is_root r ≡ true) × (root_bytes r ≡ bytes) × (length r.branches ≡ length r.counts)
root_of-is bytes r e =
    let read = root_of-read bytes r e in
    let counts = length-map-range_with_len (λ i. word_at bytes (16 + 2 * i)) 0 (word_at bytes 4) in
    let branches = length-map-range_with_len (λ i. word_at bytes (18 + 2 * word_at bytes 4 + 4 * i)) 0 (word_at bytes 4) in
    (read.1, read.2, subst (λ x. length x.branches ≡ length x.counts) read.0 (branches ∙ sym counts))
