-- Runs of counts and of branches in the bytes of a root.
use Rattle.std.proofs.Common.{◌≡◌, ℕ, ◌+◌, ◌-◌, ◌*◌, ◌≤◌, List, [], ◌++◌, true, ◌&&◌, nat_lt, length, take, drop, flat_map, sum_by, sym, ap, ap₂, ◌∙◌, arith, append_assoc, append-nil, length-append, length-drop, drop-drop, drop_at, take_at}
use Rattle.std.proofs.lemmas.Grind.{flat_map-append}
use Rattle.std.proofs.lemmas.Bool.{and_parts}
use Rattle.std.proofs.lemmas.List.{length-take-le, take_all, take-append-drop}
use Rattle.std.proofs.lemmas.List.Folds.{list_all-append}
use Rattle.std.proofs.lemmas.List.Sums.{sum_by-append}
use Rattle.std.specs.List.{splice}
use Rattle.geos_model.specs.Words.{word}
use Rattle.geos_model.specs.Heap.{capacity}
use Rattle.geos_model.proofs.Arrays.{are_words, length-words}
use Rattle.geos_model.specs.LargeLayout.{Root, root_bytes, root_read, total_count}
use Rattle.large_bodies.specs.RootEdits.{with_branches, head_bytes, count_bytes, link_bytes, run_between}
use Rattle.large_bodies.specs.RootParts.{branches_in}
use Rattle.large_bodies.specs.RootViewing.{IsRootView}
use Rattle.large_bodies.specs.declared.root.RootView.TheInside.{Inside}
use Rattle.geos_model.proofs.RootBytes.{length-links, root_bytes-spelled}
use Rattle.large_bodies.proofs.RootLemmas.{length-counts_read, length-branches_read, behind_are, links_are, sum-few, words-read}

-- Numbers that are spelled one after another, each in as many bytes.
module _ (f : ℕ → List ℕ) (width : ℕ) (long : (xs : List ℕ) → length (flat_map f xs) ≡ width * length xs) where
  before_at : (k : ℕ) (xs : List ℕ) → k ≤ length xs → length (flat_map f (take k xs)) ≡ width * k
  before_at k xs low = long (take k xs) ∙ ap (λ (n : ℕ). width * n) (length-take-le k xs low)

  cut_at : (k : ℕ) (xs rest : List ℕ) → flat_map f xs ++ rest ≡ flat_map f (take k xs) ++ (flat_map f (drop k xs) ++ rest)
  cut_at k xs rest =
      ap (λ (ys : List ℕ). flat_map f ys ++ rest) (sym (take-append-drop k xs))
      ∙ ap (λ (ys : List ℕ). ys ++ rest) (flat_map-append f (take k xs) (drop k xs))
      ∙ append_assoc (flat_map f (take k xs)) (flat_map f (drop k xs)) rest

  run_spelled : (xs rest : List ℕ) (from to : ℕ) → from ≤ to → to ≤ length xs
      → take (width * (to - from)) (drop (width * from) (flat_map f xs ++ rest)) ≡ flat_map f (run_between xs from to)
  run_spelled xs rest from to order within =
      let behind : List ℕ = drop from xs in
      let left = length-drop from xs in
      ap (λ (ys : List ℕ). take (width * (to - from)) (drop (width * from) ys)) (cut_at from xs rest)
      ∙ ap (take (width * (to - from))) (drop_at (flat_map f (take from xs)) (flat_map f behind ++ rest) (width * from) (before_at from xs (omega arith)))
      ∙ ap (take (width * (to - from))) (cut_at (to - from) behind rest)
      ∙ take_at (flat_map f (take (to - from) behind)) (flat_map f (drop (to - from) behind) ++ rest) (width * (to - from)) (before_at (to - from) behind (omega arith))

words_parts : (xs : List ℕ) (n : ℕ) → are_words xs ≡ true → (are_words (take n xs) && are_words (drop n xs)) ≡ true
words_parts xs n all =
    sym (list_all-append (λ (x : ℕ). nat_lt x 65536) (take n xs) (drop n xs)) ∙ ap are_words (take-append-drop n xs) ∙ all

-- words among which are words
words_front : (xs : List ℕ) (n : ℕ) → are_words xs ≡ true → are_words (take n xs) ≡ true
words_front xs n all = (and_parts (are_words (take n xs)) (are_words (drop n xs)) (words_parts xs n all)).0

words_back : (xs : List ℕ) (n : ℕ) → are_words xs ≡ true → are_words (drop n xs) ≡ true
words_back xs n all = (and_parts (are_words (take n xs)) (are_words (drop n xs)) (words_parts xs n all)).1

-- What a view has of its bytes.
pub record HasRoom (v : Inside) (r : Root) : Type 0 where
  pub counts : length r.counts ≡ v.branches
  pub branches : length r.branches ≡ v.branches
  pub long : length v.bytes.now ≡ 16 + 6 * v.branches
  pub short : length v.bytes.now ≤ capacity

module _ (v : Inside) (is : IsRootView v) (r : Root) (seen : root_read v.bytes.now ≡ r) where
  abbrev bytes : List ℕ
  bytes = v.bytes.now

  pub room : HasRoom v r
  room = record {
    counts = ap (λ (q : Root). length q.counts) (sym seen) ∙ length-counts_read bytes ∙ sym is.branches;
    branches = ap (λ (q : Root). length q.branches) (sym seen) ∙ length-branches_read bytes ∙ sym is.branches;
    long = is.parts.head.length.long ∙ ap (λ (n : ℕ). 16 + 6 * n) (sym is.branches);
    short = is.short;
  }

  pub counts_part : (from to : ℕ) → from ≤ to → to ≤ length r.counts
      → take (16 + 2 * to - (16 + 2 * from)) (drop (16 + 2 * from) bytes) ≡ count_bytes (run_between r.counts from to)
  counts_part from to order within =
      let many : 16 + 2 * to - (16 + 2 * from) ≡ 2 * (to - from) = omega arith in
      let behind : drop 16 bytes ≡ count_bytes r.counts ++ link_bytes r.branches =
      sym (behind_are bytes is.are_bytes is.parts) ∙ ap (λ (q : Root). count_bytes q.counts ++ link_bytes q.branches) seen in
      ap₂ (λ (n : ℕ) (ys : List ℕ). take n ys) many (sym (drop-drop (2 * from) 16 bytes))
      ∙ ap (λ (ys : List ℕ). take (2 * (to - from)) (drop (2 * from) ys)) behind
      ∙ run_spelled word 2 length-words r.counts (link_bytes r.branches) from to order within

  pub links_part : (from to : ℕ) → from ≤ to → to ≤ length r.branches
      → take (16 + 2 * v.branches + 4 * to - (16 + 2 * v.branches + 4 * from)) (drop (16 + 2 * v.branches + 4 * from) bytes) ≡ link_bytes (run_between r.branches from to)
  links_part from to order within =
      let start : ℕ = 16 + 2 * v.branches in
      let many : start + 4 * to - (start + 4 * from) ≡ 4 * (to - from) = omega arith in
      let behind : drop start bytes ≡ link_bytes r.branches ++ [] =
      ap (λ (n : ℕ). drop (16 + 2 * n) bytes) is.branches ∙ sym (links_are bytes is.are_bytes is.parts) ∙ ap (λ (q : Root). link_bytes q.branches) seen
      ∙ sym (append-nil (link_bytes r.branches)) in
      ap₂ (λ (n : ℕ) (ys : List ℕ). take n ys) many (sym (drop-drop (4 * from) start bytes))
      ∙ ap (λ (ys : List ℕ). take (4 * (to - from)) (drop (4 * from) ys)) behind
      ∙ run_spelled (λ h. word 0 ++ word h) 4 length-links r.branches [] from to order within

  -- each count is a word
  counts_small : are_words r.counts ≡ true
  counts_small = ap (λ (q : Root). are_words q.counts) (sym seen) ∙ words-read bytes is.are_bytes (λ i. 16 + 2 * i) 0 (branches_in bytes)

  pub few_without : (first behind total : ℕ) → first ≤ behind → behind ≤ length r.counts
      → total ≡ sum_by (λ c. c) (take first r.counts) + sum_by (λ c. c) (drop behind r.counts) → total ≤ 65535 * (length r.counts - (behind - first))
  few_without first behind total order within sum =
      let front = words_front r.counts first counts_small in
      let back = words_back r.counts behind counts_small in
      let one = sum-few (take first r.counts) front in
      let two = sum-few (drop behind r.counts) back in
      let long = length-take-le first r.counts (omega arith) in
      let left = length-drop behind r.counts in
      omega arith

-- A root with other branches, and its bytes.

pub total_spliced : (xs new : List ℕ) (first behind : ℕ) → sum_by (λ c. c) (splice xs first behind new)
    ≡ sum_by (λ c. c) (take first xs) + sum_by (λ c. c) (drop behind xs) + sum_by (λ c. c) new
total_spliced xs new first behind =
    let outer = sum_by-append (λ (c : ℕ). c) (take first xs) (new ++ drop behind xs) in
    let inner = sum_by-append (λ (c : ℕ). c) new (drop behind xs) in
    omega arith

pub length_spliced : (xs new : List ℕ) (first behind : ℕ) → first ≤ behind → behind ≤ length xs → length (splice xs first behind new) ≡ length xs - (behind - first) + length new
length_spliced xs new first behind order within =
    let outer = length-append (take first xs) (new ++ drop behind xs) in
    let inner = length-append new (drop behind xs) in
    let front = length-take-le first xs (omega arith) in
    let back = length-drop behind xs in
    omega arith

spliced_spelled : (f : ℕ → List ℕ) (xs new : List ℕ) (first behind : ℕ) (end : ℕ) → end ≡ length xs
    → flat_map f (splice xs first behind new) ≡ (flat_map f (run_between xs 0 first) ++ flat_map f new) ++ flat_map f (run_between xs behind end)
spliced_spelled f xs new first behind end is =
    let left = length-drop behind xs in
    let from : first ≡ first - 0 = omega arith in
    flat_map-append f (take first xs) (new ++ drop behind xs)
    ∙ ap (λ (ys : List ℕ). flat_map f (take first xs) ++ ys) (flat_map-append f new (drop behind xs))
    ∙ sym (append_assoc (flat_map f (take first xs)) (flat_map f new) (flat_map f (drop behind xs)))
    ∙ ap₂ (λ (n : ℕ) (ys : List ℕ). (flat_map f (take n xs) ++ flat_map f new) ++ flat_map f ys) from (sym (take_all (end - behind) (drop behind xs) (omega arith)))

-- bytes that are added to others
pub added : (all front others behind more : List ℕ) → all ≡ front ++ behind → front ≡ others → behind ≡ more → all ≡ others ++ more
added all front others behind more is same_front same_behind = is ∙ ap₂ (λ (xs ys : List ℕ). xs ++ ys) same_front same_behind

pub root_pushed : (r : Root) (first behind : ℕ) (counts branches found : List ℕ) (total end : ℕ) → first ≤ behind → behind ≤ length r.branches
    → end ≡ length r.counts → end ≡ length r.branches → length counts ≡ length branches
    → total ≡ sum_by (λ c. c) (take first r.counts) + sum_by (λ c. c) (drop behind r.counts) + sum_by (λ c. c) counts
    → found ≡ (((((head_bytes (end - (behind - first) + length branches) r.size total ++ count_bytes (run_between r.counts 0 first)) ++ count_bytes counts)
    ++ count_bytes (run_between r.counts behind end)) ++ link_bytes (run_between r.branches 0 first)) ++ link_bytes branches) ++ link_bytes (run_between r.branches behind end)
    → found ≡ root_bytes (with_branches r first behind counts branches)
root_pushed r first behind counts branches found total end order within many_counts many_branches same sum is =
    let new : Root = with_branches r first behind counts branches in
    let number : ℕ = end - (behind - first) + length branches in
    let head : List ℕ = head_bytes number r.size total in
    let a : List ℕ = count_bytes (run_between r.counts 0 first) in
    let b : List ℕ = count_bytes counts in
    let c : List ℕ = count_bytes (run_between r.counts behind end) in
    let x : List ℕ = link_bytes (run_between r.branches 0 first) in
    let y : List ℕ = link_bytes branches in
    let z : List ℕ = link_bytes (run_between r.branches behind end) in
    let count : number ≡ length new.counts = (let long = length_spliced r.counts counts first behind order (omega arith) in omega arith) in
    let total_is : total ≡ total_count new = sum ∙ sym (total_spliced r.counts counts first behind) in
    let link : ℕ → List ℕ = λ h. word 0 ++ word h in
    is
    ∙ ap (λ (l : List ℕ). (l ++ y) ++ z) (ap (λ (l : List ℕ). l ++ x) (ap (λ (l : List ℕ). l ++ c) (append_assoc head a b) ∙ append_assoc head (a ++ b) c))
    ∙ ap (λ (l : List ℕ). l ++ z) (append_assoc (head ++ ((a ++ b) ++ c)) x y)
    ∙ append_assoc (head ++ ((a ++ b) ++ c)) (x ++ y) z
    ∙ append_assoc head ((a ++ b) ++ c) ((x ++ y) ++ z)
    ∙ ap₂ (λ (k n : ℕ). head_bytes k r.size n ++ (((a ++ b) ++ c) ++ ((x ++ y) ++ z))) count total_is
    ∙ ap₂ (λ (l m : List ℕ). head_bytes (length new.counts) r.size (total_count new) ++ (l ++ m))
    (sym (spliced_spelled word r.counts counts first behind end many_counts)) (sym (spliced_spelled link r.branches branches first behind end many_branches))
    ∙ sym (root_bytes-spelled new)
