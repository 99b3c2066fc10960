-- The patch of a root's counts makes roots of roots, in either direction.
use Rattle.std.proofs.Common.{◌≡◌, ℕ, zero, suc, ◌+◌, ◌*◌, ◌^◌, ◌<◌, ◌≤◌, true, nat_lt, List, [], ◌∷◌, ◌++◌, length, take, get_or, flat_map, Option, Some, None, is_some, refl, sym, ap, subst, ◌∙◌, arith, ltb-true, drop_at}
use Rattle.std.proofs.lemmas.Bool.{lt-ltb}
use Rattle.std.specs.Int.{byte_at, bytes_low_first}
use Rattle.byteorder.specs.Endian.{little_number}
use Rattle.byteorder.specs.Numbers.{little_number-reads_back}
use Rattle.geos_model.specs.Chain.{tree_mark}
use Rattle.geos_model.specs.Heap.{capacity}
use Rattle.geos_model.specs.Words.{word, double_word}
use Rattle.geos_model.specs.LargeLayout.{Root, large_mark, most_branches, root_bytes, root_of, total_count}
use Rattle.geos_model.proofs.Images.{word-reads_back}
use Rattle.geos_model.proofs.RootBytes.{FitsRoot, link_of, length-root_bytes, root_bytes-spelled, root_head, root_of-read, root-again}
use Rattle.raw_region.specs.Roots.{is_large_root}
use Rattle.chunk_edits.specs.Patching.{ArePiecesOf, PatchLeads, directed_pieces, patched, total_taken}
use Rattle.chunk_edits.specs.Roots.{KeepsRoots}
use Rattle.chunk_edits.specs.declared.direction.Direction.{Direction}
use Rattle.chunk_edits.specs.declared.direction.Direction.TheVariants.{Forwards, Backwards}
use Rattle.chunk_edits.proofs.PatchingLemmas.{pieces_length}
use Rattle.chunk_arrays.specs.Parts.{AreByteValues}
use Rattle.large_bodies.specs.RootCounts.{ChangeTogether, counts_pieces}
use Rattle.large_bodies.specs.declared.counts.Counts.{Counts}
use Rattle.large_bodies.proofs.CountedRoots.{before_total, before_count, behind_count, count-passes, counts-lead, fits-with_count, length-before_count, spelled-old, total-within, with_count}
use Rattle.large_bodies.proofs.RootLemmas.{fits-read, sum-few}

-- The bytes of a root are bytes.

bytes-append : (xs ys : List ℕ) → AreByteValues xs → AreByteValues ys → AreByteValues (xs ++ ys)
bytes-append [] ys are more i = more i
bytes-append (x ∷ xs) ys are more zero = are 0
bytes-append (x ∷ xs) ys are more (suc i) = bytes-append xs ys (λ k. are (suc k)) more i

byte_at-lt : (i x : ℕ) → byte_at i x < 256
byte_at-lt zero x = omega arith
byte_at-lt (suc i) x = omega arith

bytes-number : (i n x : ℕ) → AreByteValues (bytes_low_first i n x)
bytes-number i zero x k = omega arith
bytes-number i (suc n) x zero = byte_at-lt i x
bytes-number i (suc n) x (suc k) = bytes-number (suc i) n x k

bytes-each : (f : ℕ → List ℕ) → ((x : ℕ) → AreByteValues (f x)) → (xs : List ℕ) → AreByteValues (flat_map f xs)
bytes-each f are [] i = omega arith
bytes-each f are (x ∷ xs) i = bytes-append (f x) (flat_map f xs) (are x) (bytes-each f are xs) i

bytes-word : (x : ℕ) → AreByteValues (word x)
bytes-word x = bytes-number 0 2 x

bytes-mark : AreByteValues large_mark
bytes-mark zero = omega arith
bytes-mark (suc zero) = omega arith
bytes-mark (suc (suc zero)) = omega arith
bytes-mark (suc (suc (suc zero))) = omega arith
bytes-mark (suc (suc (suc (suc i)))) = omega arith

bytes-head : (r : Root) → AreByteValues (root_head r)
bytes-head r =
    let n : ℕ = length r.counts in
    let total : List ℕ = double_word (total_count r) in
    let size : List ℕ = word r.size ++ total in
    bytes-append (word tree_mark) (word (16 + 2 * n) ++ word n ++ large_mark ++ size) (bytes-word tree_mark)
    (bytes-append (word (16 + 2 * n)) (word n ++ large_mark ++ size) (bytes-word (16 + 2 * n))
    (bytes-append (word n) (large_mark ++ size) (bytes-word n)
    (bytes-append large_mark size bytes-mark
    (bytes-append (word r.size) total (bytes-word r.size) (bytes-number 0 4 (total_count r))))))

bytes-root : (r : Root) → AreByteValues (root_bytes r)
bytes-root r =
    let links : List ℕ = flat_map link_of r.branches in
    subst AreByteValues (sym (root_bytes-spelled r))
    (bytes-append (root_head r) (flat_map word r.counts ++ links) (bytes-head r)
    (bytes-append (flat_map word r.counts) links (bytes-each word bytes-word r.counts)
    (bytes-each link_of (λ h. bytes-append (word 0) (word h) (bytes-word 0) (bytes-word h)) r.branches)))

-- Numbers that are spelled in the same way.

same-words : (m n : ℕ) → m < 65536 → n < 65536 → word m ≡ word n → m ≡ n
same-words m n low high same = sym (word-reads_back m [] low) ∙ ap (λ (l : List ℕ). little_number 2 (l ++ [])) same ∙ word-reads_back n [] high

same-double_words : (m n : ℕ) → m < 4294967296 → n < 4294967296 → double_word m ≡ double_word n → m ≡ n
same-double_words m n low high same =
    sym (little_number-reads_back 4 m [] low) ∙ ap (λ (l : List ℕ). little_number 4 (l ++ [])) same ∙ little_number-reads_back 4 n [] high

-- how many bytes the pieces are of
taken-counts : (branches k : ℕ) (old new : Counts) → k < branches → total_taken (counts_pieces branches k old new) ≡ 16 + 6 * branches
taken-counts branches k old new low = omega arith

-- numbers that a root's words have room for
pub record HaveRoom (c : Counts) : Type 0 where
  pub total : c.total < 2 ^ 32
  pub count : c.count < 2 ^ 16

-- The pieces, in one direction, of a root whose numbers have room.
module _ (r : Root) (fits : FitsRoot r) (branches k : ℕ) (old new : Counts) (low : k < branches) (old_room : HaveRoom old) (new_room : HaveRoom new) (together : ChangeTogether old new)
    (are : ArePiecesOf (counts_pieces branches k old new) (root_bytes r)) where
  many : length r.counts ≡ branches
  many =
      let long = length-root_bytes r fits.as_many in
      let taken = pieces_length (counts_pieces branches k old new) (root_bytes r) are in
      let all = taken-counts branches k old new low in
      omega arith

  within : k < length r.counts
  within = (let same = many in omega arith)

  abbrev count : ℕ
  count = get_or r.counts k 0

  abbrev from_count : List ℕ
  from_count = word count ++ behind_count r k within

  spelled : ArePiecesOf (counts_pieces branches k old new) (before_total r ++ (double_word (total_count r) ++ (before_count r k within ++ from_count)))
  spelled = subst (ArePiecesOf (counts_pieces branches k old new)) (spelled-old r k within) are

  -- They are of that root's numbers.

  total_is : old.total ≡ total_count r
  total_is =
      let sum = sum-few r.counts fits.counts in
      let few = fits.few in
      let room = old_room.total in
      same-double_words old.total (total_count r) (omega arith) (omega arith) (sym spelled.1.0)

  count_is : old.count ≡ count
  count_is =
      let small = ltb-true count 65536 (count-passes (λ x. nat_lt x 65536) r.counts k within fits.counts) in
      let behind = drop_at (before_count r k within) from_count (2 * k) (length-before_count r k within) in
      same-words old.count count old_room.count small (sym (sym (ap (take 2) behind) ∙ spelled.1.1.1.0))

  abbrev after : Root
  after = with_count r k new.count

  total_then : new.total ≡ total_count after
  total_then =
      let sums = total-within r.counts k new.count within in
      let before = total_is in
      let here = count_is in
      let level = together.level in
      omega (arith, sums.0, sums.1)

  root_then : is_large_root (patched (counts_pieces branches k old new) (root_bytes r)) ≡ true
  root_then =
      let leads : PatchLeads (counts_pieces branches k old new) (root_bytes r) (root_bytes after) =
      counts-lead r k within new.count branches k old new (sym many) (sym (fits.as_many ∙ many)) refl total_is count_is total_then refl in
      let fits_then : FitsRoot after = fits-with_count r k new.count fits within (lt-ltb 0 new.count together.still_some) (lt-ltb new.count 65536 new_room.count) in
      ap is_large_root leads.gives ∙ ap is_some (root-again after fits_then)

-- The pieces, in one direction, of any root.
root_kept : (branches k : ℕ) (old new : Counts) → k < branches → branches ≤ most_branches → HaveRoom old → HaveRoom new → ChangeTogether old new
    → (bytes : List ℕ) → ArePiecesOf (counts_pieces branches k old new) bytes → is_large_root bytes ≡ true → is_large_root (patched (counts_pieces branches k old new) bytes) ≡ true
root_kept branches k old new low few old_room new_room together bytes are known = by_root (root_of bytes) refl known
  where
    short : length bytes ≤ capacity
    short = (let taken = pieces_length (counts_pieces branches k old new) bytes are in let all = taken-counts branches k old new low in omega arith)

    by_root : (o : Option Root) → root_of bytes ≡ o → is_some o ≡ true → is_large_root (patched (counts_pieces branches k old new) bytes) ≡ true
    by_root None found some = absurd (cc some)
    by_root (Some r) found some =
        let read = root_of-read bytes r found in
        let are_bytes : AreByteValues bytes = subst AreByteValues read.2 (bytes-root r) in
        let fits : FitsRoot r = subst FitsRoot read.0 (fits-read bytes are_bytes short r found) in
        subst (λ (l : List ℕ). is_large_root (patched (counts_pieces branches k old new) l) ≡ true) read.2
        (root_then r fits branches k old new low old_room new_room together (subst (ArePiecesOf (counts_pieces branches k old new)) (sym read.2) are))

opposite_changes : (old new : Counts) → ChangeTogether old new → ChangeTogether new old
opposite_changes old new together = record { some = together.still_some; still_some = together.some; level = sym together.level }

-- In both directions.
pub counts-keep_roots : (branches k : ℕ) (old new : Counts) → k < branches → branches ≤ most_branches → HaveRoom old → HaveRoom new → ChangeTogether old new
    → KeepsRoots (counts_pieces branches k old new)
counts-keep_roots branches k old new low few old_room new_room together = record { each = by_direction }
  where
    by_direction : (direction : Direction) (bytes : List ℕ) → ArePiecesOf (directed_pieces direction (counts_pieces branches k old new)) bytes
        → is_large_root bytes ≡ true → is_large_root (patched (directed_pieces direction (counts_pieces branches k old new)) bytes) ≡ true
    by_direction Forwards = root_kept branches k old new low few old_room new_room together
    by_direction Backwards = root_kept branches k new old low few new_room old_room (opposite_changes old new together)
