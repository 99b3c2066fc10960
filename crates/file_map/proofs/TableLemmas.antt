-- Tables of heaps.
use Rattle.std.proofs.Common.{◌≡◌, ◌≤◌, ℕ, ◌+◌, ◌*◌, ◌<◌, Bool, true, false, min, List, [], ◌++◌, length, take, drop, get_or, arith, ap, length-take}
use Rattle.std.specs.Prelude.{cond, nat_lt}
use Rattle.std.proofs.lemmas.List.{drop_more}
use Rattle.geos_model.specs.Heap.{most_chunks}
use Rattle.geos_model.specs.Words.{word_at}
use Rattle.file_map.specs.Bars.{chunk_drawn, chunks_drawn, flipped}
use Rattle.file_map.specs.Heaps.{chunk_space, table_bytes}

short : (b : Bool) (xs : List ℕ) (n : ℕ) → length xs ≤ n → length (cond b [] xs) ≤ n
short true xs n most = omega arith
short false xs n most = most

pub table_most : (image : List ℕ) → length (table_bytes image) ≤ 65504
table_most image =
    let words : ℕ = 2 * min (word_at image 1) most_chunks in
    let size = length-take words (drop 3 image) in
    short (nat_lt (length image) 3) (take words (drop 3 image)) 65504 (omega (arith, size))

-- the chunks from an entry on
pub chunks_more : (dark : Bool) (at entry : ℕ) (sizes : List ℕ) (d : ℕ) → entry < length sizes
    → chunks_drawn dark at entry (drop entry sizes)
    ≡ chunk_drawn dark at entry (get_or sizes entry d) ++ chunks_drawn (flipped dark (get_or sizes entry d)) (at + chunk_space (get_or sizes entry d)) (entry + 1) (drop (entry + 1) sizes)
chunks_more dark at entry sizes d within = ap (chunks_drawn dark at entry) (drop_more sizes entry d within)
