-- What a heap is to its callers: its chunks, and where in the region the bytes of each lie that has some.
use Rattle.std.specs.Prelude.{◌≡◌, ◌≢◌, ℕ, ◌+◌, ◌≤◌, List, length, slice_range, IfSome, IsTrue, sum_by, refl}
use Rattle.std.specs.Ordering.{nat_cmp}
use Rattle.std.specs.Coded.{Coded, code_by, coded×, coded_ℕ, coded_list}
use Rattle.std.specs.FinMap.{FinMap, code, entries, get, contains_key}
use Rattle.geos_model.specs.Heap.{ChunkMap, capacity, space_of, chunk_bytes}
use Rattle.geos_model.proofs.Table.{table_map}
use Rattle.lmem_heap.specs.Stored.{Stored, IsChunkApart}

pub record Placed : Type 0 where
  pub chunks : ChunkMap
  pub places : FinMap nat_cmp ℕ

abbrev pub placed_code : Coded Placed
placed_code =
    code_by (ChunkMap × FinMap nat_cmp ℕ) (coded× (code coded_ℕ (coded_list coded_ℕ)) (code coded_ℕ coded_ℕ))
    (λ v. (v.chunks, v.places)) (λ p. record { chunks = p.0; places = p.1 }) (λ _. refl)

-- what a table shows
abbrev pub placed_in : Stored → Placed
placed_in m = record { chunks = table_map 2 16 m.chunks; places = table_map 2 16 m.offsets }

-- what chunks take, each with the word before it
abbrev pub space_taken : ChunkMap → ℕ
space_taken m = sum_by (λ c. space_of (length c.1)) (entries m)

-- Each chunk lies in the space that it takes, with the word before its bytes, apart from every other one.
abbrev pub AreDisjoint : Placed → Type 0
AreDisjoint p =
    (h k : ℕ) → h ≢ k → IfSome (get p.places h) (λ a.
    IfSome (get p.places k) (λ b. IsChunkApart a (chunk_bytes p.chunks h) b (chunk_bytes p.chunks k)))

-- A handle is where its entry of two bytes stands: chunks lie behind the entries of all of them.
abbrev pub AreBehindTable : Placed → Type 0
AreBehindTable p = (h k : ℕ) → IsTrue (contains_key p.chunks k) → IfSome (get p.places h) (λ at. k + 4 ≤ at)

-- The chunks lie at the end of the region: none begins before its last bytes, as many as the chunks take. Since they
-- lie apart, all that is free is in one piece before them.
abbrev pub AreAllLast : Placed → Type 0
AreAllLast p = (h : ℕ) → IfSome (get p.places h) (λ at. capacity + 2 ≤ at + space_taken p.chunks)

-- A region has the bytes of each chunk where they lie.
abbrev pub HoldsChunks : List ℕ → Placed → Type 0
HoldsChunks xs p =
    (h : ℕ) → IfSome (get p.places h)
    (λ at. let bytes = chunk_bytes p.chunks h in slice_range xs at (at + length bytes) ≡ bytes)
