-- The chunks of a heap, by its table.
use Rattle.std.proofs.Common.{◌≡◌, ◌+◌, ◌*◌, ◌<◌, ◌≤◌, ℕ, suc, true, List, [], ◌∷◌, ◌++◌, length, take, Option, None, Some, is_some, unwrap_or, refl, sym, ap, ap₂, ◌∙◌, arith}
use Rattle.std.specs.FinMap.{empty, entries, get, keys}
use Rattle.std.proofs.lemmas.List.{take_more, take_all, length-take}
use Rattle.geos_model.specs.Heap.{ChunkMap, chunk_bytes, handle_of, is_heap_map, table_len}
use Rattle.geos_model.proofs.HeapTables.{chunk_bytes_le, length-table_of, table_map-table_of, table_of}
use Rattle.geos_model.proofs.Table.{table_entries}
use Rattle.geos_model.proofs.Tables.{entries-table_map, get-table_map, slot_at, table_map-nil}
use Rattle.file_report.proofs.HeapLemmas.{table_len_le}
use Rattle.document_stat.specs.Counted.{Chunks, chunks_under}

abbrev pub Slots : Type 0
Slots = List (Option (List ℕ))

-- the chunks of a table
abbrev pub chunks_in : ℕ → Slots → Chunks
chunks_in h t = table_entries 2 h t

further : (h n : ℕ) → h + 2 + 2 * n ≡ h + 2 * suc n
further h n = omega arith

chunks_in-append : (h : ℕ) (s t : Slots) → chunks_in h (s ++ t) ≡ chunks_in h s ++ chunks_in (h + 2 * length s) t
chunks_in-append h [] t = ap (λ (n : ℕ). chunks_in n t) (let same : h ≡ h + 2 * 0 = omega arith in same)
chunks_in-append h (None ∷ s) t = chunks_in-append (h + 2) s t ∙ ap (λ (n : ℕ). chunks_in (h + 2) s ++ chunks_in n t) (further h (length s))
chunks_in-append h (Some x ∷ s) t =
    ap (λ (l : Chunks). (h, x) ∷ l) (chunks_in-append (h + 2) s t ∙ ap (λ (n : ℕ). chunks_in (h + 2) s ++ chunks_in n t) (further h (length s)))

chunks_in-one : (h : ℕ) (slot : Option (List ℕ)) → chunks_in h (slot ∷ []) ≡ chunks_under h slot
chunks_in-one h None = refl
chunks_in-one h (Some x) = refl

-- those of one entry more
pub chunks_more : (m : ChunkMap) (i : ℕ) → is_heap_map m ≡ true → i < table_len (keys m) → chunks_in 16 (take i (table_of m)) ++ chunks_under (handle_of i) (get m (handle_of i)) ≡ chunks_in 16 (take (i + 1) (table_of m))
chunks_more m i heap within =
    let t = table_of m in
    let long : length t ≡ table_len (keys m) = length-table_of m in
    let inside : i < length t = omega (arith, long, within) in
    let short : length (take i t) ≡ i = omega (arith, length-take i t, inside) in
    let slot : get m (handle_of i) ≡ slot_at t i = ap (λ (x : ChunkMap). get x (handle_of i)) (sym (table_map-table_of m heap)) ∙ get-table_map (omega arith) 16 t i in
    sym (ap (chunks_in 16) (take_more t i None inside)
    ∙ chunks_in-append 16 (take i t) (slot_at t i ∷ [])
    ∙ ap (λ (l : Chunks). chunks_in 16 (take i t) ++ l) (chunks_in-one (16 + 2 * length (take i t)) (slot_at t i) ∙ ap₂ (λ (n : ℕ) (o : Option (List ℕ)). chunks_under n o) (ap (λ (n : ℕ). 16 + 2 * n) short) (sym slot)))

-- all of them
pub chunks_all : (m : ChunkMap) (i : ℕ) → is_heap_map m ≡ true → table_len (keys m) ≤ i → chunks_in 16 (take i (table_of m)) ≡ entries m
chunks_all m i heap past =
    let t = table_of m in
    let long : length t ≡ table_len (keys m) = length-table_of m in
    ap (chunks_in 16) (take_all i t (omega (arith, long, past))) ∙ sym (entries-table_map (omega arith) 16 t) ∙ ap entries (table_map-table_of m heap)

pub entries-empty : entries (let none : ChunkMap = empty in none) ≡ []
entries-empty = ap entries (sym (table_map-nil 2 16)) ∙ entries-table_map (omega arith) 16 []

-- They are few.

few_in : (h : ℕ) (t : Slots) → length (chunks_in h t) ≤ length t
few_in h [] = omega arith
few_in h (None ∷ t) = let rest = few_in (h + 2) t in omega (arith, rest)
few_in h (Some x ∷ t) = let rest = few_in (h + 2) t in omega (arith, rest)

pub few_entries : (m : ChunkMap) → is_heap_map m ≡ true → length (entries m) ≤ 32752
few_entries m heap =
    let t = table_of m in
    let all = ap length (sym (entries-table_map (omega arith) 16 t) ∙ ap entries (table_map-table_of m heap)) in
    omega (arith, all, few_in 16 t, length-table_of m, table_len_le m heap)

pub short_chunk : (m : ChunkMap) (h : ℕ) (bytes : List ℕ) → is_heap_map m ≡ true → Some bytes ≡ get m h → length bytes ≤ 65520
short_chunk m h bytes heap is =
    let most = chunk_bytes_le m h heap (ap is_some (sym is)) in
    let same : length bytes ≡ length (chunk_bytes m h) = ap (λ (o : Option (List ℕ)). length (unwrap_or o [])) is in
    omega (arith, most, same)
