-- The handles of a heap's chunks are those of all handles under which it has one.
use Rattle.std.proofs.Common.{◌≡◌, ℕ, suc, zero, ◌+◌, ◌≤◌, Bool, true, false, List, [], ◌∷◌, length, map, filter, Option, Some, None, is_some, sym, ap, subst, ◌∙◌, arith, refl}
use Rattle.std.proofs.lemmas.Bool.{cond-false, cond-true}
use Rattle.std.specs.FinMap.{contains_key, keys}
use Rattle.geos_model.specs.Heap.{ChunkMap, chunk_handles, handle_of, is_heap_map, most_chunks, need}
use Rattle.geos_model.proofs.HeapTables.{heap_map-table, length_le-table, need_le}
use Rattle.geos_model.proofs.Table.{table_entries, table_map}
use Rattle.geos_model.proofs.Tables.{contains_key-table_map, keys-table_map, slot_at}
use Rattle.document_diff.specs.Merging.{live_chunks}
use Rattle.document_diff.proofs.Merged.{row}

abbrev numbers : List (ℕ × List ℕ) → List ℕ
numbers es = map (λ e. e.0) es

table_kept : (p : ℕ → Bool) (i k : ℕ) (t : List (Option (List ℕ))) → ((j : ℕ) → p (handle_of (i + j)) ≡ is_some (slot_at t j)) → length t ≤ k
    → numbers (table_entries 2 (handle_of i) t) ≡ filter p (row i k)
table_kept p i zero [] live long = refl
table_kept p i zero (o ∷ t) live long = absurd (omega (arith, long))
table_kept p i (suc k) [] live long =
    let here : i + 0 ≡ i = omega arith in
    let fails : p (handle_of i) ≡ false = ap (λ (j : ℕ). p (handle_of j)) (sym here) ∙ live 0 in
    let shift : (j : ℕ) → i + 1 + j ≡ i + suc j = λ j. omega arith in
    table_kept p (i + 1) k [] (λ j. ap (λ (x : ℕ). p (handle_of x)) (shift j) ∙ live (suc j)) (omega arith) ∙ sym (cond-false _ _ _ fails)
table_kept p i (suc k) (None ∷ t) live long =
    let here : i + 0 ≡ i = omega arith in
    let fails : p (handle_of i) ≡ false = ap (λ (j : ℕ). p (handle_of j)) (sym here) ∙ live 0 in
    let shift : (j : ℕ) → i + 1 + j ≡ i + suc j = λ j. omega arith in
    let at : handle_of i + 2 ≡ handle_of (i + 1) = omega arith in
    ap (λ (h : ℕ). numbers (table_entries 2 h t)) at ∙ table_kept p (i + 1) k t (λ j. ap (λ (x : ℕ). p (handle_of x)) (shift j) ∙ live (suc j)) (omega (arith, long)) ∙ sym (cond-false _ _ _ fails)
table_kept p i (suc k) (Some x ∷ t) live long =
    let here : i + 0 ≡ i = omega arith in
    let passes : p (handle_of i) ≡ true = ap (λ (j : ℕ). p (handle_of j)) (sym here) ∙ live 0 in
    let shift : (j : ℕ) → i + 1 + j ≡ i + suc j = λ j. omega arith in
    let at : handle_of i + 2 ≡ handle_of (i + 1) = omega arith in
    ap (λ (h : ℕ). handle_of i ∷ numbers (table_entries 2 h t)) at
    ∙ ap (λ (l : List ℕ). handle_of i ∷ l) (table_kept p (i + 1) k t (λ j. ap (λ (x : ℕ). p (handle_of x)) (shift j) ∙ live (suc j)) (omega (arith, long))) ∙ sym (cond-true _ _ _ passes)

all_kept : (n : ℕ) (t : List (Option (List ℕ))) → length t ≤ n → keys (table_map 2 16 t) ≡ filter (contains_key (table_map 2 16 t)) (row 0 n)
all_kept n t long =
    let plain : (j : ℕ) → 0 + j ≡ j = λ j. omega arith in
    keys-table_map (omega arith) 16 t
    ∙ table_kept (contains_key (table_map 2 16 t)) 0 n t (λ j. ap (λ (x : ℕ). contains_key (table_map 2 16 t) (handle_of x)) (plain j) ∙ contains_key-table_map (omega arith) 16 t j) long

pub live_keys : (m : ChunkMap) → is_heap_map m ≡ true → keys m ≡ live_chunks m
unfolding chunk_handles
live_keys m valid =
    let shown = heap_map-table m valid in
    let room : need (table_map 2 16 shown.0) ≤ 65520 = subst (λ (x : ChunkMap). need x ≤ 65520) shown.2 (need_le m valid) in
    subst (λ (x : ChunkMap). keys x ≡ filter (contains_key x) (row 0 most_chunks)) (sym shown.2) (all_kept most_chunks shown.0 (length_le-table shown.0 shown.1 room))
