-- Nothing differs just where the documents are the same.
use Rattle.std.proofs.Common.{◌≡◌, ℕ, ◌+◌, ◌-◌, ◌/◌, ◌≤◌, ◌<◌, ◌==◌, Bool, true, false, List, [], ◌∷◌, ◌++◌, length, Option, Some, None, is_some, unwrap_or, refl, sym, ap, ◌∙◌, arith, inl, inr, flat_map, eqb-true, eq-eqb, leb-true, length-append}
use Rattle.std.specs.Prelude.{if◌then◌else◌}
use Rattle.std.proofs.lemmas.Bool.{cases_Bool, and_parts}
use Rattle.std.specs.List.{range_with_len}
use Rattle.std.specs.FinMap.{get, nat_cmp-IsAntisymmetric, same_map}
use Rattle.std.specs.Cmp.{nat_cmp_total}
use Rattle.geos_model.specs.Bytes.{same_bytes}
use Rattle.geos_model.specs.Script.{line_feed}
use Rattle.geos_model.specs.Heap.{ChunkMap, handle_of, is_chunk_handle, is_heap_map, most_chunks}
use Rattle.geos_model.specs.Document.{Block, Document, is_live, is_valid_body, is_vm_handle, most_blocks, no_block, vm_handles}
use Rattle.geos_model.specs.declared.handle.VmHandle.{VmHandle}
use Rattle.geos_model.specs.declared.handle.ChunkHandle.{ChunkHandle}
use Rattle.geos_model.specs.declared.block.Attributes.{Attributes}
use Rattle.geos_model.specs.declared.command.Body.{Body}
use Rattle.geos_model.specs.declared.command.Body.TheVariants as bodies
use Rattle.geos_model.proofs.Arrays.{same_bytes-is, same_bytes-refl}
use Rattle.geos_model.proofs.HeapTables.{is_chunk_handle-parts, live_handle}
use Rattle.document_diff.specs.Differences.{attributes_compared, block_compared, block_named, blocks_compared, bodies_compared, chunk_compared, chunk_named, compared, compared_at, heap_compared, map_compared, raw_compared, type_compared, user_id_compared}
use Rattle.document_diff.specs.Diffs.{TellsSame, diff_text, is_no_text}
use Rattle.document_diff.specs.Lines.{diff_lines, difference_text}
use Rattle.document_diff.specs.declared.difference.Difference.{Difference}
use Rattle.document_diff.proofs.Ranges.{both_none, no_list, none_at, none_within}
use Rattle.document_diff.proofs.Texts.{by_chunks}

-- nothing is told only where that is so
told : (same : Bool) (d : Difference) → (if same then [] else d ∷ []) ≡ [] → same ≡ true
told true d e = refl
told false d e = absurd (no_list d [] e)

untold : (same : Bool) (d : Difference) → same ≡ true → (if same then [] else d ∷ []) ≡ []
untold same d is = ap (λ (b : Bool). if b then [] else d ∷ []) is

same_number : (a b : ℕ) (d : Difference) → (if a == b then [] else d ∷ []) ≡ [] → a ≡ b
same_number a b d e = eqb-true a b (told (a == b) d e)

same_number-refl : (a : ℕ) (d : Difference) → (if a == a then [] else d ∷ []) ≡ []
same_number-refl a d = untold (a == a) d (eq-eqb a a refl)

none_of : {X : Type 0} (o : Option X) → is_some o ≡ false → o ≡ None
none_of None e = refl
none_of (Some x) e = absurd (cc e)

-- where nothing is live in either
both_dead : {X : Type 0} (x y : Option X) → (is_some x ≡ true → ⊥) → (is_some y ≡ true → ⊥) → x ≡ y
both_dead None None first second = refl
both_dead None (Some y) first second = absurd (second refl)
both_dead (Some x) y first second = absurd (first refl)

true_false : (b : Bool) → b ≡ true → b ≡ false → ⊥
true_false b is isnt = let wrong : true ≡ false = sym is ∙ isnt in cc (wrong)

-- Chunks.

same_chunk : (b : VmHandle) (c : ChunkHandle) (x y : Option (List ℕ)) → chunk_compared b c x y ≡ [] → x ≡ y
same_chunk b c None None e = refl
same_chunk b c None (Some y) e = absurd (no_list _ [] e)
same_chunk b c (Some x) None e = absurd (no_list _ [] e)
same_chunk b c (Some x) (Some y) e = ap Some (same_bytes-is x y (told (same_bytes x y) _ e))

same_chunk-refl : (b : VmHandle) (c : ChunkHandle) (x : Option (List ℕ)) → chunk_compared b c x x ≡ []
same_chunk-refl b c None = refl
same_chunk-refl b c (Some x) = untold (same_bytes x x) _ (same_bytes-refl x)

module _ (b : VmHandle) where
  same_heap : (m n : ChunkMap) → is_heap_map m ≡ true → is_heap_map n ≡ true → heap_compared b m n ≡ [] → m ≡ n
  unfolding heap_compared
  same_heap m n heap other e =
      let f : ℕ → List Difference = λ c. chunk_compared b (chunk_named c) (get m c) (get n c) in
      let all : flat_map (λ i. f (handle_of i)) (range_with_len 0 most_chunks) ≡ [] = sym (by_chunks f) ∙ e in
      same_map nat_cmp_total nat_cmp-IsAntisymmetric m n
      (λ q. elim (cases_Bool (is_chunk_handle q)) as (λ _. get m q ≡ get n q) [
        | inl is ↦ (let parts = is_chunk_handle-parts q is in
            let at : handle_of ((q - 16) / 2) ≡ q = omega (arith, parts.0, parts.2) in
            same_chunk b (chunk_named q) (get m q) (get n q) (ap f (sym at) ∙ none_at (λ i. f (handle_of i)) 0 most_chunks ((q - 16) / 2) all (omega arith) (omega (arith, parts.0, parts.1))))
        | inr isnt ↦ both_dead (get m q) (get n q) (λ live. true_false _ (live_handle m q heap live) isnt) (λ live. true_false _ (live_handle n q other live) isnt)
      ])

  same_heap-refl : (m : ChunkMap) → heap_compared b m m ≡ []
  unfolding heap_compared
  same_heap-refl m = none_within (λ c. chunk_compared b (chunk_named c) (get m c) (get m c)) _ (λ c. same_chunk-refl b (chunk_named c) (get m c))

  -- Blocks.

  same_attributes : (x y : Attributes) → attributes_compared b x y ≡ [] → x ≡ y
  same_attributes x y e =
      let parts = both_none (user_id_compared b x.user_id y.user_id) (type_compared b x.heap_type y.heap_type) e in
      let uid = same_number x.user_id y.user_id _ parts.0 in
      let type = same_number x.heap_type y.heap_type _ parts.1 in
      λ i. record { user_id = uid i; heap_type = type i }

  same_attributes-refl : (x : Attributes) → attributes_compared b x x ≡ []
  same_attributes-refl x =
      ap (λ (l : List Difference). l ++ type_compared b x.heap_type x.heap_type) (same_number-refl x.user_id _) ∙ same_number-refl x.heap_type _

  same_bodies : (from to : Attributes) (x y : Body) → is_valid_body x ≡ true → is_valid_body y ≡ true → bodies_compared b from to x y ≡ [] → (from ≡ to) × (x ≡ y)
  same_bodies from to (bodies.Raw x) (bodies.Raw y) valid other e =
      let parts = both_none (attributes_compared b from to) (raw_compared b x y) e in
      (same_attributes from to parts.0, ap bodies.Raw (same_bytes-is x y (told (same_bytes x y) _ parts.1)))
  same_bodies from to (bodies.Heap m) (bodies.Heap n) valid other e =
      let parts = both_none (attributes_compared b from to) (heap_compared b m n) e in
      (same_attributes from to parts.0, ap bodies.Heap (same_heap m n valid other parts.1))
  same_bodies from to (bodies.Raw x) (bodies.Heap n) valid other e = absurd (no_list _ _ e)
  same_bodies from to (bodies.Heap m) (bodies.Raw y) valid other e = absurd (no_list _ _ e)

  same_bodies-refl : (a : Attributes) (x : Body) → bodies_compared b a a x x ≡ []
  same_bodies-refl a (bodies.Raw x) = ap (λ (l : List Difference). l ++ raw_compared b x x) (same_attributes-refl a) ∙ untold (same_bytes x x) _ (same_bytes-refl x)
  same_bodies-refl a (bodies.Heap m) = ap (λ (l : List Difference). l ++ heap_compared b m m) (same_attributes-refl a) ∙ same_heap-refl m

  same_block : (x y : Option Block) → (is_some x ≡ true → is_valid_body (unwrap_or x no_block).body ≡ true) → (is_some y ≡ true → is_valid_body (unwrap_or y no_block).body ≡ true)
      → block_compared b x y ≡ [] → x ≡ y
  same_block None None valid other e = refl
  same_block None (Some y) valid other e = absurd (no_list _ [] e)
  same_block (Some x) None valid other e = absurd (no_list _ [] e)
  same_block (Some x) (Some y) valid other e =
      let parts = same_bodies x.attributes y.attributes x.body y.body (valid refl) (other refl) e in
      λ i. Some (record { attributes = parts.0 i; body = parts.1 i })

  same_block-refl : (x : Option Block) → block_compared b x x ≡ []
  same_block-refl None = refl
  same_block-refl (Some x) = same_bodies-refl x.attributes x.body

-- Documents.

-- what is known of each document of a file
pub record CanBe (d : Document) : Type 0 where
  pub handles : (h : ℕ) → is_live d h ≡ true → is_vm_handle h ≡ true
  pub bodies : (h : ℕ) → is_live d h ≡ true → is_valid_body (unwrap_or (get d.blocks h) no_block).body ≡ true

handle_range : (h : ℕ) → is_vm_handle h ≡ true → (1 ≤ h) × (h < 1 + most_blocks)
handle_range h is = let parts = and_parts _ _ is in (leb-true 1 h parts.0, omega (arith, leb-true h most_blocks parts.1))

all_handles : vm_handles ≡ range_with_len 1 most_blocks
unfolding vm_handles
all_handles = refl

blocks_at : (old new : Document) → blocks_compared old new ≡ flat_map (compared_at old new) (range_with_len 1 most_blocks)
unfolding blocks_compared
blocks_at old new = ap (flat_map (compared_at old new)) all_handles

same_blocks : (old new : Document) → CanBe old → CanBe new → blocks_compared old new ≡ [] → old.blocks ≡ new.blocks
same_blocks old new can be e =
    let all = sym (blocks_at old new) ∙ e in
    same_map nat_cmp_total nat_cmp-IsAntisymmetric old.blocks new.blocks
    (λ q. elim (cases_Bool (is_vm_handle q)) as (λ _. get old.blocks q ≡ get new.blocks q) [
      | inl is ↦ (let within = handle_range q is in
          same_block (block_named q) (get old.blocks q) (get new.blocks q) (can.bodies q) (be.bodies q) (none_at (compared_at old new) 1 most_blocks q all within.0 within.1))
      | inr isnt ↦ both_dead (get old.blocks q) (get new.blocks q) (λ live. true_false _ (can.handles q live) isnt) (λ live. true_false _ (be.handles q live) isnt)
    ])

long : (d : Difference) (ds : List Difference) → length (diff_lines (d ∷ ds)) ≡ 0 → ⊥
long d ds e =
    let whole = length-append (difference_text d ++ line_feed ∷ []) (diff_lines ds) in
    let front = length-append (difference_text d) (line_feed ∷ []) in
    omega (arith, e, whole, front)

none_told : (ds : List Difference) → is_no_text (diff_lines ds) ≡ true → ds ≡ []
none_told [] e = refl
none_told (d ∷ ds) e = let size = eqb-true (length (diff_lines (d ∷ ds))) 0 e in absurd (long d ds size)

same_documents : (old new : Document) → CanBe old → CanBe new → is_no_text (diff_text old new) ≡ true → old ≡ new
same_documents old new can be e =
    let parts = both_none (map_compared old.map_block new.map_block) (blocks_compared old new) (none_told (compared old new) e) in
    let map_is = same_number old.map_block new.map_block _ parts.0 in
    let blocks_are = same_blocks old new can be parts.1 in
    λ i. record { blocks = blocks_are i; map_block = map_is i }

same_documents-refl : (d : Document) → compared d d ≡ []
unfolding blocks_compared
same_documents-refl d =
    ap (λ (l : List Difference). l ++ blocks_compared d d) (same_number-refl d.map_block _) ∙ none_within (compared_at d d) vm_handles (λ h. same_block-refl (block_named h) (get d.blocks h))

pub tells_same : (old new : Document) (none : Bool) → CanBe old → CanBe new → none ≡ is_no_text (diff_text old new) → TellsSame old new none
tells_same old new none can be is = record {
  only = λ e. same_documents old new can be (sym is ∙ e);
  whenever = λ e. is ∙ sym (ap (λ (d : Document). is_no_text (diff_text old d)) e) ∙ ap (λ (ds : List Difference). is_no_text (diff_lines ds)) (same_documents-refl old);
}
