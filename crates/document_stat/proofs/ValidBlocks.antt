-- The blocks of a directory's entries: they are in order, can be, and are few.
use Rattle.std.proofs.Common.{◌≡◌, ◌+◌, ◌*◌, ◌<◌, ◌≤◌, ℕ, suc, Bool, true, false, cond, ◌&&◌, ◌==◌, T, nat_lt, List, [], ◌∷◌, ◌++◌, All, map, length, Option, None, Some, nat_cmp, is_lt, Less, Equal, Greater, refl, sym, ap, ap₂, subst, ◌∙◌, arith, flat_map}
use Rattle.std.specs.List.{filter, list_all}
use Rattle.std.specs.Option.{option_map, option_and_then}
use Rattle.std.specs.Cmp.{nat_cmp_total}
use Rattle.std.specs.FinMap.{entries, from_entries, from_sorted, same_map, nat_cmp-IsAntisymmetric, get-from_entries, get-from_sorted, entries-from_sorted}
use Rattle.std.specs.FinMap.Entries.{below_all, is_sorted}
use Rattle.std.proofs.lemmas.Bool.{and_parts, lt-ltb, ltb-true}
use Rattle.std.proofs.lemmas.List.{length-map, length-append}
use Rattle.std.proofs.lemmas.List.Elements.{All-nil, All-cons, All-head, All-tail, All-weaker}
use Rattle.std.proofs.lemmas.List.Sums.{length-filter, count_by-le-length}
use Rattle.geos_model.specs.Document.{Block, chunks_of_body, is_valid_body}
use Rattle.file_format.specs.File.{block_of, blocks_of_entries, bytes_in, if_typed, is_entry, is_rising, prepended, summed_body}
use Rattle.geos_model.specs.declared.block.Attributes.{Attributes}
use Rattle.geos_model.specs.declared.command.Body.{Body}
use Rattle.geos_model.specs.declared.command.Body.TheVariants.{Raw, Heap}
use Rattle.file_format.specs.declared.file.Entry.{Entry}
use Rattle.file_format.proofs.FileDocuments.{if_typed-some, summed_body-some}
use Rattle.file_format.proofs.Files.{body_of-some, entry-low, is_entry-parts}
use Rattle.document_stat.specs.Arrays.{is_kind, kind_of_array}
use Rattle.document_stat.specs.Counted.{Blocks, IsBlockStat, IsCount, all_array_items, all_chunk_items, array_item, array_items, block_item, chunk_item, chunk_items, chunks_of_block, heap_items, raw_items, typed_items}
use Rattle.document_stat.specs.Tallies.{most_items}
use Rattle.lmem_heap.specs.declared.known.ArrayKind.{ArrayKind}
use Rattle.document_stat.specs.declared.blocks.BlockStat.{BlockStat}
use Rattle.document_stat.specs.declared.tally.Item.{Item}
use Rattle.document_stat.proofs.HeapChunks.{entries-empty, few_entries}

-- What entries have.

begins : (first : Option (ℕ × Block)) (others : Option Blocks) (bs : Blocks) → prepended first others ≡ Some bs
    → (b : ℕ × Block) × (rest : Blocks) × (first ≡ Some b) × (others ≡ Some rest) × (b ∷ rest ≡ bs)
begins None others bs is = absurd (cc is)
begins (Some b) None bs is = absurd (cc is)
begins (Some b) (Some rest) bs is = (b, rest, refl, refl, cc is)

body_there : (h : ℕ) (a : Attributes) (o : Option Body) (b : ℕ × Block) → option_map (λ body. let made : ℕ × Block = (h, record { attributes = a; body = body }) in made) o ≡ Some b
    → (body : Body) × (o ≡ Some body) × ((let made : ℕ × Block = (h, record { attributes = a; body = body }) in made) ≡ b)
body_there h a None b is = absurd (cc is)
body_there h a (Some body) b is = (body, refl, cc is)

block_is : (file : List ℕ) (e : Entry) (b : ℕ × Block) → block_of file e ≡ Some b → (b.0 ≡ e.handle.0) × (is_valid_body b.1.body ≡ true)
block_is file e b is =
    let body = body_there e.handle.0 e.attributes (option_and_then (if_typed e.attributes.heap_type) (summed_body e.sum (bytes_in file e.extent))) b is in
    let typed = if_typed-some e.attributes.heap_type (summed_body e.sum (bytes_in file e.extent)) body.0 body.1 in
    let good = body_of-some (bytes_in file e.extent) body.0 (summed_body-some e.sum (bytes_in file e.extent) body.0 typed.0).1 in
    subst (λ (x : ℕ × Block). (x.0 ≡ e.handle.0) × (is_valid_body x.1.body ≡ true)) body.2 (refl, good.0)

rank-less : (x y : ℕ) → x < y → T (is_lt (nat_cmp x y))
rank-less x y l = subst (λ b. T (is_lt (cond b Less (cond (x == y) Equal Greater)))) (sym (lt-ltb x y l)) tt

-- one more
prepended_more : (first : Option (ℕ × Block)) (others : Option Blocks) (last : ℕ × Block) (bs : Blocks) (more : Option Blocks) → prepended first others ≡ Some bs
    → ((rest : Blocks) → others ≡ Some rest → more ≡ Some (rest ++ last ∷ [])) → prepended first more ≡ Some (bs ++ last ∷ [])
prepended_more first others last bs more is each =
    let was = begins first others bs is in
    ap₂ prepended was.2 (each was.1 was.3) ∙ ap (λ (l : Blocks). Some (l ++ last ∷ [])) was.4

pub blocks_more : (file : List ℕ) (es : List Entry) (e : Entry) (bs : Blocks) (b : ℕ × Block) → blocks_of_entries file es ≡ Some bs → block_of file e ≡ Some b → blocks_of_entries file (es ++ e ∷ []) ≡ Some (bs ++ b ∷ [])
blocks_more file [] e bs b is there =
    let none : [] ≡ bs = cc is in
    ap (λ (o : Option (ℕ × Block)). prepended o (Some [])) there ∙ ap (λ (l : Blocks). Some (l ++ b ∷ [])) none
blocks_more file (x ∷ es) e bs b is there =
    prepended_more (block_of file x) (blocks_of_entries file es) b bs (blocks_of_entries file (es ++ e ∷ [])) is (λ rest is. blocks_more file es e rest b is there)

both : (a b : Bool) → T a → T b → T (a && b)
both true b p q = q
both false b p q = p

-- In order, valid, one for each entry.
pub record AreBlocks (last : ℕ) (es : List Entry) (bs : Blocks) : Type 0 where
  pub count : length bs ≡ length es
  pub above : (x : ℕ) → x ≤ last → T (below_all nat_cmp x bs)
  pub sorted : T (is_sorted nat_cmp bs)
  pub valid : All (λ b. is_valid_body b.1.body ≡ true) bs

pub are_blocks : (file : List ℕ) (last : ℕ) (es : List Entry) (bs : Blocks) → blocks_of_entries file es ≡ Some bs → is_rising last es ≡ true → AreBlocks last es bs
are_blocks file last [] bs is rising =
    let none : [] ≡ bs = cc is in
    subst (AreBlocks last []) none (record { count = refl; above = λ x l. tt; sorted = tt; valid = All-nil (λ b. is_valid_body b.1.body ≡ true) })
are_blocks file last (e ∷ es) bs is rising =
    let parts = and_parts (nat_lt last e.handle.0) (is_rising e.handle.0 es) rising in
    let up : last < e.handle.0 = ltb-true last e.handle.0 parts.0 in
    let first = begins (block_of file e) (blocks_of_entries file es) bs is in
    let b = first.0 in
    let here = block_is file e b first.2 in
    let rest = are_blocks file e.handle.0 es first.1 first.3 parts.1 in
    let handle : b.0 ≡ e.handle.0 = here.0 in
    subst (AreBlocks last (e ∷ es)) first.4 (record {
      count = ap suc rest.count;
      above = λ x l. both _ _ (rank-less x b.0 (omega (arith, up, l, handle))) (rest.above x (omega (arith, up, l)));
      sorted = both _ _ (rest.above b.0 (omega (arith, handle))) rest.sorted;
      valid = All-cons (λ c. is_valid_body c.1.body ≡ true) b first.1 here.1 rest.valid;
    })

-- the entries of the map that is made of them
pub entries_made : (bs : Blocks) → T (is_sorted nat_cmp bs) → entries (from_entries {R = nat_cmp} bs) ≡ bs
entries_made bs rising =
    let same : from_entries {R = nat_cmp} bs ≡ from_sorted bs = same_map nat_cmp_total nat_cmp-IsAntisymmetric _ _ (λ q. get-from_entries nat_cmp_total bs q ∙ sym (get-from_sorted nat_cmp bs q rising)) in
    ap entries same ∙ entries-from_sorted nat_cmp bs rising

-- They are few.

-- handles that rise up to so many blocks are few
pub few_rising : (file_version n version last : ℕ) (es : List Entry) → last ≤ 8192 → is_rising last es ≡ true → list_all (is_entry file_version n version) es ≡ true → last + length es ≤ 8192
few_rising file_version n version last [] l rising all = omega (arith, l)
few_rising file_version n version last (e ∷ es) l rising all =
    let here = and_parts (nat_lt last e.handle.0) (is_rising e.handle.0 es) rising in
    let above : last < e.handle.0 = ltb-true last e.handle.0 here.0 in
    let each = and_parts (is_entry file_version n version e) (list_all (is_entry file_version n version) es) all in
    let low = entry-low file_version n version e (is_entry-parts file_version n version e each.0) in
    let rest = few_rising file_version n version e.handle.0 es low here.1 each.1 in
    omega (arith, above, rest)

few_kept : {X : Type 0} (f : X → Item) (p : X → Bool) (xs : List X) → length (map f (filter p xs)) ≤ length xs
few_kept f p xs =
    let long = length-map (filter p xs) f in
    let kept = length-filter p xs in
    let most = count_by-le-length p xs in
    omega (arith, long, kept, most)

few_of_block : (b : ℕ × Block) → is_valid_body b.1.body ≡ true → length (chunks_of_block b) ≤ 32752
few_of_block b valid = elim b.1.body as (λ body. is_valid_body body ≡ true → length (entries (chunks_of_body body)) ≤ 32752) [
  | Raw bytes ↦ λ valid. (let none = ap length entries-empty in omega (arith, none))
  | Heap m ↦ λ valid. few_entries m valid
] valid

few_all : (f : ℕ × Block → List Item) (bs : Blocks) → All (λ b. length (f b) ≤ 32752) bs → length (flat_map f bs) ≤ 32752 * length bs
few_all f [] all = omega arith
few_all f (b ∷ bs) all =
    let here = All-head (λ x. length (f x) ≤ 32752) b bs all in
    let rest = few_all f bs (All-tail (λ x. length (f x) ≤ 32752) b bs all) in
    let long = length-append (f b) (flat_map f bs) in
    omega (arith, here, rest, long)

few_chunk_items : (b : ℕ × Block) → is_valid_body b.1.body ≡ true → length (chunk_items b.0 (chunks_of_block b)) ≤ 32752
few_chunk_items b valid =
    let long = length-map (chunks_of_block b) (chunk_item b.0) in
    let few = few_of_block b valid in
    omega (arith, long, few)

few_array_items : (kind : ArrayKind) (b : ℕ × Block) → is_valid_body b.1.body ≡ true → length (array_items kind b.0 (chunks_of_block b)) ≤ 32752
few_array_items kind b valid =
    let kept = few_kept (array_item b.0) (λ c. is_kind kind (kind_of_array c.1)) (chunks_of_block b) in
    let few = few_of_block b valid in
    omega (arith, kept, few)

few_enough : (items : List Item) (n : ℕ) → n ≤ 8192 → length items ≤ 32752 * n → 0 + length items ≤ most_items
few_enough items n few most = omega (arith, few, most)

fewer : (items : List Item) (n : ℕ) → n ≤ 8192 → length items ≤ n → 0 + length items ≤ most_items
fewer items n few most = omega (arith, few, most)

-- what is told of so few blocks
pub stat_of : (bs : Blocks) (s : BlockStat) → length bs ≤ 8192 → All (λ b. is_valid_body b.1.body ≡ true) bs → IsCount bs s → IsBlockStat bs s
stat_of bs s few valid is = record {
  raw = is.adds.raw.tally [] (fewer (raw_items bs) (length bs) few (few_kept block_item _ bs)) is.none.raw;
  heaps = is.adds.heaps.tally [] (fewer (heap_items bs) (length bs) few (few_kept block_item _ bs)) is.none.heaps;
  types = λ t. (is.adds.types t).tally [] (fewer (typed_items t bs) (length bs) few (few_kept block_item _ bs)) (is.none.types t);
  chunks = is.adds.chunks.tally []
      (few_enough (all_chunk_items bs) (length bs) few (few_all (λ b. chunk_items b.0 (chunks_of_block b)) bs (All-weaker (λ b. is_valid_body b.1.body ≡ true) _ few_chunk_items bs valid))) is.none.chunks;
  arrays = λ kind. (is.adds.arrays kind).tally []
      (few_enough (all_array_items kind bs) (length bs) few (few_all (λ b. array_items kind b.0 (chunks_of_block b)) bs (All-weaker (λ b. is_valid_body b.1.body ≡ true) _ (few_array_items kind) bs valid)))
      (is.none.arrays kind);
}
