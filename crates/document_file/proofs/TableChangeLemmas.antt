-- Tables in which blocks come and go.
use Rattle.std.proofs.Common.{◌≡◌, ◌≢◌, ℕ, zero, suc, ◌+◌, ◌-◌, ◌<◌, ◌≤◌, ◌==◌, Bool, true, false, cond, IsTrue, List, [], ◌∷◌, All, set, length, get_or, Option, None, Some, is_some, refl, sym, ap, ap₂, subst, ◌∙◌, arith, inl, inr, length-set, ◌⊎◌, ◌++◌, length-append}
use Rattle.std.specs.Cmp.{nat_cmp_total, unsigned_tied}
use Rattle.std.specs.Option.{option_map, option_map_or}
use Rattle.std.specs.FinMap.{FinMap, get, remove, get-insert, get-remove, same_map, nat_cmp-IsAntisymmetric, from_entries}
use Rattle.std.specs.Ordering.{nat_cmp}
use Rattle.std.proofs.lemmas.Bool.{cases_Bool, cases_lt, cond-true, cond-false, eqb-true}
use Rattle.std.proofs.lemmas.List.{get_or-set_other, set_past}
use Rattle.geos_model.specs.Document.{Block, Document, is_heap, is_heap_body, is_live, attributes_of, with_block, without_block, no_attributes, most_blocks}
use Rattle.geos_model.specs.Image.{image, body_read}
use Rattle.file_format.specs.File.{bytes_in}
use Rattle.file_format.specs.declared.file.Extent.{Extent}
use Rattle.geos_model.specs.declared.handle.VmHandle.{VmHandle}
use Rattle.geos_model.proofs.Images.{body_read-body}
use Rattle.geos_model.proofs.Tables.{slot_at, slot_at_past}
use Rattle.document_file.specs.Calls.{IsPut, put_all, remove_all}
use Rattle.document_file.specs.Members.{imaged_block}
use Rattle.document_file.specs.Disk.{SameUnlessCorrupt, FileState}
use Rattle.geos_model.specs.declared.command.Body.{Body}
use Rattle.document_file.specs.Documents.{block_in, of_kind, blocks_in, document_in, IsImaged}
use Rattle.document_file.specs.Writing.{placed_at, with_places, without_place, without_places, IsGrown}
use Rattle.document_file.specs.Sums.{IsSummed, has_sums}
use Rattle.document_file.specs.declared.member.Member.{Member}
use Rattle.document_file.specs.declared.table.Place.{Place}
use Rattle.document_file.proofs.ImageLemmas.{of_kind-kind, of_kind-same}
use Rattle.document_file.proofs.PassingLemmas.{SameUnlessCorrupt-trans, SameUnlessCorrupt-refl}
use Rattle.document_file.proofs.TableLemmas.{EachPlace, shown, shown_put, shown_removed, get_none, get_at, each_set, full_set, handle_within}
use Rattle.std.specs.Prelude.{max, replicate}
use Rattle.vm_store.specs.Facts.{StoreFacts}
use Rattle.geos_model.proofs.Table.{table_entries, table_map}
use Rattle.document_file.specs.Ranges.{IsPlaced}
use Rattle.document_file.specs.Slots.{block_extents}
use Rattle.document_file.specs.Listing.{AreBounds}
use Rattle.document_file.specs.Sound.{IsPlace, IsBlockTable, IsSound, disk_of}
use Rattle.document_file.specs.declared.listing.Bounds.{Bounds}
use Rattle.document_file.specs.declared.slot.Slots.{Slots}
use Rattle.document_file.specs.declared.table.BlockTable.{BlockTable}
use Rattle.document_file.proofs.SoundLemmas.{EndsIn, sound_live}

-- Documents that differ in their bytes alone, after the same change.

module _ (d : Document) (h : ℕ) where
  live_with : (b : Block) (q : ℕ) → is_live (with_block d h b) q ≡ cond (q == h) true (is_live d q)
  live_with b q =
      ap is_some (get-insert nat_cmp_total d.blocks h b q ∙ ap (λ t. cond t (Some b) (get d.blocks q)) (unsigned_tied q h))
      ∙ elim (q == h) as (λ t. is_some (cond t (Some b) (get d.blocks q)) ≡ cond t true (is_some (get d.blocks q))) [ true ↦ refl | false ↦ refl ]

  attributes_with : (b : Block) (q : ℕ) → attributes_of (with_block d h b) q ≡ cond (q == h) b.attributes (attributes_of d q)
  attributes_with b q =
      ap (λ o. option_map_or (λ (x : Block). x.attributes) o no_attributes) (get-insert nat_cmp_total d.blocks h b q ∙ ap (λ t. cond t (Some b) (get d.blocks q)) (unsigned_tied q h))
      ∙ elim (q == h) as (λ t. option_map_or (λ (x : Block). x.attributes) (cond t (Some b) (get d.blocks q)) no_attributes ≡ cond t b.attributes (option_map_or (λ (x : Block). x.attributes) (get d.blocks q) no_attributes)) [ true ↦ refl | false ↦ refl ]

  heap_with : (b : Block) (q : ℕ) → is_heap (with_block d h b) q ≡ cond (q == h) (is_heap_body b.body) (is_heap d q)
  heap_with b q =
      ap (λ o. option_map_or (λ (x : Block). is_heap_body x.body) o false) (get-insert nat_cmp_total d.blocks h b q ∙ ap (λ t. cond t (Some b) (get d.blocks q)) (unsigned_tied q h))
      ∙ elim (q == h) as (λ t. option_map_or (λ (x : Block). is_heap_body x.body) (cond t (Some b) (get d.blocks q)) false ≡ cond t (is_heap_body b.body) (option_map_or (λ (x : Block). is_heap_body x.body) (get d.blocks q) false)) [ true ↦ refl | false ↦ refl ]

  live_without : (q : ℕ) → is_live (without_block d h) q ≡ cond (q == h) false (is_live d q)
  live_without q =
      ap is_some (get-remove nat_cmp_total d.blocks h q ∙ ap (λ t. cond t None (get d.blocks q)) (unsigned_tied q h))
      ∙ elim (q == h) as (λ t. is_some (cond t None (get d.blocks q)) ≡ cond t false (is_some (get d.blocks q))) [ true ↦ refl | false ↦ refl ]

  attributes_without : (q : ℕ) → attributes_of (without_block d h) q ≡ cond (q == h) no_attributes (attributes_of d q)
  attributes_without q =
      ap (λ o. option_map_or (λ (x : Block). x.attributes) o no_attributes) (get-remove nat_cmp_total d.blocks h q ∙ ap (λ t. cond t None (get d.blocks q)) (unsigned_tied q h))
      ∙ elim (q == h) as (λ t. option_map_or (λ (x : Block). x.attributes) (cond t None (get d.blocks q)) no_attributes ≡ cond t no_attributes (option_map_or (λ (x : Block). x.attributes) (get d.blocks q) no_attributes)) [ true ↦ refl | false ↦ refl ]

  heap_without : (q : ℕ) → is_heap (without_block d h) q ≡ cond (q == h) false (is_heap d q)
  heap_without q =
      ap (λ o. option_map_or (λ (x : Block). is_heap_body x.body) o false) (get-remove nat_cmp_total d.blocks h q ∙ ap (λ t. cond t None (get d.blocks q)) (unsigned_tied q h))
      ∙ elim (q == h) as (λ t. option_map_or (λ (x : Block). is_heap_body x.body) (cond t None (get d.blocks q)) false ≡ cond t false (option_map_or (λ (x : Block). is_heap_body x.body) (get d.blocks q) false)) [ true ↦ refl | false ↦ refl ]

drifts_with : (honest : Bool) (a b : Document) (h : ℕ) (x y : Block) → SameUnlessCorrupt honest a b → y.attributes ≡ x.attributes → is_heap_body y.body ≡ is_heap_body x.body → (IsTrue honest → y ≡ x) → SameUnlessCorrupt honest (with_block a h x) (with_block b h y)
drifts_with honest a b h x y unless_corrupt same kind is = record {
  live = λ q. live_with b h y q ∙ ap (cond (q == h) true) (unless_corrupt.live q) ∙ sym (live_with a h x q);
  attributes = λ q. attributes_with b h y q ∙ ap₂ (cond (q == h)) same (unless_corrupt.attributes q) ∙ sym (attributes_with a h x q);
  kinds = λ q. heap_with b h y q ∙ ap₂ (cond (q == h)) kind (unless_corrupt.kinds q) ∙ sym (heap_with a h x q);
  map_block = unless_corrupt.map_block;
  same = λ so. ap₂ (λ d z. with_block d h z) (unless_corrupt.same so) (is so);
}

drifts_without : (honest : Bool) (a b : Document) (h : ℕ) → SameUnlessCorrupt honest a b → SameUnlessCorrupt honest (without_block a h) (without_block b h)
drifts_without honest a b h unless_corrupt = record {
  live = λ q. live_without b h q ∙ ap (cond (q == h) false) (unless_corrupt.live q) ∙ sym (live_without a h q);
  attributes = λ q. attributes_without b h q ∙ ap (cond (q == h) no_attributes) (unless_corrupt.attributes q) ∙ sym (attributes_without a h q);
  kinds = λ q. heap_without b h q ∙ ap (cond (q == h) false) (unless_corrupt.kinds q) ∙ sym (heap_without a h q);
  map_block = unless_corrupt.map_block;
  same = λ so. ap (λ d. without_block d h) (unless_corrupt.same so);
}

pub drifts_put_all : (honest : Bool) (puts : List Member) (a b : Document) → SameUnlessCorrupt honest a b → SameUnlessCorrupt honest (put_all puts a) (put_all puts b)
drifts_put_all honest [] a b unless_corrupt = unless_corrupt
drifts_put_all honest (p ∷ puts) a b unless_corrupt =
    let block = imaged_block p.block in
    drifts_put_all honest puts (with_block a p.handle.0 block) (with_block b p.handle.0 block) (drifts_with honest a b p.handle.0 block block unless_corrupt refl refl (λ so. refl))

pub drifts_remove_all : (honest : Bool) (handles : List VmHandle) (a b : Document) → SameUnlessCorrupt honest a b → SameUnlessCorrupt honest (remove_all handles a) (remove_all handles b)
drifts_remove_all honest [] a b unless_corrupt = unless_corrupt
drifts_remove_all honest (h ∷ handles) a b unless_corrupt = drifts_remove_all honest handles (without_block a h.0) (without_block b h.0) (drifts_without honest a b h.0 unless_corrupt)

-- Blocks that come in.

pub length-with_places : (version : ℕ) (puts : List Member) (extents : List Extent) (places : List (Option Place)) → length (with_places version puts extents places) ≡ length places
length-with_places version [] extents places = refl
length-with_places version (p ∷ puts) [] places = refl
length-with_places version (p ∷ puts) (e ∷ extents) places = length-with_places version puts extents (set places (p.handle.0 - 1) (Some (placed_at version p e))) ∙ length-set places (p.handle.0 - 1) (Some (placed_at version p e))

pub each_with : (version : ℕ) (P : Place → Type 0) (puts : List Member) (extents : List Extent) (places : List (Option Place)) → ((k : ℕ) (p : Member) (e : Extent) → k < length puts → P (placed_at version (get_or puts k p) (get_or extents k e))) → EachPlace P places → EachPlace P (with_places version puts extents places)
each_with version P [] extents places new each = each
each_with version P (p ∷ puts) [] places new each = each
each_with version P (p ∷ puts) (e ∷ extents) places new each =
    each_with version P puts extents (set places (p.handle.0 - 1) (Some (placed_at version p e))) (λ k q x low. new (suc k) q x (omega arith)) (each_set P places (p.handle.0 - 1) (Some (placed_at version p e)) (new 0 p e (omega arith)) each)

pub full_with : (version : ℕ) (puts : List Member) (extents : List Extent) (places : List (Option Place)) (k : ℕ) → is_some (slot_at places k) ≡ true → is_some (slot_at (with_places version puts extents places) k) ≡ true
full_with version [] extents places k full = full
full_with version (p ∷ puts) [] places k full = full
full_with version (p ∷ puts) (e ∷ extents) places k full = full_with version puts extents (set places (p.handle.0 - 1) (Some (placed_at version p e))) k (full_set places (p.handle.0 - 1) k (placed_at version p e) full)

pub filled_drifts : (version : ℕ) (honest : Bool) (file : List ℕ) (puts : List Member) (extents : List Extent) (places : List (Option Place)) (map_block : ℕ) → All (λ p. p.handle.0 ≤ length places) puts → All IsPut puts → length extents ≡ length puts
    → ((k : ℕ) (p : Member) (e : Extent) → k < length puts → IsTrue honest → bytes_in file (get_or extents k e) ≡ image (get_or puts k p).block.image)
    → SameUnlessCorrupt honest (put_all puts (shown file places map_block)) (shown file (with_places version puts extents places) map_block)
filled_drifts version honest file [] extents places map_block room are long images = SameUnlessCorrupt-refl honest (shown file places map_block)
filled_drifts version honest file (p ∷ puts) [] places map_block room are long images = absurd (omega arith)
filled_drifts version honest file (p ∷ puts) (e ∷ extents) places map_block room are long images =
    let put : IsPut p = are 0 p (omega arith) in
    let bounds = handle_within p.handle.0 put in
    let h = p.handle.0 in
    let last : h ≤ length places = room 0 p (omega arith) in
    let one = placed_at version p e in
    let block = imaged_block p.block in
    let body = p.block.image in
    let d = shown file places map_block in
    let next = set places (h - 1) (Some one) in
    let made : shown file next map_block ≡ with_block d h (block_in file one) = shown_put file places map_block h one bounds.0 (omega (arith, bounds.0, last)) in
    let there : IsTrue honest → block_in file one ≡ block = λ so.
    ap (λ b. record { attributes = p.block.attributes; body = of_kind one.is_heap b }) (ap body_read (images 0 p e (omega arith) so) ∙ body_read-body body p.block.valid)
    ∙ ap (λ b. record { attributes = p.block.attributes; body = b }) (of_kind-same one.is_heap body refl) in
    let kind_here : (b : Body) → is_heap_body (of_kind one.is_heap b) ≡ one.is_heap = of_kind-kind one.is_heap in
    let first : SameUnlessCorrupt honest (with_block d h block) (shown file next map_block) =
    subst (SameUnlessCorrupt honest (with_block d h block)) (sym made) (drifts_with honest d d h block (block_in file one) (SameUnlessCorrupt-refl honest d) refl (kind_here (body_read (bytes_in file e))) there) in
    SameUnlessCorrupt-trans honest _ _ _ (drifts_put_all honest puts (with_block d h block) (shown file next map_block) first)
    (filled_drifts version honest file puts extents next map_block (λ k q low. let more = room (suc k) q (omega arith) in let same = length-set places (h - 1) (Some one) in omega (arith, more, same)) (λ k q low. are (suc k) q (omega arith)) (omega (arith, long)) (λ k q x low so. images (suc k) q x (omega arith) so))

-- Blocks that go.

pub length-without_place : (h : ℕ) (places : List (Option Place)) → length (without_place h places) ≡ length places
length-without_place zero places = refl
length-without_place (suc n) places = length-set places n None

pub length-without_places : (handles : List VmHandle) (places : List (Option Place)) → length (without_places handles places) ≡ length places
length-without_places [] places = refl
length-without_places (h ∷ handles) places = length-without_places handles (without_place h.0 places) ∙ length-without_place h.0 places

each_without_one : (P : Place → Type 0) (h : ℕ) (places : List (Option Place)) → EachPlace P places → EachPlace P (without_place h places)
each_without_one P zero places each = each
each_without_one P (suc n) places each = each_set P places n None tt each

pub each_without : (P : Place → Type 0) (handles : List VmHandle) (places : List (Option Place)) → EachPlace P places → EachPlace P (without_places handles places)
each_without P [] places each = each
each_without P (h ∷ handles) places each = each_without P handles (without_place h.0 places) (each_without_one P h.0 places each)

full_without_one : (h : ℕ) (places : List (Option Place)) (k : ℕ) → h ≢ k + 1 → is_some (slot_at places k) ≡ true → is_some (slot_at (without_place h places) k) ≡ true
full_without_one zero places k other full = full
full_without_one (suc n) places k other full = ap is_some (get_or-set_other places n k None None (λ same. other (omega (arith, same)))) ∙ full

pub full_without : (handles : List VmHandle) (places : List (Option Place)) (k : ℕ) → All (λ h. h.0 ≢ k + 1) handles → is_some (slot_at places k) ≡ true → is_some (slot_at (without_places handles places) k) ≡ true
full_without [] places k other full = full
full_without (h ∷ handles) places k other full = full_without handles (without_place h.0 places) k (λ i d low. other (suc i) d (omega arith)) (full_without_one h.0 places k (other 0 h (omega arith)) full)

-- a key that isn't there
absent : {X : Type 0} (m : FinMap nat_cmp X) (k : ℕ) → get m k ≡ None → remove m k ≡ m
absent m k none = same_map nat_cmp_total nat_cmp-IsAntisymmetric _ _ (λ q.
    get-remove nat_cmp_total m k q ∙ ap (λ t. cond t None (get m q)) (unsigned_tied q k)
    ∙ elim (cases_Bool (q == k)) as (λ _. cond (q == k) None (get m q) ≡ get m q) [
      | inl same ↦ cond-true (q == k) None (get m q) same ∙ sym (ap (get m) (eqb-true q k same) ∙ none)
      | inr other ↦ cond-false (q == k) None (get m q) other
    ])

shown_without : (file : List ℕ) (h : ℕ) (places : List (Option Place)) (map_block : ℕ) → shown file (without_place h places) map_block ≡ without_block (shown file places map_block) h
shown_without file zero places map_block = ap (λ bs. record { blocks = bs; map_block = map_block }) (sym (absent (shown file places map_block).blocks 0 (get_none file places map_block)))
shown_without file (suc n) places map_block = elim (cases_lt n (length places)) as (λ _. shown file (set places n None) map_block ≡ without_block (shown file places map_block) (suc n)) [
  | inl within ↦
      let same : suc n - 1 ≡ n = omega arith in
      ap (λ i. shown file (set places i None) map_block) (sym same) ∙ shown_removed file places map_block (suc n) (omega arith) (omega (arith, within))
  | inr past ↦
      let gone : get (shown file places map_block).blocks (suc n) ≡ None = get_at file places map_block (suc n) (omega arith) ∙ ap (λ o. option_map (block_in file) o) (slot_at_past places (suc n - 1) (omega (arith, past))) in
      ap (λ ps. shown file ps map_block) (set_past places n None past) ∙ ap (λ bs. record { blocks = bs; map_block = map_block }) (sym (absent (shown file places map_block).blocks (suc n) gone))
]

pub shown_without_all : (file : List ℕ) (handles : List VmHandle) (places : List (Option Place)) (map_block : ℕ) → shown file (without_places handles places) map_block ≡ remove_all handles (shown file places map_block)
shown_without_all file [] places map_block = refl
shown_without_all file (h ∷ handles) places map_block = shown_without_all file handles (without_place h.0 places) map_block ∙ ap (remove_all handles) (shown_without file h.0 places map_block)

-- Tables with places of no block behind the others: the same documents.

-- The places behind.

none_extents : (n : ℕ) → block_extents (replicate n None) ≡ []
none_extents zero = refl
none_extents (suc n) = none_extents n

none_listed : (file : List ℕ) (h n : ℕ) → table_entries 1 h (blocks_in file (replicate n None)) ≡ []
none_listed file h zero = refl
none_listed file h (suc n) = none_listed file (h + 1) n

none_there : (n k : ℕ) → slot_at {X = Place} (replicate n None) k ≡ None
none_there zero k = refl
none_there (suc n) zero = refl
none_there (suc n) (suc k) = none_there n k

-- What stays.

more_extents : (places : List (Option Place)) (n : ℕ) → block_extents (places ++ replicate n None) ≡ block_extents places
more_extents [] n = none_extents n
more_extents (None ∷ places) n = more_extents places n
more_extents (Some place ∷ places) n = ap (λ (es : List Extent). place.extent ∷ es) (more_extents places n)

more_listed : (file : List ℕ) (h : ℕ) (places : List (Option Place)) (n : ℕ) → table_entries 1 h (blocks_in file (places ++ replicate n None)) ≡ table_entries 1 h (blocks_in file places)
more_listed file h [] n = none_listed file h n
more_listed file h (None ∷ places) n = more_listed file (h + 1) places n
more_listed file h (Some place ∷ places) n = ap (λ es. table_entries 1 h (blocks_in file (Some place ∷ [])) ++ es) (more_listed file (h + 1) places n)

more_there : (places : List (Option Place)) (n k : ℕ) → slot_at (places ++ replicate n None) k ≡ slot_at places k
more_there [] n k = none_there n k
more_there (o ∷ places) n zero = refl
more_there (o ∷ places) n (suc k) = more_there places n k

more_each : (P : Place → Type 0) (places : List (Option Place)) (n : ℕ) → EachPlace P places → EachPlace P (places ++ replicate n None)
more_each P [] zero each k d inside = absurd (omega arith)
more_each P [] (suc n) each zero d inside = tt
more_each P [] (suc n) each (suc k) d inside = more_each P [] n each k d (omega (arith, inside))
more_each P (o ∷ places) n each zero d inside = each 0 d (omega arith)
more_each P (o ∷ places) n each (suc k) d inside = more_each P places n (λ i x low. each (suc i) x (omega (arith, low))) k d (omega (arith, inside))

module _ (old new : List (Option Place)) (grown : IsGrown old new) where
  pub grown_extents : block_extents new ≡ block_extents old
  grown_extents = ap block_extents grown.is ∙ more_extents old grown.count

  pub grown_there : (k : ℕ) → slot_at new k ≡ slot_at old k
  grown_there k = ap (λ ps. slot_at ps k) grown.is ∙ more_there old grown.count k

  pub grown_each : (P : Place → Type 0) → EachPlace P old → EachPlace P new
  grown_each P each = subst (EachPlace P) (sym grown.is) (more_each P old grown.count each)

  pub grown_longer : length old ≤ length new
  grown_longer = let long = ap length grown.is ∙ length-append old (replicate grown.count None) in omega (arith, long)

  pub grown_shown : (file : List ℕ) (map_block : ℕ) → shown file new map_block ≡ shown file old map_block
  unfolding table_map
  grown_shown file map_block = ap (λ es. record { blocks = from_entries es; map_block = map_block }) (ap (λ ps. table_entries 1 1 (blocks_in file ps)) grown.is ∙ more_listed file 1 old grown.count)

  pub grown_bounds : (bounds : Bounds) → AreBounds old bounds → AreBounds new bounds
  grown_bounds bounds are = record {
    full = λ k low. ap is_some (grown_there k) ∙ are.full k low;
    past = λ k low. ap is_some (grown_there k) ∙ are.past k low;
    within = (let longer = grown_longer in let within = are.within in omega (arith, longer, within));
  }

-- with the same map block
pub grown_table : (live new : BlockTable) → IsGrown live.places.items new.places.items → length new.places.items ≤ most_blocks → new.map_block ≡ live.map_block → IsBlockTable live → IsBlockTable new
grown_table live new grown few same is = record {
  size = few;
  places = grown_each live.places.items new.places.items grown IsPlace is.places;
  map_block = elim is.map_block as (λ _. (new.map_block ≡ 0) ⊎ ((1 ≤ new.map_block) × (is_some (slot_at new.places.items (new.map_block - 1)) ≡ true))) [
    | inl none ↦ inl (same ∙ none)
    | inr some ↦ inr (
      (let low = some.0 in omega (arith, same, low)),
      ap is_some (grown_there live.places.items new.places.items grown (new.map_block - 1)) ∙ ap (λ (m : ℕ). is_some (slot_at live.places.items (m - 1))) same ∙ some.1,
    )
  ];
}

pub grown_sound : (store : StoreFacts) (live new : BlockTable) (slots : Slots) → IsGrown live.places.items new.places.items → length new.places.items ≤ most_blocks → new.map_block ≡ live.map_block → IsSound store live slots → IsSound store new slots
grown_sound store live new slots grown few same sound =
    let extents = grown_extents live.places.items new.places.items grown in
    sound_live store live new slots sound (grown_table live new grown few same sound.formed.table) (subst (All IsPlaced) (sym extents) sound.formed.placed)
    (λ so. (grown_each live.places.items new.places.items grown (IsImaged store.content) (sound.whole so).images, grown_each live.places.items new.places.items grown (IsSummed (has_sums slots.next_version) store.content) (sound.whole so).sums))
    (λ so. subst (All (EndsIn store.content)) (sym extents) (sound.whole so).within)

pub grown_document : (file : List ℕ) (live new : BlockTable) → IsGrown live.places.items new.places.items → new.map_block ≡ live.map_block → document_in file new ≡ document_in file live
grown_document file live new grown same = ap (shown file new.places.items) same ∙ grown_shown live.places.items new.places.items grown file live.map_block

-- where it is made as long as this
pub roomy_sound : (store : StoreFacts) (live new : BlockTable) (slots : Slots) (end : ℕ) → IsGrown live.places.items new.places.items → length new.places.items ≡ max (length live.places.items) end → end ≤ most_blocks → new.map_block ≡ live.map_block
    → IsSound store live slots → IsSound store new slots
roomy_sound store live new slots end grown size few same sound =
    let was = sound.formed.table.size in
    grown_sound store live new slots grown (omega (arith, size, few, was)) same sound

-- callers see no difference
pub grown_view : {S : Type 0} (facts : S → StoreFacts) (store : S) (live new : BlockTable) (slots : Slots) (state : FileState S) → IsGrown live.places.items new.places.items → new.map_block ≡ live.map_block
    → record { disk = disk_of facts store slots; document = document_in (facts store).content live } ≡ state → record { disk = disk_of facts store slots; document = document_in (facts store).content new } ≡ state
grown_view {S} facts store live new slots state grown same is =
    let made : Document → FileState S = λ d. record { disk = disk_of facts store slots; document = d } in
    ap made (grown_document (facts store).content live new grown same) ∙ is
