-- Tables of places as documents, place by place.
use Rattle.std.proofs.Common.{◌≡◌, ℕ, zero, suc, ◌+◌, ◌-◌, ◌*◌, ◌<◌, ◌≤◌, Bool, true, false, IsTrue, List, [], ◌∷◌, ◌++◌, All, take, drop, set, length, Option, None, Some, is_some, refl, sym, ap, subst, ◌∙◌, arith, ◌⊎◌, inl, inr}
use Rattle.std.specs.Prelude.{IfSome, unwrap_or, nat_le}
use Rattle.std.specs.Option.{option_map, option_map_or}
use Rattle.std.specs.FinMap.{get, insert, remove}
use Rattle.std.proofs.lemmas.Bool.Decides.{nat_tests}
use Rattle.std.proofs.lemmas.Bool.{and_parts, leb-true}
use Rattle.std.proofs.lemmas.List.{append-nil, drop_all, take_all}
use Rattle.geos_model.specs.Document.{Block, Document, is_heap, is_heap_body, is_live, is_vm_handle, attributes_of, block_at, with_block, without_block, with_attributes, no_attributes, no_block, most_blocks, is_valid_body, IsTyped}
use Rattle.geos_model.specs.Image.{body_of, body_read}
use Rattle.file_format.specs.File.{bytes_in}
use Rattle.file_format.specs.declared.file.Extent.{Extent}
use Rattle.file_format.proofs.FileDocuments.{bytes_in-keeps}
use Rattle.geos_model.proofs.Table.{table_map}
use Rattle.geos_model.proofs.Tables.{slot_at, slot_at_within, get-table_map_at, get-table_map_below, table_map-set, table_map-clear}
use Rattle.geos_model.specs.declared.block.Attributes.{Attributes}
use Rattle.document_file.specs.Ranges.{end_of, KeepsAll}
use Rattle.document_file.specs.Slots.{block_extents}
use Rattle.document_file.specs.Documents.{block_in, blocks_in, of_kind, IsImaged, AreImaged, document_in}
use Rattle.document_file.proofs.ImageLemmas.{of_kind-kind, of_kind-same}
use Rattle.document_file.specs.Listing.{IsPlaceOf}
use Rattle.document_file.specs.Disk.{SameUnlessCorrupt, IsFileDocument}
use Rattle.document_file.specs.Sums.{AreSummed, IsSummed, sum_for}
use Rattle.document_file.specs.declared.table.Place.{Place}
use Rattle.file_format.proofs.Files.{body_of-some}
use Rattle.document_file.specs.Sound.{IsPlace, IsBlockTable}
use Rattle.document_file.specs.declared.table.BlockTable.{BlockTable}

-- the document of places, with a map block
abbrev pub shown : List ℕ → List (Option Place) → ℕ → Document
shown file places map_block = record { blocks = table_map 1 1 (blocks_in file places); map_block = map_block }

-- each place that there is
abbrev pub EachPlace : (Place → Type 0) → List (Option Place) → Type 0
EachPlace P places = All (λ place. IfSome place P) places

pub length-blocks_in : (file : List ℕ) (places : List (Option Place)) → length (blocks_in file places) ≡ length places
length-blocks_in file [] = refl
length-blocks_in file (o ∷ os) = ap suc (length-blocks_in file os)

slot_at-blocks_in : (file : List ℕ) (places : List (Option Place)) (i : ℕ) → slot_at (blocks_in file places) i ≡ option_map (block_in file) (slot_at places i)
slot_at-blocks_in file [] i = refl
slot_at-blocks_in file (o ∷ os) zero = refl
slot_at-blocks_in file (o ∷ os) (suc i) = slot_at-blocks_in file os i

blocks_in-set : (file : List ℕ) (places : List (Option Place)) (i : ℕ) (o : Option Place) → blocks_in file (set places i o) ≡ set (blocks_in file places) i (option_map (block_in file) o)
blocks_in-set file [] i o = refl
blocks_in-set file (x ∷ xs) zero o = refl
blocks_in-set file (x ∷ xs) (suc i) o = ap (λ t. option_map (block_in file) x ∷ t) (blocks_in-set file xs i o)

up : 0 < 1
up = omega arith

pub handle_in : (h : ℕ) → 1 ≤ h → h ≤ most_blocks → is_vm_handle h ≡ true
handle_in h low high = grind (arith, nat_tests)

pub handle_within : (h : ℕ) → is_vm_handle h ≡ true → (1 ≤ h) × (h ≤ most_blocks)
handle_within h is = let parts = and_parts (nat_le 1 h) (nat_le h most_blocks) is in (leb-true 1 h parts.0, leb-true h most_blocks parts.1)

-- What is under a handle of the document is in the place before.
module _ (file : List ℕ) (places : List (Option Place)) (map_block : ℕ) where
  pub get_none : get (shown file places map_block).blocks 0 ≡ None
  get_none = get-table_map_below up 1 (blocks_in file places) 0 (omega arith)

  pub get_at : (h : ℕ) → 1 ≤ h → get (shown file places map_block).blocks h ≡ option_map (block_in file) (slot_at places (h - 1))
  get_at h low = get-table_map_at up 1 (blocks_in file places) (h - 1) h (omega arith) ∙ slot_at-blocks_in file places (h - 1)

  pub shown_put : (h : ℕ) (place : Place) → 1 ≤ h → h - 1 < length places → shown file (set places (h - 1) (Some place)) map_block ≡ with_block (shown file places map_block) h (block_in file place)
  shown_put h place low within =
      let at : 1 + 1 * (h - 1) ≡ h = omega arith in
      ap (λ (t : List (Option Block)). record { blocks = table_map 1 1 t; map_block = map_block }) (blocks_in-set file places (h - 1) (Some place))
      ∙ ap (λ m. record { blocks = m; map_block = map_block }) (table_map-set up 1 (blocks_in file places) (h - 1) (block_in file place) (omega (arith, length-blocks_in file places)) ∙ ap (λ (k : ℕ). insert (table_map 1 1 (blocks_in file places)) k (block_in file place)) at)

  pub shown_removed : (h : ℕ) → 1 ≤ h → h - 1 < length places → shown file (set places (h - 1) None) map_block ≡ without_block (shown file places map_block) h
  shown_removed h low within =
      let at : 1 + 1 * (h - 1) ≡ h = omega arith in
      ap (λ (t : List (Option Block)). record { blocks = table_map 1 1 t; map_block = map_block }) (blocks_in-set file places (h - 1) None)
      ∙ ap (λ m. record { blocks = m; map_block = map_block }) (table_map-clear up 1 (blocks_in file places) (h - 1) (omega (arith, length-blocks_in file places)) ∙ ap (remove (table_map 1 1 (blocks_in file places))) at)

is_some-map : {A B : Type 0} (f : A → B) (o : Option A) → is_some (option_map f o) ≡ is_some o
is_some-map f None = refl
is_some-map f (Some x) = refl

attributes-map : (file : List ℕ) (o : Option Place) → option_map_or (λ (b : Block). b.attributes) (option_map (block_in file) o) no_attributes ≡ option_map_or (λ (p : Place). p.attributes) o no_attributes
attributes-map file None = refl
attributes-map file (Some x) = refl

kind-map : (file : List ℕ) (o : Option Place) → option_map_or (λ (b : Block). is_heap_body b.body) (option_map (block_in file) o) false ≡ option_map_or (λ (p : Place). p.is_heap) o false
kind-map file None = refl
kind-map file (Some x) = of_kind-kind x.is_heap (body_read (bytes_in file x.extent))

-- whether a block is live, its user ID and its kind, whatever the bytes
pub live_is : (file : List ℕ) (places : List (Option Place)) (map_block h : ℕ) → 1 ≤ h → is_live (shown file places map_block) h ≡ is_some (slot_at places (h - 1))
live_is file places map_block h low = ap is_some (get_at file places map_block h low) ∙ is_some-map (block_in file) (slot_at places (h - 1))

pub not_live : (file : List ℕ) (places : List (Option Place)) (map_block : ℕ) → is_live (shown file places map_block) 0 ≡ false
not_live file places map_block = ap is_some (get_none file places map_block)

pub attributes_is : (file : List ℕ) (places : List (Option Place)) (map_block h : ℕ) → 1 ≤ h → attributes_of (shown file places map_block) h ≡ option_map_or (λ (p : Place). p.attributes) (slot_at places (h - 1)) no_attributes
attributes_is file places map_block h low = ap (λ o. option_map_or (λ (b : Block). b.attributes) o no_attributes) (get_at file places map_block h low) ∙ attributes-map file (slot_at places (h - 1))

pub heap_is : (file : List ℕ) (places : List (Option Place)) (map_block h : ℕ) → 1 ≤ h → is_heap (shown file places map_block) h ≡ option_map_or (λ (p : Place). p.is_heap) (slot_at places (h - 1)) false
heap_is file places map_block h low = ap (λ o. option_map_or (λ (b : Block). is_heap_body b.body) o false) (get_at file places map_block h low) ∙ kind-map file (slot_at places (h - 1))

pub block_is : (file : List ℕ) (places : List (Option Place)) (map_block h : ℕ) (place : Place) → 1 ≤ h → slot_at places (h - 1) ≡ Some place → get (shown file places map_block).blocks h ≡ Some (block_in file place)
block_is file places map_block h place low at = get_at file places map_block h low ∙ ap (option_map (block_in file)) at

-- a block that is live has a place
pub record Lies (places : List (Option Place)) (h : ℕ) : Type 0 where
  pub place : Place
  pub low : 1 ≤ h
  pub within : h - 1 < length places
  pub at : slot_at places (h - 1) ≡ Some place

lies_by : (places : List (Option Place)) (h : ℕ) → 1 ≤ h → (o : Option Place) → slot_at places (h - 1) ≡ o → is_some o ≡ true → Lies places h
lies_by places h low None is some = absurd (cc some)
lies_by places h low (Some place) is some = record { place = place; low = low; within = slot_at_within places (h - 1) (ap is_some is); at = is }

pub lies : (file : List ℕ) (places : List (Option Place)) (map_block h : ℕ) → is_live (shown file places map_block) h ≡ true → Lies places h
lies file places map_block zero live = absurd (cc (sym (not_live file places map_block) ∙ live))
lies file places map_block (suc n) live =
    let low : 1 ≤ suc n = omega arith in
    lies_by places (suc n) low (slot_at places (suc n - 1)) refl (sym (live_is file places map_block (suc n) low) ∙ live)

-- Over other bytes.

drifts_live : (file c : List ℕ) (places : List (Option Place)) (map_block h : ℕ) → is_live (shown c places map_block) h ≡ is_live (shown file places map_block) h
drifts_live file c places map_block zero = not_live c places map_block ∙ sym (not_live file places map_block)
drifts_live file c places map_block (suc n) = live_is c places map_block (suc n) (omega arith) ∙ sym (live_is file places map_block (suc n) (omega arith))

drifts_attributes : (file c : List ℕ) (places : List (Option Place)) (map_block h : ℕ) → attributes_of (shown c places map_block) h ≡ attributes_of (shown file places map_block) h
drifts_attributes file c places map_block zero = ap (λ o. option_map_or (λ (b : Block). b.attributes) o no_attributes) (get_none c places map_block ∙ sym (get_none file places map_block))
drifts_attributes file c places map_block (suc n) = attributes_is c places map_block (suc n) (omega arith) ∙ sym (attributes_is file places map_block (suc n) (omega arith))

drifts_kinds : (file c : List ℕ) (places : List (Option Place)) (map_block h : ℕ) → is_heap (shown c places map_block) h ≡ is_heap (shown file places map_block) h
drifts_kinds file c places map_block zero = ap (λ o. option_map_or (λ (b : Block). is_heap_body b.body) o false) (get_none c places map_block ∙ sym (get_none file places map_block))
drifts_kinds file c places map_block (suc n) = heap_is c places map_block (suc n) (omega arith) ∙ sym (heap_is file places map_block (suc n) (omega arith))

pub places_drift : (honest : Bool) (file c : List ℕ) (places : List (Option Place)) (map_block : ℕ) → (IsTrue honest → blocks_in c places ≡ blocks_in file places) → SameUnlessCorrupt honest (shown file places map_block) (shown c places map_block)
places_drift honest file c places map_block same = record {
  live = λ h. drifts_live file c places map_block h;
  attributes = λ h. drifts_attributes file c places map_block h;
  kinds = λ h. drifts_kinds file c places map_block h;
  map_block = refl;
  same = λ so. ap (λ (t : List (Option Block)). record { blocks = table_map 1 1 t; map_block = map_block }) (same so);
}

-- the blocks of places, where the bytes of their extents are the same
pub blocks_same : (file c : List ℕ) (places : List (Option Place)) → All (λ e. end_of e ≤ length file) (block_extents places) → KeepsAll (block_extents places) file c → blocks_in c places ≡ blocks_in file places
blocks_same file c [] within keeps = refl
blocks_same file c (None ∷ places) within keeps = ap (λ (t : List (Option Block)). None ∷ t) (blocks_same file c places within keeps)
blocks_same file c (Some place ∷ places) within keeps =
    let here : block_in c place ≡ block_in file place = ap (λ bytes. record { attributes = place.attributes; body = of_kind place.is_heap (body_read bytes) }) (bytes_in-keeps file c place.extent (keeps 0 place.extent (omega arith)) (within 0 place.extent (omega arith))) in
    let more = blocks_same file c places (λ i x inside. within (suc i) x (omega arith)) (λ i x inside. keeps (suc i) x (omega arith)) in
    ap (λ (b : Block). Some b ∷ blocks_in c places) here ∙ ap (λ (t : List (Option Block)). Some (block_in file place) ∷ t) more

-- so they are images where they were
pub imaged_same : (file c : List ℕ) (place : Place) → bytes_in c place.extent ≡ bytes_in file place.extent → IsImaged file place → IsImaged c place
imaged_same file c place same was = record {
  image = subst (λ bytes. body_of bytes ≡ Some (body_read bytes)) (sym same) was.image;
  kind = was.kind ∙ ap (λ bytes. is_heap_body (body_read bytes)) (sym same);
}

pub images_same : (file c : List ℕ) (places : List (Option Place)) → All (λ e. end_of e ≤ length file) (block_extents places) → KeepsAll (block_extents places) file c → AreImaged file places → AreImaged c places
images_same file c [] within keeps are k d inside = absurd (omega arith)
images_same file c (None ∷ places) within keeps are zero d inside = tt
images_same file c (None ∷ places) within keeps are (suc k) d inside = images_same file c places within keeps (λ i x low. are (suc i) x (omega arith)) k d (omega arith)
images_same file c (Some place ∷ places) within keeps are zero d inside =
    let one : IfSome (Some place) (IsImaged file) = are 0 None (omega arith) in
    imaged_same file c place (bytes_in-keeps file c place.extent (keeps 0 place.extent (omega arith)) (within 0 place.extent (omega arith))) one
images_same file c (Some place ∷ places) within keeps are (suc k) d inside =
    images_same file c places (λ i x low. within (suc i) x (omega arith)) (λ i x low. keeps (suc i) x (omega arith)) (λ i x low. are (suc i) x (omega arith)) k d (omega arith)

-- and have the sums that they had
pub sums_same : (summed : Bool) (file c : List ℕ) (places : List (Option Place)) → All (λ e. end_of e ≤ length file) (block_extents places) → KeepsAll (block_extents places) file c → AreSummed summed file places → AreSummed summed c places
sums_same summed file c [] within keeps are k d inside = absurd (omega arith)
sums_same summed file c (None ∷ places) within keeps are zero d inside = tt
sums_same summed file c (None ∷ places) within keeps are (suc k) d inside = sums_same summed file c places within keeps (λ i x low. are (suc i) x (omega arith)) k d (omega arith)
sums_same summed file c (Some place ∷ places) within keeps are zero d inside =
    let one : IfSome (Some place) (IsSummed summed file) = are 0 None (omega arith) in
    one ∙ ap (sum_for summed) (sym (bytes_in-keeps file c place.extent (keeps 0 place.extent (omega arith)) (within 0 place.extent (omega arith))))
sums_same summed file c (Some place ∷ places) within keeps are (suc k) d inside =
    sums_same summed file c places (λ i x low. within (suc i) x (omega arith)) (λ i x low. keeps (suc i) x (omega arith)) (λ i x low. are (suc i) x (omega arith)) k d (omega arith)

-- Places and their extents.

module _ (Q : Extent → Type 0) where
  pub extents_of : (places : List (Option Place)) → EachPlace (λ p. Q p.extent) places → All Q (block_extents places)
  extents_of [] each k d inside = absurd (omega arith)
  extents_of (None ∷ places) each k d inside = extents_of places (λ i x low. each (suc i) x (omega arith)) k d inside
  extents_of (Some place ∷ places) each zero d inside = let one : IfSome (Some place) (λ p. Q p.extent) = each 0 None (omega arith) in one
  extents_of (Some place ∷ places) each (suc k) d inside = extents_of places (λ i x low. each (suc i) x (omega arith)) k d (omega arith)

  pub places_of : (places : List (Option Place)) → All Q (block_extents places) → EachPlace (λ p. Q p.extent) places
  places_of [] all k d inside = absurd (omega arith)
  places_of (None ∷ places) all zero d inside = tt
  places_of (None ∷ places) all (suc k) d inside = places_of places all k d (omega arith)
  places_of (Some place ∷ places) all zero d inside = all 0 place.extent (omega arith)
  places_of (Some place ∷ places) all (suc k) d inside = places_of places (λ i x low. all (suc i) x (omega arith)) k d (omega arith)

module _ (P : Place → Type 0) where
  pub each_at : (places : List (Option Place)) (i : ℕ) (place : Place) → slot_at places i ≡ Some place → EachPlace P places → P place
  each_at places i place at each = subst (λ o. IfSome o P) at (each i None (slot_at_within places i (ap is_some at)))

  pub each_set : (places : List (Option Place)) (i : ℕ) (o : Option Place) → IfSome o P → EachPlace P places → EachPlace P (set places i o)
  each_set [] i o new each k d inside = absurd (omega arith)
  each_set (x ∷ xs) zero o new each zero d inside = new
  each_set (x ∷ xs) zero o new each (suc k) d inside = each (suc k) d inside
  each_set (x ∷ xs) (suc i) o new each zero d inside = each 0 d (omega arith)
  each_set (x ∷ xs) (suc i) o new each (suc k) d inside = each_set xs i o new (λ j y low. each (suc j) y (omega arith)) k d (omega arith)

pub length-block_extents : (places : List (Option Place)) → length (block_extents places) ≤ length places
length-block_extents [] = omega arith
length-block_extents (None ∷ places) = omega (arith, length-block_extents places)
length-block_extents (Some place ∷ places) = omega (arith, length-block_extents places)

-- The place that a look-up gave.

pub entry_live : (file : List ℕ) (places : List (Option Place)) (map_block h : ℕ) (result : Option Place) → IsPlaceOf places h result → is_some result ≡ is_live (shown file places map_block) h
entry_live file places map_block zero result is = ap is_some (is.nothing refl) ∙ sym (not_live file places map_block)
entry_live file places map_block (suc n) result is = ap is_some (is.place (omega arith)) ∙ sym (live_is file places map_block (suc n) (omega arith))

-- what a look-up gave lies there
pub entry_lies : (places : List (Option Place)) (h : ℕ) (place : Place) → IsPlaceOf places h (Some place) → (1 ≤ h) × (slot_at places (h - 1) ≡ Some place)
entry_lies places zero place is = absurd (cc (is.nothing refl))
entry_lies places (suc n) place is = (omega arith, sym (is.place (omega arith)))

pub entry_attributes : (file : List ℕ) (places : List (Option Place)) (map_block h : ℕ) (result : Option Place) → IsPlaceOf places h result → IfSome result (λ place. place.attributes ≡ attributes_of (shown file places map_block) h)
entry_attributes file places map_block h None is = tt
entry_attributes file places map_block h (Some place) is =
    let at = entry_lies places h place is in
    sym (attributes_is file places map_block h at.0 ∙ ap (λ o. option_map_or (λ (p : Place). p.attributes) o no_attributes) at.1)

-- what holds of all places
pub entry_place : (P : Place → Type 0) (places : List (Option Place)) (h : ℕ) (result : Option Place) → EachPlace P places → IsPlaceOf places h result → IfSome result P
entry_place P places h None each is = tt
entry_place P places h (Some place) each is = each_at P places (h - 1) place (entry_lies places h place is).1 each

-- the block under a handle, by its place
pub block_at_is : (file : List ℕ) (places : List (Option Place)) (map_block h : ℕ) (place : Place) → 1 ≤ h → slot_at places (h - 1) ≡ Some place → block_at (shown file places map_block) h ≡ block_in file place
block_at_is file places map_block h place low at = ap (λ o. unwrap_or o no_block) (block_is file places map_block h place low at)

-- and its kind
pub heap_at : (file : List ℕ) (places : List (Option Place)) (map_block h : ℕ) (place : Place) → 1 ≤ h → slot_at places (h - 1) ≡ Some place → is_heap (shown file places map_block) h ≡ place.is_heap
heap_at file places map_block h place low at = heap_is file places map_block h low ∙ ap (λ o. option_map_or (λ (p : Place). p.is_heap) o false) at

pub entry_kind : (file : List ℕ) (places : List (Option Place)) (map_block h : ℕ) (result : Option Place) → IsPlaceOf places h result → IfSome result (λ place. place.is_heap ≡ is_heap (shown file places map_block) h)
entry_kind file places map_block h None is = tt
entry_kind file places map_block h (Some place) is =
    let at = entry_lies places h place is in
    sym (heap_at file places map_block h place at.0 at.1)

pub entry_handle : (places : List (Option Place)) (h : ℕ) (result : Option Place) → length places ≤ most_blocks → IsPlaceOf places h result → IfSome result (λ place. is_vm_handle h ≡ true)
entry_handle places h None size is = tt
entry_handle places h (Some place) size is =
    let at = entry_lies places h place is in
    let within = slot_at_within places (h - 1) (ap is_some at.1) in
    handle_in h at.0 (omega (arith, within, size))

-- Changes of a place.

pub shown_attributes : (file : List ℕ) (places : List (Option Place)) (map_block h : ℕ) (attributes : Attributes) (place : Place) → 1 ≤ h → slot_at places (h - 1) ≡ Some place
    → shown file (set places (h - 1) (Some (record place { attributes = attributes }))) map_block ≡ with_attributes (shown file places map_block) h attributes
shown_attributes file places map_block h attributes place low at =
    let within = slot_at_within places (h - 1) (ap is_some at) in
    let d = shown file places map_block in
    shown_put file places map_block h (record place { attributes = attributes }) low within
    ∙ sym (ap (λ o. option_map_or (λ (b : Block). with_block d h (record b { attributes = attributes })) o d) (block_is file places map_block h place low at))

-- a place that is filled stays so where another is set to one
pub full_set : (places : List (Option Place)) (i k : ℕ) (place : Place) → is_some (slot_at places k) ≡ true → is_some (slot_at (set places i (Some place)) k) ≡ true
full_set [] i k place full = full
full_set (x ∷ xs) zero zero place full = refl
full_set (x ∷ xs) zero (suc k) place full = full
full_set (x ∷ xs) (suc i) zero place full = full
full_set (x ∷ xs) (suc i) (suc k) place full = full_set xs i k place full

-- a vector with as many elements of another list
pub items_kept : {X : Type 0} (n : ℕ) (ws xs : List X) → n ≡ length xs → length ws ≡ length xs → take n (ws ++ drop (length ws) xs) ≡ ws
items_kept n ws xs is same = ap (λ l. take n (ws ++ l)) (drop_all (length ws) xs (omega arith)) ∙ ap (take n) (append-nil ws) ∙ take_all n ws (omega arith)

-- What always holds of the document of a table.

module _ (honest : Bool) (file : List ℕ) (table : BlockTable) (is : IsBlockTable table) (images : IsTrue honest → AreImaged file table.places.items) where
  listed_handle : (h : ℕ) → is_live (document_in file table) h ≡ true → is_vm_handle h ≡ true
  listed_handle h live =
      let there = lies file table.places.items table.map_block h live in
      handle_in h there.low (omega (arith, there.within, is.size, there.low))

  listed_body : IsTrue honest → (h : ℕ) → is_live (document_in file table) h ≡ true → is_valid_body (block_at (document_in file table) h).body ≡ true
  listed_body so h live =
      let there = lies file table.places.items table.map_block h live in
      let imaged = each_at (IsImaged file) table.places.items (h - 1) there.place there.at (images so) in
      let image = imaged.image in
      ap (λ b. is_valid_body b.body) (block_at_is file table.places.items table.map_block h there.place there.low there.at)
      ∙ ap is_valid_body (of_kind-same there.place.is_heap (body_read (bytes_in file there.place.extent)) imaged.kind)
      ∙ (body_of-some (bytes_in file there.place.extent) (body_read (bytes_in file there.place.extent)) image).0

  -- what is at a place is a heap, or has no type
  typed_at : (i : ℕ) (o : Option Place) → slot_at table.places.items i ≡ o → IsTyped (option_map_or (λ (p : Place). p.is_heap) o false) (option_map_or (λ (p : Place). p.attributes) o no_attributes)
  typed_at i None at raw = refl
  typed_at i (Some place) at raw = (each_at IsPlace table.places.items i place at is.places).typed raw

  listed_typed : (h : ℕ) → IsTyped (is_heap (document_in file table) h) (attributes_of (document_in file table) h)
  listed_typed zero raw = ap (λ o. (option_map_or (λ (b : Block). b.attributes) o no_attributes).heap_type) (get_none file table.places.items table.map_block)
  listed_typed (suc n) raw =
      let places = table.places.items in
      ap (λ a. a.heap_type) (attributes_is file places table.map_block (suc n) (omega arith))
      ∙ typed_at (suc n - 1) (slot_at places (suc n - 1)) refl (sym (heap_is file places table.map_block (suc n) (omega arith)) ∙ raw)

  pub listed : IsFileDocument honest (document_in file table)
  listed = record {
    handles = listed_handle;
    map_block = elim is.map_block as (λ _. (table.map_block ≡ 0) ⊎ (is_live (document_in file table) table.map_block ≡ true)) [
      | inl none ↦ inl none
      | inr one ↦ inr (live_is file table.places.items table.map_block table.map_block one.0 ∙ one.1)
    ];
    typed = listed_typed;
    bodies = listed_body;
  }
