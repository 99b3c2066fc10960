-- A raw block that gets another body: a put of one block.
use Rattle.std.proofs.Common.{◌≡◌, ℕ, zero, suc, ◌-◌, ◌<◌, ◌≤◌, ◌++◌, false, true, IsTrue, List, [], ◌∷◌, All, drop, set, length, get_or, Option, Some, is_some, refl, sym, ap, subst, ◌∙◌, arith}
use Rattle.std.proofs.lemmas.List.Elements.{All-nil, All-cons}
use Rattle.vm_store.specs.Facts.{StoreFacts, Holds}
use Rattle.geos_model.specs.Document.{is_heap, is_vm_handle, attributes_of, with_block, with_body, FitAttributes, IsTyped}
use Rattle.geos_model.specs.Image.{image}
use Rattle.geos_model.specs.declared.block.Attributes.{Attributes}
use Rattle.geos_model.specs.declared.command.Body.TheVariants.{Raw}
use Rattle.geos_model.proofs.Tables.{slot_at_within}
use Rattle.file_format.specs.declared.file.Extent.{Extent}
use Rattle.document_file.specs.Calls.{IsPut, IsImageLength}
use Rattle.document_file.specs.Disk.{SameUnlessCorrupt}
use Rattle.document_file.specs.Images.{IsRawImage}
use Rattle.document_file.specs.Listing.{IsPlaceOf, AreBounds}
use Rattle.document_file.specs.Ranges.{start_of, IsPlaced, IsClear}
use Rattle.document_file.specs.Slots.{block_extents, marked_extents}
use Rattle.document_file.specs.Sound.{IsPlace, IsSound}
use Rattle.document_file.specs.Sums.{has_sums, sum_for}
use Rattle.document_file.specs.Writing.{AreFor, AreWritten, IsFor, SparesExtents, placed_at}
use Rattle.document_file.specs.declared.listing.Bounds.{Bounds}
use Rattle.document_file.specs.declared.member.Member.{Member}
use Rattle.document_file.specs.declared.slot.Slots.{Slots}
use Rattle.document_file.specs.declared.table.BlockTable.{BlockTable}
use Rattle.document_file.specs.declared.table.Place.{Place}
use Rattle.document_file.proofs.ImageLemmas.{image_length, raw_valid}
use Rattle.document_file.proofs.ListingLemmas.{bounds_set}
use Rattle.document_file.proofs.PutBlocksLemmas.{put_drifts, put_sound}
use Rattle.document_file.proofs.TableLemmas.{shown, each_at, entry_lies, entry_attributes, entry_kind, entry_handle}

-- it can be an image
pub raw_length : (bytes : List ℕ) → IsRawImage bytes → IsImageLength (length bytes)
raw_length bytes is =
    let size = image_length (Raw (drop 1 bytes)) (raw_valid (drop 1 bytes) is.small) in
    let same = ap length is.image_is in
    (omega (arith, size.0, same), omega (arith, size.1, same))

-- What is so of one image is so of a list of one.

one_size : (p : Member) (e : Extent) → e.length ≡ length (image p.block.image) → (k : ℕ) (d : Extent) (q : Member) → k < 1 → (get_or (e ∷ []) k d).length ≡ length (image (get_or (p ∷ []) k q).block.image)
one_size p e size zero d q low = size
one_size p e size (suc k) d q low = absurd (omega (arith, low))

for_one : (taken : List Extent) (p : Member) (e : Extent) → IsFor taken (image p.block.image) e → AreFor taken (p ∷ []) 1 (e ∷ [])
for_one taken p e is = record {
  count = refl;
  sizes = λ k d q low. one_size p e is.size k d q low;
  placed = All-cons IsPlaced e [] is.placed (All-nil IsPlaced);
  clear = All-cons (λ x. IsClear (start_of x) x.length taken) e [] is.clear (All-nil (λ x. IsClear (start_of x) x.length taken));
  apart = λ i k d less low. absurd (omega (arith, less, low));
}

one_written : (p : Member) (e : Extent) (file : List ℕ) → Holds file (start_of e) (image p.block.image) → AreWritten 1 (p ∷ []) (e ∷ []) file
one_written p e file holds zero d q low = holds
one_written p e file holds (suc k) d q low = absurd (omega (arith, low))

-- the block with its new body
abbrev raw_put : (h : ℕ) (bytes : List ℕ) (place : Place) → IsRawImage bytes → FitAttributes place.attributes → IsTyped false place.attributes → Member
raw_put h bytes place is fit typed = record { handle = record { 0 = h }; block = record { attributes = place.attributes; image = Raw (drop 1 bytes); fit = fit; valid = raw_valid (drop 1 bytes) is.small; typed = typed } }

-- where it lies then
abbrev pub rewritten : ℕ → Place → Extent → List ℕ → Place
rewritten version place e bytes = record place { extent = e; sum = sum_for (has_sums version) bytes }

-- its bounds stay
pub bounds_rewritten : (places now : List (Option Place)) (h : ℕ) (place new : Place) (bounds : Bounds) → IsPlaceOf places h (Some place) → now ≡ set places (h - 1) (Some new) → AreBounds places bounds → AreBounds now bounds
bounds_rewritten places now h place new bounds at is are = subst (λ ps. AreBounds ps bounds) (sym is) (bounds_set places (h - 1) new bounds (ap is_some (entry_lies places h place at).1) are)

module _ {S : Type 0} (facts : S → StoreFacts) (a b : S) (live : BlockTable) (slots : Slots) (sound : IsSound (facts a) live slots) (honest : (facts b).honest ≡ (facts a).honest)
    (now : IsTrue (facts b).honest → (facts b).may_leave (facts b).content)
    (spared : IsTrue (facts a).honest → SparesExtents (block_extents live.places.items ++ marked_extents slots.marked) slots (facts a) (facts b))
    (h : ℕ) (bytes : List ℕ) (is : IsRawImage bytes) (place : Place) (at : IsPlaceOf live.places.items h (Some place)) (fit : FitAttributes place.attributes)
    (raw : is_heap (shown (facts a).content live.places.items live.map_block) h ≡ false)
    (taken : List Extent) (e : Extent) (found : IsFor taken bytes e) (written : IsTrue (facts a).honest → Holds (facts b).content (start_of e) bytes)
    (new : BlockTable) (same : new.map_block ≡ live.map_block) (made : new.places.items ≡ set live.places.items (h - 1) (Some (rewritten slots.next_version place e bytes))) where
  kind : place.is_heap ≡ false
  kind = entry_kind (facts a).content live.places.items live.map_block h (Some place) at ∙ raw

  typed : IsTyped false place.attributes
  typed none = (each_at IsPlace live.places.items (h - 1) place (entry_lies live.places.items h place at).1 sound.formed.table.places).typed kind

  abbrev put : Member
  put = raw_put h bytes place is fit typed

  put_found : AreFor taken (put ∷ []) 1 (e ∷ [])
  put_found = for_one taken put e (subst (λ xs. IsFor taken xs e) (sym is.image_is) found)

  put_written : IsTrue (facts a).honest → AreWritten 1 (put ∷ []) (e ∷ []) (facts b).content
  put_written so = one_written put e (facts b).content (subst (λ xs. Holds (facts b).content (start_of e) xs) (sym is.image_is) (written so))

  can_be : is_vm_handle h ≡ true
  can_be = entry_handle live.places.items h (Some place) sound.formed.table.size at

  puts : All IsPut (put ∷ [])
  puts = All-cons IsPut put [] can_be (All-nil IsPut)

  room : All (λ (p : Member). p.handle.0 ≤ length live.places.items) (put ∷ [])
  room =
      let lies = entry_lies live.places.items h place at in
      let within = slot_at_within live.places.items (h - 1) (ap is_some lies.1) in
      All-cons (λ (p : Member). p.handle.0 ≤ length live.places.items) put [] (omega (arith, lies.0, within)) (All-nil (λ (p : Member). p.handle.0 ≤ length live.places.items))

  placed : rewritten slots.next_version place e bytes ≡ placed_at slots.next_version put e
  placed i = record { attributes = place.attributes; is_heap = kind i; extent = e; sum = sum_for (has_sums slots.next_version) (sym is.image_is i) }

  table : new.places.items ≡ set live.places.items (h - 1) (Some (placed_at slots.next_version put e))
  table = made ∙ ap (λ (p : Place). set live.places.items (h - 1) (Some p)) placed

  pub raw_sound : IsSound (facts b) new slots
  raw_sound = put_sound facts a b live slots sound honest now spared (put ∷ []) (e ∷ []) [] new puts taken put_found put_written same room table (All-nil _)

  pub raw_drifts : SameUnlessCorrupt (facts a).honest (with_body (shown (facts a).content live.places.items live.map_block) h (Raw (drop 1 bytes))) (shown (facts b).content new.places.items new.map_block)
  raw_drifts =
      let d = shown (facts a).content live.places.items live.map_block in
      let attributes : place.attributes ≡ attributes_of d h = entry_attributes (facts a).content live.places.items live.map_block h (Some place) at in
      subst (λ (x : Attributes). SameUnlessCorrupt (facts a).honest (with_block d h (record { attributes = x; body = Raw (drop 1 bytes) })) (shown (facts b).content new.places.items new.map_block)) attributes
      (put_drifts facts a b live slots sound honest now spared (put ∷ []) (e ∷ []) [] new puts taken put_found put_written same room table)
