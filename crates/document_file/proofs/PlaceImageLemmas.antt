-- The images of blocks at their places.
use Rattle.std.proofs.Common.{◌≡◌, ℕ, ◌-◌, ◌≤◌, List, get_or, Option, None, Some, true, false, sym, ap, subst, ◌∙◌}
use Rattle.std.proofs.lemmas.Bool.{true≢false}
use Rattle.std.specs.Prelude.{IfSome, All}
use Rattle.geos_model.specs.Image.{image, body_read}
use Rattle.geos_model.proofs.Tables.{slot_at}
use Rattle.geos_model.specs.Document.{block_at}
use Rattle.file_format.specs.File.{bytes_in, has_sum}
use Rattle.document_file.specs.Ranges.{IsPlaced}
use Rattle.document_file.specs.Slots.{block_extents}
use Rattle.document_file.specs.Sound.{IsPlace, ArePlaces}
use Rattle.document_file.specs.Calls.{IsImageLength}
use Rattle.document_file.specs.Documents.{IsImaged, AreImaged}
use Rattle.document_file.specs.Sums.{HasSum, HasSumOf, HaveSums}
use Rattle.document_file.specs.declared.table.Place.{Place}
use Rattle.document_file.proofs.ImageLemmas.{of_kind-same, some_image}
use Rattle.document_file.specs.Listing.{IsPlaceOf}
use Rattle.document_file.proofs.TableLemmas.{EachPlace, shown, each_at, places_of, block_at_is, entry_lies}

-- The bytes of an extent.

-- the image of a block lies at its place
pub lying_image : (file : List ℕ) (places : List (Option Place)) (map_block h : ℕ) (place : Place) → 1 ≤ h → slot_at places (h - 1) ≡ Some place → AreImaged file places → bytes_in file place.extent ≡ image (block_at (shown file places map_block) h).body
lying_image file places map_block h place low at images =
    let one = each_at (IsImaged file) places (h - 1) place at images in
    sym (some_image (bytes_in file place.extent) one.image).image_is
    ∙ ap image (sym (of_kind-same place.is_heap (body_read (bytes_in file place.extent)) one.kind))
    ∙ ap (λ b. image b.body) (sym (block_at_is file places map_block h place low at))

pub entry_image : (H : Type 0) (file : List ℕ) (places : List (Option Place)) (map_block h : ℕ) (result : Option Place) → (H → AreImaged file places) → IsPlaceOf places h result
    → IfSome result (λ place. H → bytes_in file place.extent ≡ image (block_at (shown file places map_block) h).body)
entry_image H file places map_block h None images is = tt
entry_image H file places map_block h (Some place) images is = λ so. let at = entry_lies places h place is in lying_image file places map_block h place at.0 at.1 (images so)

-- a place that can be has as many bytes as an image has
place_length : (o : Option Place) → IfSome o (λ p. IsPlaced p.extent) → IfSome o IsPlace → IfSome o (λ p. IsImageLength p.extent.length)
place_length None placed is = tt
place_length (Some place) placed is = (placed.some, is.short)

pub image_lengths : (places : List (Option Place)) → All IsPlaced (block_extents places) → ArePlaces places → EachPlace (λ p. IsImageLength p.extent.length) places
image_lengths places placed are k d inside = place_length (get_or places k d) (places_of IsPlaced places placed k d inside) (are k d inside)

-- what was read of a block
pub read_image : (file bytes : List ℕ) (places : List (Option Place)) (map_block h : ℕ) (place : Place) → 1 ≤ h → slot_at places (h - 1) ≡ Some place → AreImaged file places → bytes ≡ bytes_in file place.extent → bytes ≡ image (block_at (shown file places map_block) h).body
read_image file bytes places map_block h place low at images is = is ∙ lying_image file places map_block h place low at images

-- Sums.

-- what has the sum of a place has that of its handle
pub sum_of_handle : (places : List (Option Place)) (h : ℕ) (place : Place) (bytes : List ℕ) → slot_at places (h - 1) ≡ Some place → has_sum place.sum bytes ≡ true → HasSumOf places h bytes
sum_of_handle places h place bytes at has other is =
    let same : Some place ≡ Some other = sym at ∙ is in
    let one : place ≡ other = cc same in
    subst (λ (p : Place). has_sum p.sum bytes ≡ true) one has

-- an image that lies at its place has its sum
pub lying_sum : (file : List ℕ) (places : List (Option Place)) (h : ℕ) (place : Place) → slot_at places (h - 1) ≡ Some place → HaveSums file places → has_sum place.sum (bytes_in file place.extent) ≡ false → ⊥
lying_sum file places h place at sums wrong = true≢false (sym (each_at (HasSum file) places (h - 1) place at sums) ∙ wrong)
