-- What is known of an image without its bytes, and of a raw body by its image.
use Rattle.std.proofs.Common.{◌≡◌, ℕ, ◌*◌, ◌-◌, ◌≤◌, List, [], false, length, drop, Option, None, Some, unwrap_or, refl, sym, ap, ◌∙◌, arith}
use Rattle.std.specs.Option.{option_map_or}
use Rattle.std.specs.Prelude.{IfSome, All}
use Rattle.std.specs.FinMap.{get}
use Rattle.std.proofs.lemmas.List.{length-take, length-drop}
use Rattle.geos_model.specs.Image.{image}
use Rattle.geos_model.specs.Document.{Block, block_at, bytes_of_body, is_heap, is_heap_body, no_block, raw_bytes_of}
use Rattle.geos_model.specs.declared.command.Body.TheVariants.{Raw, Heap}
use Rattle.geos_model.proofs.Tables.{slot_at}
use Rattle.file_format.specs.File.{bytes_in}
use Rattle.file_format.specs.declared.file.Extent.{Extent}
use Rattle.document_file.specs.Documents.{AreImaged}
use Rattle.document_file.specs.Listing.{IsPlaceOf}
use Rattle.document_file.specs.Ranges.{end_of}
use Rattle.document_file.specs.Slots.{block_extents}
use Rattle.document_file.specs.declared.table.Place.{Place}
use Rattle.document_file.proofs.PlaceImageLemmas.{lying_image}
use Rattle.document_file.proofs.TableLemmas.{shown, each_at, entry_lies, places_of}

-- the bytes of a raw block

raw_behind : (o : Option Block) → option_map_or (λ b. is_heap_body b.body) o false ≡ false → option_map_or (λ b. bytes_of_body b.body) o [] ≡ drop 1 (image (unwrap_or o no_block).body)
unfolding image
raw_behind None raw = refl
raw_behind (Some b) raw = elim b.body as (λ x. is_heap_body x ≡ false → bytes_of_body x ≡ drop 1 (image x)) [ Raw bytes ↦ λ _. refl | Heap m ↦ λ is. absurd (cc is) ] raw

-- they stand behind the first byte of its image
pub raw_lies : (file : List ℕ) (places : List (Option Place)) (map_block h : ℕ) (place : Place) → 1 ≤ h → slot_at places (h - 1) ≡ Some place → AreImaged file places → is_heap (shown file places map_block) h ≡ false
    → raw_bytes_of (shown file places map_block) h ≡ drop 1 (bytes_in file place.extent)
raw_lies file places map_block h place low at images raw =
    raw_behind (get (shown file places map_block).blocks h) raw ∙ ap (drop 1) (sym (lying_image file places map_block h place low at images))

-- how long an image is

bytes_length : (file : List ℕ) (e : Extent) → end_of e ≤ length file → length (bytes_in file e) ≡ e.length
bytes_length file e within =
    let at : ℕ = 512 * e.page in
    let long = length-take e.length (drop at file) in
    let rest = length-drop at file in
    omega (arith, within, long, rest)

pub entry_size : (H : Type 0) (file : List ℕ) (places : List (Option Place)) (map_block h : ℕ) (result : Option Place) → (H → AreImaged file places) → (H → All (λ e. end_of e ≤ length file) (block_extents places)) → IsPlaceOf places h result
    → IfSome result (λ place. H → length (image (block_at (shown file places map_block) h).body) ≡ place.extent.length)
entry_size H file places map_block h None images within is = tt
entry_size H file places map_block h (Some place) images within is = λ so.
    let at = entry_lies places h place is in
    ap length (sym (lying_image file places map_block h place at.0 at.1 (images so)))
    ∙ bytes_length file place.extent (each_at (λ p. end_of p.extent ≤ length file) places (h - 1) place at.1 (places_of (λ e. end_of e ≤ length file) places (within so)))
