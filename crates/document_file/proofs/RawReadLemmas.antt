-- A raw body that is read into a region.
use Rattle.std.proofs.Common.{◌-◌, ◌∷◌, ◌<◌, ◌==◌, false, not, Option, Some, None, unwrap_or, refl, eqb-true, zero, suc, true}
use Rattle.geos_model.proofs.Tables.{slot_at}
use Rattle.geos_model.specs.Document.{Document, block_at, is_heap, is_heap_body, no_block}
use Rattle.std.specs.FinMap.{get}
use Rattle.std.specs.Option.{option_map_or}
use Rattle.file_format.specs.File.{bytes_in}
use Rattle.geos_model.specs.Image.{image}
use Rattle.geos_model.specs.declared.command.Body.{Body}
use Rattle.geos_model.specs.declared.command.Body.TheVariants.{Raw, Heap}
use Rattle.vm_store.specs.Facts.{Holds, byte}
use Rattle.document_file.specs.Documents.{AreImaged}
use Rattle.document_file.specs.Ranges.{start_of}
use Rattle.document_file.specs.declared.table.Place.{Place}
use Rattle.document_file.proofs.PlaceImageLemmas.{lying_image}
use Rattle.document_file.proofs.RangesLemmas.{bytes_held}
use Rattle.document_file.proofs.TableLemmas.{shown}
use Rattle.document_file.proofs.ImageLemmas.{first_byte, first_in}
use Rattle.std.proofs.lemmas.Bool.{not-false}
use Rattle.file_format.specs.declared.file.Extent.{Extent}
use Rattle.std.proofs.Common.{◌≡◌, ℕ, ◌+◌, ◌++◌, ◌≤◌, List, length, take, drop, sym, ap, ◌∙◌, arith, slice_range}
use Rattle.std.proofs.lemmas.List.Edits.{length-between}
use Rattle.std.proofs.lemmas.List.{take_all, append-nil, drop_all}
use Rattle.raw_region.specs.Bytes.{put}
use Rattle.raw_region.proofs.Puts.{put_is}

-- bytes that are written over all of a body
pub whole_body : (n : ℕ) (body bytes : List ℕ) → length body ≡ n → length bytes ≡ n → put body 0 (take n bytes) ≡ bytes
whole_body n body bytes long size =
    let all : take n bytes ≡ bytes = take_all n bytes (omega (arith, size)) in
    ap (put body 0) all ∙ put_is body bytes 0 (omega (arith, long, size))
    ∙ ap (λ (xs : List ℕ). bytes ++ xs) (drop_all (0 + length bytes) body (omega (arith, long, size))) ∙ append-nil bytes

-- and the bytes that are lent to be written over
pub length_lent : (n : ℕ) (body bytes : List ℕ) → length body ≡ n → bytes ≡ slice_range body 0 (0 + n) → length bytes ≡ n
length_lent n body bytes long lent = ap length lent ∙ length-between body 0 (0 + n) (omega (arith, long)) ∙ omega arith

-- What was read of a raw block.

tail_of : (xs ys : List ℕ) (x y : ℕ) → x ∷ xs ≡ y ∷ ys → xs ≡ ys
tail_of xs ys x y same = ap (drop 1) same

-- a raw body whose image is a byte and others is those others
raw_body : (body : Body) (x : ℕ) (bytes : List ℕ) → is_heap_body body ≡ false → x ∷ bytes ≡ image body → body ≡ Raw bytes
unfolding image
raw_body (Raw is) x bytes raw same = ap Raw (sym (tail_of bytes is x 0 same))
raw_body (Heap m) x bytes raw same = absurd (cc raw)

-- bytes behind one that stands before them
each_behind : (file bytes : List ℕ) (at x : ℕ) → byte file at ≡ x → Holds file (at + 1) bytes → (i : ℕ) → i < length (x ∷ bytes) → byte file (at + i) ≡ byte (x ∷ bytes) i
each_behind file bytes at x first holds zero below = let e : at + 0 ≡ at = omega arith in ap (byte file) e ∙ first
each_behind file bytes at x first holds (suc i) below = let e : at + suc i ≡ at + 1 + i = omega arith in ap (byte file) e ∙ holds.each i (omega (arith, below))

held_behind : (file bytes : List ℕ) (at x : ℕ) → byte file at ≡ x → Holds file (at + 1) bytes → Holds file at (x ∷ bytes)
held_behind file bytes at x first holds = record { within = let w = holds.within in omega (arith, w); each = each_behind file bytes at x first holds }

-- the byte before a raw body's
kind_byte : (file : List ℕ) (e : Extent) (body : Body) → 1 ≤ e.length → bytes_in file e ≡ image body → is_heap_body body ≡ false → byte file (start_of e) ≡ 0
kind_byte file e body some lies raw =
    let here : byte (bytes_in file e) 0 ≡ byte file (start_of e) = first_in file e some in
    let zero : (byte (bytes_in file e) 0 == 0) ≡ true = not-false _ (ap (λ (xs : List ℕ). not (byte xs 0 == 0)) lies ∙ first_byte body ∙ raw) in
    sym here ∙ eqb-true (byte (bytes_in file e) 0) 0 zero

-- the first byte of a raw block's image
pub raw_kind : (file : List ℕ) (places : List (Option Place)) (map_block h : ℕ) (place : Place) → 1 ≤ h → slot_at places (h - 1) ≡ Some place → AreImaged file places → is_heap_body (block_at (shown file places map_block) h).body ≡ false → 1 ≤ place.extent.length → byte file (start_of place.extent) ≡ 0
raw_kind file places map_block h place low at images raw some = kind_byte file place.extent (block_at (shown file places map_block) h).body some (lying_image file places map_block h place low at images) raw

-- what stands behind it makes the image
pub raw_image : (file body : List ℕ) (e : Extent) → length body + 1 ≡ e.length → Holds file (start_of e + 1) body → byte file (start_of e) ≡ 0 → image (Raw body) ≡ bytes_in file e
unfolding image
raw_image file body e size holds first = sym (bytes_held file (0 ∷ body) e (omega (arith, size)) (held_behind file body (start_of e) 0 first holds))

-- and the body
pub read_raw_body : (file bytes : List ℕ) (places : List (Option Place)) (map_block h : ℕ) (place : Place) → 1 ≤ h → slot_at places (h - 1) ≡ Some place → AreImaged file places → is_heap_body (block_at (shown file places map_block) h).body ≡ false
    → image (Raw bytes) ≡ bytes_in file place.extent → (block_at (shown file places map_block) h).body ≡ Raw bytes
unfolding image
read_raw_body file bytes places map_block h place low at images raw is =
    raw_body (block_at (shown file places map_block) h).body 0 bytes raw (is ∙ lying_image file places map_block h place low at images)

-- a block that isn't a heap has no heap's body
pub raw_at : (d : Document) (h : ℕ) → is_heap d h ≡ false → is_heap_body (block_at d h).body ≡ false
raw_at d h raw = elim (get d.blocks h) as (λ o. option_map_or (λ b. is_heap_body b.body) o false ≡ false → is_heap_body (unwrap_or o no_block).body ≡ false) [ None ↦ λ none. refl | Some b ↦ λ is. is ] raw
