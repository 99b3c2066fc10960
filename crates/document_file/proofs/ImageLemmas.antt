-- Bytes that are the image of a body that a document can have.
use Rattle.std.proofs.Common.{◌≡◌, ℕ, ◌+◌, ◌<◌, ◌≤◌, List, [], ◌∷◌, length, slice_index, replicate, Bool, true, false, not, ◌==◌, Some, refl, ap, sym, ◌∙◌, arith, add-one, le-leb, ◌*◌, min, ◌-◌, get_or, drop, ◌≢◌, ◌&&◌, None}
use Rattle.std.specs.Prelude.{if◌then◌else◌}
use Rattle.std.specs.FinMap.{empty}
use Rattle.geos_model.specs.Document.{is_valid_body, is_heap_body}
use Rattle.geos_model.specs.Heap.{ChunkMap, capacity}
use Rattle.geos_model.specs.Image.{image, body_of, body_read}
use Rattle.geos_model.specs.declared.command.Body.{Body}
use Rattle.geos_model.specs.declared.command.Body.TheVariants.{Raw, Heap}
use Rattle.file_format.proofs.Files.{body_of-some, some_if, body_of-image}
use Rattle.geos_model.proofs.HeapTables.{image-table, trimmed-nil}
use Rattle.geos_model.proofs.Images.{body_read-body, length_image_body_le}
use Rattle.geos_model.proofs.Tables.{table_map-nil}
use Rattle.file_format.specs.File.{bytes_in, longest_image}
use Rattle.file_format.specs.declared.file.Extent.{Extent}
use Rattle.std.proofs.lemmas.List.{length-take, length-drop, get_or-take, get_or-drop}
use Rattle.vm_store.specs.Facts.{byte}
use Rattle.file_format.proofs.StoredDirectoryLemmas.{none_if}
use Rattle.document_file.specs.Images.{IsImage, IsRawImage}
use Rattle.geos_model.specs.Bytes.{same_bytes}
use Rattle.std.proofs.lemmas.Bool.{cond-true}
use Rattle.heap_images.specs.HeapImage.{IsHeapImage}
use Rattle.document_file.specs.Opened.{IsImageOf}
use Rattle.document_file.specs.Documents.{of_kind}

-- of a body
pub image_read : (body : Body) (bytes : List ℕ) → is_valid_body body ≡ true → bytes ≡ image body → body_read bytes ≡ body
image_read body bytes valid is = ap body_read is ∙ body_read-body body valid

pub image_is : (body : Body) (bytes : List ℕ) → is_valid_body body ≡ true → bytes ≡ image body → IsImage bytes
image_is body bytes valid is =
    let read = image_read body bytes valid is in
    record { image_is = ap image read ∙ sym is; valid = ap is_valid_body read ∙ valid }

-- and of bytes that are the image of one
pub some_image : (bytes : List ℕ) → body_of bytes ≡ Some (body_read bytes) → IsImage bytes
some_image bytes some = let p = body_of-some bytes (body_read bytes) some in record { image_is = p.1; valid = p.0 }

-- the image of a heap without chunks
pub image-nothing : image (Heap empty) ≡ 1 ∷ 0 ∷ 0 ∷ []
image-nothing = ap (λ m. image (Heap m)) (sym (table_map-nil {X = List ℕ} 2 16)) ∙ image-table [] (trimmed-nil (List ℕ))

-- raw bodies

pub raw_valid : (bytes : List ℕ) → length bytes ≤ capacity → is_valid_body (Raw bytes) ≡ true
raw_valid bytes small = le-leb (length bytes) capacity small

-- the image of one, for who has it
pub raw_image_is : (body bytes : List ℕ) → bytes ≡ image (Raw body) → length bytes ≤ capacity + 1 → IsRawImage bytes × (drop 1 bytes ≡ body)
unfolding image
raw_image_is body bytes is short =
    let rest : drop 1 bytes ≡ body = ap (drop 1) is in
    (record { image_is = ap (λ (b : List ℕ). 0 ∷ b) rest ∙ sym is; small = (let same = ap length rest in let long = ap length is in omega (arith, same, long, short)) }, rest)

pub image-zeros : (n : ℕ) → replicate (n + 1) 0 ≡ image (Raw (replicate n 0))
unfolding image
image-zeros n = rw add-one refl

-- the kind of an image is its first byte
kind_of : (is_raw : Bool) (raw : List ℕ) (m : ChunkMap) → not is_raw ≡ is_heap_body (if is_raw then Raw raw else Heap m)
kind_of true raw m = refl
kind_of false raw m = refl

pub kind_is : (bytes : List ℕ) → not (slice_index bytes 0 == 0) ≡ is_heap_body (body_read bytes)
unfolding body_read
kind_is bytes = kind_of (slice_index bytes 0 == 0) _ _

pub image_some : (body : Body) → 1 ≤ length (image body)
unfolding image
image_some (Raw bytes) = omega arith
image_some (Heap m) = omega arith

pub first_byte : (body : Body) → not (slice_index (image body) 0 == 0) ≡ is_heap_body body
unfolding image
first_byte (Raw bytes) = refl
first_byte (Heap m) = refl

-- an image has 1 to 65,521 bytes
pub image_length : (body : Body) → is_valid_body body ≡ true → (1 ≤ length (image body)) × (length (image body) ≤ longest_image)
image_length body valid = (image_some body, length_image_body_le body valid)

-- Which bytes are the image of a body.

-- no bytes are the image of no body
pub empty_none : (bytes : List ℕ) → length bytes ≡ 0 → body_of bytes ≡ None
unfolding body_of body_read image
empty_none [] none = refl
empty_none (x ∷ bytes) none = absurd (omega (arith, none))

-- the body that the bytes are the image of is the one that is read
pub is_read : (bytes : List ℕ) (b : Body) → body_of bytes ≡ Some b → (body_of bytes ≡ Some (body_read bytes)) × (body_read bytes ≡ b)
unfolding body_of
is_read bytes b e =
    let test = is_valid_body (body_read bytes) && same_bytes (image (body_read bytes)) bytes in
    let here = some_if test (body_read bytes) b e in
    (cond-true _ _ _ here.0, here.1)

image_of : (bytes : List ℕ) (b : Body) (is_heap : Bool) → is_valid_body b ≡ true → image b ≡ bytes → is_heap ≡ is_heap_body b → IsImageOf is_heap bytes
image_of bytes b is_heap valid is kind =
    let read = is_read bytes b (ap body_of (sym is) ∙ body_of-image b valid) in
    record { image = read.0; kind = kind ∙ sym (ap is_heap_body read.1) }

raw_bytes : (bytes : List ℕ) → 1 ≤ length bytes → slice_index bytes 0 ≡ 0 → (rest : List ℕ) × (image (Raw rest) ≡ bytes)
unfolding image
raw_bytes [] some first = absurd (omega arith)
raw_bytes (x ∷ rest) some first = (rest, ap (λ y. y ∷ rest) (sym first))

length_raw : (rest : List ℕ) → length (image (Raw rest)) ≡ length rest + 1
unfolding image
length_raw rest = omega arith

-- 0 and at most 65,520 bytes
pub raw_image : (bytes : List ℕ) → 1 ≤ length bytes → slice_index bytes 0 ≡ 0 → length bytes ≤ longest_image → IsImageOf false bytes
raw_image bytes some first short =
    let raw = raw_bytes bytes some first in
    let long = length_raw raw.0 in
    let same = ap length raw.1 in
    image_of bytes (Raw raw.0) false (le-leb (length raw.0) capacity (omega (arith, long, same, short))) raw.1 refl

-- the first byte of an extent
pub first_in : (file : List ℕ) (e : Extent) → 1 ≤ e.length → byte (bytes_in file e) 0 ≡ byte file (512 * e.page)
first_in file e some =
    let at = 512 * e.page in let same : at + 0 ≡ at = omega arith in
    get_or-take e.length (drop at file) 0 0 some ∙ get_or-drop at file 0 0 ∙ ap (λ i. get_or file i 0) same

-- so where one byte of an extent is known
pub raw_there : (file : List ℕ) (e : Extent) → 512 * e.page < length file → byte file (512 * e.page) ≡ 0 → 1 ≤ e.length → e.length ≤ longest_image → IsImageOf false (bytes_in file e)
raw_there file e within first some short =
    let long : length (bytes_in file e) ≡ min e.length (length file - 512 * e.page) = length-take e.length (drop (512 * e.page) file) ∙ ap (min e.length) (length-drop (512 * e.page) file) in
    raw_image (bytes_in file e) (omega (arith, long, within, some)) (first_in file e some ∙ first) (omega (arith, long, short))

pub long_none : (bytes : List ℕ) → longest_image < length bytes → body_of bytes ≡ None
long_none bytes long = none_if (body_of bytes) (λ b e.
    let some = body_of-some bytes b e in
    let short = length_image_body_le b some.0 in
    let same = ap length some.1 in
    omega (arith, long, short, same))

pub heap_image : (bytes : List ℕ) → IsHeapImage bytes → IsImageOf true bytes
unfolding IsHeapImage
heap_image bytes is = image_of bytes (Heap is.0) true is.1 is.2 refl

raw_first : (rest bytes : List ℕ) → image (Raw rest) ≡ bytes → slice_index bytes 0 ≡ 0
unfolding image
raw_first rest bytes is = sym (ap (λ bs. slice_index bs 0) is)

no_heap : (bytes : List ℕ) (b : Body) → slice_index bytes 0 ≢ 0 → ¬ IsHeapImage bytes → is_valid_body b ≡ true → image b ≡ bytes → ⊥
unfolding IsHeapImage
no_heap bytes (Raw rest) first refuted valid is = first (raw_first rest bytes is)
no_heap bytes (Heap m) first refuted valid is = refuted (m, valid, is)

pub heap_none : (bytes : List ℕ) → slice_index bytes 0 ≢ 0 → ¬ IsHeapImage bytes → body_of bytes ≡ None
heap_none bytes first refuted = none_if (body_of bytes) (λ b e. let some = body_of-some bytes b e in no_heap bytes b first refuted some.0 some.1)

-- Bodies of a kind.

pub of_kind-kind : (is_heap : Bool) (body : Body) → is_heap_body (of_kind is_heap body) ≡ is_heap
of_kind-kind false (Raw bytes) = refl
of_kind-kind false (Heap m) = refl
of_kind-kind true (Raw bytes) = refl
of_kind-kind true (Heap m) = refl

pub of_kind-same : (is_heap : Bool) (body : Body) → is_heap ≡ is_heap_body body → of_kind is_heap body ≡ body
of_kind-same false (Raw bytes) is = refl
of_kind-same false (Heap m) is = absurd (cc is)
of_kind-same true (Raw bytes) is = absurd (cc is)
of_kind-same true (Heap m) is = refl
