-- What files stand for.
use Rattle.std.proofs.Common.{◌≡◌, ℕ, List, [], ◌∷◌, ◌++◌, replicate, Option, Some, Ok, Err, refl, sym, ap, ◌∙◌}
use Rattle.checksum.specs.Crc32c as sums
use Rattle.std.specs.FinMap.{empty, from_entries}
use Rattle.std.specs.Option.{option_map, option_and_then}
use Rattle.geos_model.specs.Document.{Block, Document, empty_document}
use Rattle.geos_model.specs.Image.{image, body_read, body_of}
use Rattle.file_format.specs.File.{both, if_typed, prepended, stands}
use Rattle.geos_model.specs.declared.command.Body.{Body}
use Rattle.geos_model.specs.declared.command.Body.TheVariants.{Raw, Heap}
use Rattle.geos_model.specs.declared.fault.Fault.TheVariants.{NotDocument, Damaged}
use Rattle.geos_model.proofs.Tables.{table_map-nil}
use Rattle.geos_model.proofs.HeapTables.{trimmed-nil, image-table}
use Rattle.file_format.proofs.Files.{body_of-image}
use Rattle.geos_model.proofs.Validity.{empty-heap}

-- a directory of a version with no block
no_blocks : ℕ → List ℕ
no_blocks version = 0x47 ∷ 0x44 ∷ 0x49 ∷ 0x52 ∷ version ∷ 0 ∷ 0 ∷ 0 ∷ 0 ∷ 0 ∷ 0 ∷ 0 ∷ 0 ∷ 0 ∷ 0 ∷ 0 ∷ []

-- a created file of a version, whose directory has a version
created : ℕ → ℕ → List ℕ
created file_version version =
    (0x47 ∷ 0x56 ∷ 0x4d ∷ 0x46 ∷ 1 ∷ file_version ∷ 0 ∷ 0 ∷ 1 ∷ 0 ∷ 0 ∷ 0 ∷ 0 ∷ 0 ∷ 0 ∷ 0 ∷ 2 ∷ 0 ∷ 0 ∷ 0 ∷ 16 ∷ 0 ∷ 0 ∷ 0 ∷ 2 ∷ 0 ∷ 0 ∷ 0 ∷ 16 ∷ 0 ∷ 0 ∷ 0 ∷ [])
    ++ replicate 480 0 ++ (0x47 ∷ 0x56 ∷ 0x4d ∷ 0x46 ∷ []) ++ replicate 508 0 ++ no_blocks version

created-stands : stands (created 2 2) ≡ Ok (empty_document, empty_document)
unfolding created no_blocks
created-stands = refl

first_version-stands : stands (created 1 1) ≡ Ok (empty_document, empty_document)
unfolding created no_blocks
first_version-stands = refl

older_directory-stands : stands (created 2 1) ≡ Ok (empty_document, empty_document)
unfolding created no_blocks
older_directory-stands = refl

newer_directory-damaged : stands (created 1 2) ≡ Err Damaged
unfolding created no_blocks
newer_directory-damaged = refl

other_directory-damaged : stands (created 2 3) ≡ Err Damaged
unfolding created no_blocks
other_directory-damaged = refl

other_version-none : stands (created 4 2) ≡ Err NotDocument
unfolding created no_blocks
other_version-none = refl

-- a created file of version 3, its slot's number, and what stands behind its gate but for that, with its sums
summed : ℕ → List ℕ → List ℕ
summed number sums =
    (0x47 ∷ 0x56 ∷ 0x4d ∷ 0x46 ∷ 1 ∷ 3 ∷ 0 ∷ 0 ∷ number ∷ 0 ∷ 0 ∷ 0 ∷ 0 ∷ 0 ∷ 0 ∷ 0 ∷ 2 ∷ 0 ∷ 0 ∷ 0 ∷ 16 ∷ 0 ∷ 0 ∷ 0 ∷ 2 ∷ 0 ∷ 0 ∷ 0 ∷ 16 ∷ 0 ∷ 0 ∷ 0 ∷ [])
    ++ sums ++ replicate 468 0 ++ (0x47 ∷ 0x56 ∷ 0x4d ∷ 0x46 ∷ []) ++ replicate 508 0 ++ no_blocks 3

right_sums : List ℕ
right_sums = 0x36 ∷ 0x7d ∷ 0xe3 ∷ 0x4c ∷ 0x36 ∷ 0x7d ∷ 0xe3 ∷ 0x4c ∷ 0xbc ∷ 0x3f ∷ 0xa7 ∷ 0xa7 ∷ []

summed-stands : stands (summed 1 right_sums) ≡ Ok (empty_document, empty_document)
unfolding summed right_sums no_blocks sums.crc32c_after sums.step
summed-stands = refl

-- another number is told, as are sums that are none
number-told : stands (summed 2 right_sums) ≡ Err Damaged
unfolding summed right_sums no_blocks sums.crc32c_after sums.step
number-told = refl

zeros-told : stands (created 3 3) ≡ Err Damaged
unfolding created no_blocks sums.crc32c_after sums.step
zeros-told = refl

-- a file of a version whose updated document has the block 1, of the user ID 7, a type and an image of three bytes, as
-- its map block, and whose saved one has none
one_block : ℕ → ℕ → List ℕ → List ℕ
one_block version heap_type bytes =
    (0x47 ∷ 0x56 ∷ 0x4d ∷ 0x46 ∷ 1 ∷ version ∷ 0 ∷ 0 ∷ 5 ∷ 0 ∷ 0 ∷ 0 ∷ 0 ∷ 0 ∷ 0 ∷ 0 ∷ 2 ∷ 0 ∷ 0 ∷ 0 ∷ 32 ∷ 0 ∷ 0 ∷ 0 ∷ 3 ∷ 0 ∷ 0 ∷ 0 ∷ 16 ∷ 0 ∷ 0 ∷ 0 ∷ [])
    ++ replicate 992 0
    ++ (0x47 ∷ 0x44 ∷ 0x49 ∷ 0x52 ∷ version ∷ 0 ∷ 1 ∷ 0 ∷ 1 ∷ 0 ∷ 0 ∷ 0 ∷ 0 ∷ 0 ∷ 0 ∷ 0 ∷ 1 ∷ 0 ∷ 7 ∷ 0 ∷ 4 ∷ 0 ∷ 0 ∷ 0 ∷ 3 ∷ 0 ∷ 0 ∷ 0 ∷ heap_type ∷ 0 ∷ 0 ∷ 0 ∷ [])
    ++ replicate 480 0 ++ no_blocks version ++ replicate 496 0 ++ bytes

one_document : ℕ → Body → Document
one_document heap_type body = record { blocks = from_entries ((1, record { attributes = record { user_id = 7; heap_type = heap_type }; body = body }) ∷ []); map_block = 1 }

one_block-stands : stands (one_block 1 0 (0 ∷ 0x61 ∷ 0x62 ∷ [])) ≡ Ok (one_document 0 (Raw (0x61 ∷ 0x62 ∷ [])), empty_document)
unfolding one_block one_document no_blocks body_of body_read image
one_block-stands = refl

raw_block-stands : stands (one_block 2 0 (0 ∷ 0x61 ∷ 0x62 ∷ [])) ≡ Ok (one_document 0 (Raw (0x61 ∷ 0x62 ∷ [])), empty_document)
unfolding one_block one_document no_blocks body_of body_read image
raw_block-stands = refl

empty_heap-read : body_of (1 ∷ 0 ∷ 0 ∷ []) ≡ Some (Heap empty)
empty_heap-read =
    let written : image (Heap empty) ≡ 1 ∷ 0 ∷ 0 ∷ [] = ap (λ m. image (Heap m)) (sym (table_map-nil {X = List ℕ} 2 16)) ∙ image-table [] (trimmed-nil (List ℕ)) in
    ap body_of (sym written) ∙ body_of-image (Heap empty) empty-heap

-- the updated document, by what is read of the image
document_from : ℕ → Option Body → Option Document
document_from heap_type read =
    let numbered : Body → ℕ × Block = λ body. (1, record { attributes = record { user_id = 7; heap_type = heap_type }; body = body }) in
    option_map (λ blocks. let made : Document = record { blocks = from_entries blocks; map_block = 1 } in made) (prepended (option_map numbered (option_and_then (if_typed heap_type) read)) (Some []))

-- an empty heap with a type
heap-stands : stands (one_block 2 9 (1 ∷ 0 ∷ 0 ∷ [])) ≡ Ok (one_document 9 (Heap empty), empty_document)
unfolding one_block one_document no_blocks document_from
heap-stands = ap (λ (body : Option Body). both (document_from 9 body) (Some empty_document)) empty_heap-read

-- a raw block has no type, and in version 1 no heap has one
typed_raw-damaged : stands (one_block 2 9 (0 ∷ 0x61 ∷ 0x62 ∷ [])) ≡ Err Damaged
unfolding one_block no_blocks body_of body_read image
typed_raw-damaged = refl

typed_heap-damaged : stands (one_block 1 9 (1 ∷ 0 ∷ 0 ∷ [])) ≡ Err Damaged
unfolding one_block no_blocks
typed_heap-damaged = refl
