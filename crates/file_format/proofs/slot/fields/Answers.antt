use Rattle.std.proofs.Common.{◌≡◌, ℕ, List, drop, slice_index, Option, ap, ap₂, ◌∙◌, drop-drop}
use Rattle.byteorder.specs.Endian.{little_number}
use Rattle.geos_model.specs.Words.{word_at, quad_word_at}
use Rattle.file_format.specs.File.{extent_at}
use Rattle.file_format.specs.declared.file.Extent.{Extent}
use Rattle.file_format.specs.declared.file.Slot.{Slot}
use Rattle.file_format.specs.declared.file.SlotSums.{SlotSums}
use Rattle.file_format.proofs.DirectoryLemmas.{header-read}
use Rattle.file_format.proofs.slot.fields.Goals as goal

pub returns : goal.returns
returns c =
    let bytes : List ℕ = c.args.bytes.now in
    let reserved : c.read_u16.result ≡ word_at bytes 6 = c.read_u16.ensures ∙ ap (little_number 2) (header-read bytes 6) in
    let sequence : c.read_u64.result ≡ quad_word_at bytes 8 = c.read_u64.ensures ∙ ap (little_number 8) (header-read bytes 8) in
    let extent : ℕ → List ℕ → Extent = λ page text. record { page = page; length = little_number 4 text } in
    let working : c.extent_of_text.result ≡ extent_at bytes 16 = c.extent_of_text.ensures ∙ ap (λ (text : List ℕ). extent_at text 0) (header-read bytes 16) ∙ ap (extent (little_number 4 (drop 16 bytes))) (drop-drop 4 16 bytes) in
    let saved : c.extent_of_text-2.result ≡ extent_at bytes 24 = c.extent_of_text-2.ensures ∙ ap (λ (text : List ℕ). extent_at text 0) (header-read bytes 24) ∙ ap (extent (little_number 4 (drop 24 bytes))) (drop-drop 4 24 bytes) in
    let made : ℕ → ℕ → Extent → Extent → Option SlotSums → Slot = λ r q w v t. record { gate = slice_index bytes 4; version = slice_index bytes 5; reserved = r; sequence = q; working = w; saved = v; sums = t } in
    ap₂ (λ (r q : ℕ). made r q c.extent_of_text.result c.extent_of_text-2.result c.read_sums.result) reserved sequence
    ∙ ap₂ (λ (w v : Extent). made (word_at bytes 6) (quad_word_at bytes 8) w v c.read_sums.result) working saved
    ∙ ap (made (word_at bytes 6) (quad_word_at bytes 8) (extent_at bytes 16) (extent_at bytes 24)) c.read_sums.ensures
