-- The script that is written of what a directory has.
use Rattle.std.proofs.Common.{◌≡◌, ℕ, Bool, true, false, List, ◌++◌, Option, None, Some, is_some, refl, sym, ap, ap₂, subst, ◌∙◌, inl, inr}
use Rattle.std.proofs.KnownBytes.{Appends-trans}
use Rattle.std.specs.FinMap.{from_entries}
use Rattle.std.specs.Io.KnownBytes.{Appends}
use Rattle.std.specs.Option.{option_and_then, option_map}
use Rattle.vm_store.specs.Facts.{StoreFacts}
use Rattle.geos_model.specs.Document.{Document}
use Rattle.file_format.specs.File.{blocks_of_entries}
use Rattle.geos_model.specs.Words.{word_at}
use Rattle.file_format.specs.declared.file.Entry.{Entry}
use Rattle.file_format.specs.Reading.{OnlyReadsStore}
use Rattle.file_format.proofs.LooksLemmas.{raised_later, still}
use Rattle.document_dump.specs.Dumps.{saved_text}
use Rattle.document_dump.specs.Entries.{HasBlocks, IsListedAs}
use Rattle.document_dump.specs.Faults.{IsDumpRefusal}
use Rattle.document_dump.specs.declared.fault.DumpFault.{DumpFault}
use Rattle.document_dump.specs.declared.fault.DumpFault.TheVariants as faults
use Rattle.file_salvage.specs.Entries.{all_notes, damages, taken_entries}
use Rattle.file_salvage.specs.Places.{salvaged_place}
use Rattle.file_salvage.specs.Salvaged.{IsNoteFault, IsSalvage, directory_bytes_at, head_note, map_kept, map_note, map_of, notes_of, salvage_text, damages_of, salvaged_entries, script_of}
use Rattle.file_salvage.specs.declared.place.Place.{Place}
use Rattle.file_salvage.proofs.EntryLemmas.{Numbered, entries_have}

document_some : (map_block : ℕ) (o : Option (List Numbered)) → is_some o ≡ true
    → (d : Document) × (option_map (λ blocks. let made : Document = record { blocks = from_entries blocks; map_block = map_block } in made) o ≡ Some d)
document_some map_block None e = absurd (cc e)
document_some map_block (Some blocks) e = (record { blocks = from_entries blocks; map_block = map_block }, refl)

listed_document : (file : List ℕ) (map_block : ℕ) (es : List Entry) → HasBlocks file es → (d : Document) × IsListedAs file map_block es d
listed_document file map_block es has = document_some map_block (blocks_of_entries file es) has

-- the parts of a script, one after another
pub scripted : (all : Bool) (file : List ℕ) (p : Place) (from one two three to : Option (List ℕ)) → Appends from one (head_note p (directory_bytes_at file p))
    → Appends one two (all_notes all (directory_bytes_at file p) (damages_of file p))
    → Appends two three (map_note (map_of file p) (map_kept (map_of file p) (salvaged_entries all file p)))
    → ((d : Document) → IsListedAs file (map_kept (map_of file p) (salvaged_entries all file p)) (salvaged_entries all file p) d → Appends three to (saved_text d))
    → IsSalvage (script_of all file p) true from to
scripted all file p from one two three to a b c dumped =
    let head = head_note p (directory_bytes_at file p) in
    let lines = all_notes all (directory_bytes_at file p) (damages_of file p) in
    let map_line = map_note (map_of file p) (map_kept (map_of file p) (salvaged_entries all file p)) in
    let d = listed_document file (map_kept (map_of file p) (salvaged_entries all file p)) (salvaged_entries all file p) (entries_have file p.version (directory_bytes_at file p) all) in
    let before : Appends from three (notes_of all file p) = Appends-trans from two three (head ++ lines) map_line (Appends-trans from one two head lines a b) c in
    let whole : Appends from to (notes_of all file p ++ saved_text d.0) = Appends-trans from three to (notes_of all file p) (saved_text d.0) before (dumped d.0 d.1) in
    subst (λ (o : Option (List ℕ)). IsSalvage o true from to) (sym (ap (option_map (λ x. notes_of all file p ++ saved_text x)) d.1)) (refl, whole)

-- a refusal of a store that was only read before
pub refused_later : (a b c : StoreFacts) (fault : DumpFault) → OnlyReadsStore a b → IsDumpRefusal b c fault → IsDumpRefusal a c fault
refused_later a b c faults.Memory reads is = tt
refused_later a b c faults.File reads is = raised_later a b c reads is
refused_later a b c faults.Damaged reads is = λ so. is (still a b reads so)
refused_later a b c faults.Write reads is = tt

pub refused_by_note : (a b : StoreFacts) (fault : DumpFault) → IsNoteFault fault → IsDumpRefusal a b fault
refused_by_note a b fault (inl memory) = rw memory tt
refused_by_note a b fault (inr write) = rw write tt

-- the same, by what was read
pub written : (all : Bool) (file : List ℕ) (p : Place) (bytes : List ℕ) (es : List Entry) (map_block kept : ℕ) (from one two three to : Option (List ℕ)) → bytes ≡ directory_bytes_at file p
    → es ≡ taken_entries all bytes (damages file p.version bytes) → map_block ≡ word_at bytes 8 → kept ≡ map_kept map_block es → Appends from one (head_note p bytes)
    → Appends one two (all_notes all bytes (damages file p.version bytes)) → Appends two three (map_note map_block kept) → ((d : Document) → IsListedAs file kept es d → Appends three to (saved_text d))
    → IsSalvage (script_of all file p) true from to
written all file p bytes es map_block kept from one two three to bytes_is es_is map_is kept_is a b c dumped =
    let whole = salvaged_entries all file p in
    let es_are : es ≡ whole = es_is ∙ ap (λ (x : List ℕ). taken_entries all x (damages file p.version x)) bytes_is in
    let map_now : map_block ≡ map_of file p = map_is ∙ ap (λ (x : List ℕ). word_at x 8) bytes_is in
    let kept_now : kept ≡ map_kept (map_of file p) whole = kept_is ∙ ap₂ map_kept map_now es_are in
    scripted all file p from one two three to (subst (λ (x : List ℕ). Appends from one (head_note p x)) bytes_is a) (subst (λ (x : List ℕ). Appends one two (all_notes all x (damages file p.version x))) bytes_is b)
    (subst (λ (k : ℕ). Appends two three (map_note (map_of file p) k)) kept_now (subst (λ (m : ℕ). Appends two three (map_note m kept)) map_now c))
    (λ d listed. dumped d (subst (λ (e : List Entry). IsListedAs file kept e d) (sym es_are) (subst (λ (k : ℕ). IsListedAs file k whole d) (sym kept_now) listed)))

-- what is salvaged of a file, by the directory that is found

pub nothing_found : (all : Bool) (file : List ℕ) (from : Option (List ℕ)) → salvaged_place file ≡ None → IsSalvage (salvage_text all file) false from from
nothing_found all file from none = subst (λ (o : Option (List ℕ)). IsSalvage o false from from) (sym (ap (option_and_then (script_of all file)) none)) (refl, refl)

pub found_script : (all : Bool) (file : List ℕ) (p : Place) (from to : Option (List ℕ)) → salvaged_place file ≡ Some p → IsSalvage (script_of all file p) true from to → IsSalvage (salvage_text all file) true from to
found_script all file p from to some script = subst (λ (o : Option (List ℕ)). IsSalvage o true from to) (sym (ap (option_and_then (script_of all file)) some)) script
