use Rattle.std.proofs.Common.{◌≡◌, ℕ, List, Some, true, refl, sym, ap, ap₂, ◌∙◌}
use Rattle.byteorder.specs.Endian.{little_number}
use Rattle.geos_model.specs.Words.{word_at}
use Rattle.file_format.specs.File.{Directory, is_map_block}
use Rattle.file_format.specs.declared.file.Entry.{Entry}
use Rattle.file_format.specs.Listed.{version_read, HasHeader, entries_read}
use Rattle.file_format.proofs.DirectoryLemmas.{header-read, directory_in-no_header, directory_in-read}
use Rattle.file_format.proofs.directory.read_dir.Goals as goal

pub returns-then-not-has_header-clause-damaged : goal.returns-then-not-has_header-clause-damaged
returns-then-not-has_header-clause-damaged c = λ _. directory_in-no_header c.args.file_version c.args.file_length c.args.bytes.now (λ has. let taken = c.if-not-has_header.ensures.1 has in absurd (cc taken))

pub returns-clause-read : goal.returns-clause-read
returns-clause-read c =
    let bytes : List ℕ = c.args.bytes.now in
    let file_version : ℕ = c.args.file_version in
    let n : ℕ = c.args.file_length in
    let header : HasHeader file_version bytes = c.if-not-has_header.ensures.0 refl in
    let version : c.read_u16-version.result ≡ version_read bytes = c.read_u16-version.ensures ∙ ap (little_number 2) (header-read bytes 4) in
    let m : c.read_u16.result ≡ word_at bytes 8 = c.read_u16.ensures ∙ ap (little_number 2) (header-read bytes 8) in
    let es : c.in_ok-entries.entries.items ≡ entries_read bytes = c.in_ok-entries.ensures.read.0 in
    let listed : is_map_block (word_at bytes 8) (entries_read bytes) ≡ true = sym (ap₂ is_map_block m (c.deref.ensures.value ∙ es)) ∙ sym c.if-not-is_listed.ensures in
    let made : ℕ → ℕ → List Entry → Directory = λ v k l. record { version = v; map_block = k; entries = l } in
    directory_in-read file_version n bytes header c.in_ok-entries.ensures.read.1 listed
    ∙ ap (λ (v : ℕ). Some (made v (word_at bytes 8) (entries_read bytes))) (sym version)
    ∙ ap₂ (λ (k : ℕ) (l : List Entry). Some (made c.read_u16-version.result k l)) (sym m) (sym es)
