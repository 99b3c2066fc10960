use Rattle.std.proofs.Common.{ℕ, not, ◌≡◌, List, sym, ap, ◌∙◌, eqb-true, eq-eqb, ne_eqb}
use Rattle.byteorder.specs.Endian.{little_number}
use Rattle.file_format.proofs.DirectoryLemmas.{header-read}
use Rattle.file_format.specs.File.{entry_read}
use Rattle.geos_model.specs.Words.{word_at}
use Rattle.file_format.proofs.EntryTextLemmas.{AreBytes, entry-written_back, entry-untyped}
use Rattle.file_format.proofs.directory.is_padded.Goals as goal

pub returns-then-version-ne1 : goal.returns-then-version-ne1
returns-then-version-ne1 c =
    let bytes : List ℕ = c.args.text.now in
    let version : ℕ = c.args.version in
    let are : AreBytes bytes = (λ i. (c.type_inv.text i).fits) in
    let zeros : word_at bytes 14 ≡ 0 = sym (ap (little_number 2) (header-read bytes 14)) ∙ sym c.read_u16.ensures ∙ c.if-read_u16-eq0.true in
    let other = c.if-version-ne1.true in
    (λ _. sym (entry-written_back version bytes are c.requires (λ one. absurd (other one)) zeros), λ _. ap not (ne_eqb version 1 other))

pub returns-else-version-ne1 : goal.returns-else-version-ne1
returns-else-version-ne1 c =
    let bytes : List ℕ = c.args.text.now in
    let version : ℕ = c.args.version in
    let are : AreBytes bytes = (λ i. (c.type_inv.text i).fits) in
    let zeros : word_at bytes 14 ≡ 0 = sym (ap (little_number 2) (header-read bytes 14)) ∙ sym c.read_u16.ensures ∙ c.if-read_u16-eq0.true in
    let one : version ≡ 1 = c.if-version-ne1.false in
    let kind : ℕ = c.read_u16-else-version-ne1.result in
    let untyped : kind ≡ word_at bytes 12 = c.read_u16-else-version-ne1.ensures ∙ ap (little_number 2) (header-read bytes 12) in (
      λ none. sym (entry-written_back version bytes are c.requires (λ _. sym untyped ∙ eqb-true kind 0 none) zeros),
      λ same. eq-eqb kind 0 (untyped ∙ ap (λ (xs : List ℕ). word_at xs 12) same ∙ entry-untyped version (entry_read version bytes) one),
    )
