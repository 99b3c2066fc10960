use Rattle.std.proofs.Common.{◌≡◌, ℕ, ◌+◌, List, ◌∷◌, [], ◌++◌, refl, ap, sym, subst, ◌∙◌, arith}
use Rattle.byteorder.specs.Endian.{little_number}
use Rattle.geos_model.specs.Words.{word_at}
use Rattle.file_format.specs.declared.file.Entry.{Entry}
use Rattle.file_format.specs.Listed.{version_read, IsNextEntry}
use Rattle.file_format.proofs.DirectoryLemmas.{AreRead, entry_at, text_at, text_between, entry_between, next_same, header-read, read-more, read-all, read-bad}
use Rattle.file_format.proofs.directory.read_entries.Goals as goal

pub loop-i-preserved : goal.loop-i-preserved
loop-i-preserved c =
    let bytes : List ℕ = c.args.bytes.now in
    let file_version : ℕ = c.args.file_version in
    let n : ℕ = c.args.file_length in
    let i : ℕ = c.loop-i.i in
    let last : ℕ = c.loop-i.last in
    let read = c.loop-i.invariant in
    let version : c.read_u16-version.result ≡ version_read bytes = c.read_u16-version.ensures ∙ ap (little_number 2) (header-read bytes 4) in
    let text = text_between c.read_u16-version.result c.entry_length.result c.entry_start-at.result bytes i version c.entry_length.ensures.value c.entry_start-at.ensures.value in
    let is : c.read_entry-entry.result ≡ entry_at bytes i = c.read_entry-entry.ensures ∙ entry_between c.read_u16-version.result _ bytes i version text in
    let next : IsNextEntry file_version n (version_read bytes) last (text_at bytes i) (entry_at bytes i) = next_same version text is (c.if-not-is_next.ensures.0 refl) in
    let more = read-more file_version n bytes i c.loop-i.entries.items last read next in
    subst (λ (es : List Entry). AreRead file_version n bytes (i + 1) es c.read_entry-entry.result.handle.0) (sym c.in_ok-push.ensures.items)
    (subst (λ (e : Entry). AreRead file_version n bytes (i + 1) (c.loop-i.entries.items ++ e ∷ []) e.handle.0) (sym is) more)

pub returns-then-not-is_next-clause-damaged : goal.returns-then-not-is_next-clause-damaged
returns-then-not-is_next-clause-damaged c = λ _.
    let bytes : List ℕ = c.args.bytes.now in
    let file_version : ℕ = c.args.file_version in
    let n : ℕ = c.args.file_length in
    let i : ℕ = c.loop-i.i in
    let last : ℕ = c.loop-i.last in
    let version : c.read_u16-version.result ≡ version_read bytes = c.read_u16-version.ensures ∙ ap (little_number 2) (header-read bytes 4) in
    let text = text_between c.read_u16-version.result c.entry_length.result c.entry_start-at.result bytes i version c.entry_length.ensures.value c.entry_start-at.ensures.value in
    let is : c.read_entry-entry.result ≡ entry_at bytes i = c.read_entry-entry.ensures ∙ entry_between c.read_u16-version.result _ bytes i version text in
    let count : c.from-count.result ≡ word_at bytes 6 = c.from-count.ensures ∙ c.read_u16.ensures ∙ ap (little_number 2) (header-read bytes 6) in
    read-bad file_version n bytes i c.loop-i.entries.items last c.loop-i.invariant (omega (arith, c.loop-i-test.true, count)) (λ next.
    let taken = c.if-not-is_next.ensures.1 (next_same (sym version) (sym text) (sym is) next) in
    absurd (cc taken))

pub returns-clause-read : goal.returns-clause-read
returns-clause-read c =
    let bytes : List ℕ = c.args.bytes.now in
    let file_version : ℕ = c.args.file_version in
    let n : ℕ = c.args.file_length in
    let count : c.from-count.result ≡ word_at bytes 6 = c.from-count.ensures ∙ c.read_u16.ensures ∙ ap (little_number 2) (header-read bytes 6) in
    let all : c.loop-i.i ≡ word_at bytes 6 = omega (arith, c.loop-i-test.false, c.loop-i.auto.i-end, count) in
    read-all file_version n bytes c.loop-i.entries.items c.loop-i.last c.requires (subst (λ i. AreRead file_version n bytes i c.loop-i.entries.items c.loop-i.last) all c.loop-i.invariant)
