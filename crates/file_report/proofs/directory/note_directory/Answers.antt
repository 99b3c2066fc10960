use Rattle.std.proofs.Common.{rules, ◌≡◌, ◌++◌, ◌∷◌, [], refl, sym, subst, ap₂, ◌∙◌}
use Rattle.file_format.specs.File.{has_sum}
use Rattle.file_report.specs.Findings.{IsSeen, directory_extent, directory_sum}
use Rattle.file_format.specs.Reading.{IsDirectoryRead}
use Rattle.file_report.specs.Reading.{IsSoOf, IsSoOfRead}
use Rattle.file_format.specs.declared.stored_directory.ReadDirectory.TheVariants.{Misplaced, Wrong}
use Rattle.file_report.specs.declared.finding.Finding.TheVariants as finding
use Rattle.file_report.proofs.FindingsLemmas.{finds_both, finds_one, finds_as, noted}
use Rattle.file_report.proofs.directory.note_directory.Goals as goal

pub returns-in_ok-note_place-in-Misplaced-clause-found : goal.returns-in_ok-note_place-in-Misplaced-clause-found
returns-in_ok-note_place-in-Misplaced-clause-found c =
    let s = c.args.slot.now in
    let e = c.directory_extent-extent.result in
    let so = IsSoOfRead c.args.file_length s c.args.name c.args.read.now in
    let is : c.args.read.now ≡ Misplaced = search rules in
    let pushed : c.push.new.self.items ≡ c.args.findings.now.items ++ finding.NoDirectory c.args.name e ∷ [] = search rules in
    finds_both so _ _ _
    (finds_one so _ _ (finding.NoDirectory c.args.name e) pushed (λ file size read. (
      c.directory_extent-extent.ensures,
      subst (λ r. IsDirectoryRead s.version (directory_sum s c.args.name) (directory_extent s c.args.name) r file) is read,
    )))
    (finds_as (IsSoOf c.args.file_length s) so _ _ (λ f true_of file size read. true_of file size) c.in_ok-note_place-in-Misplaced.ensures)

pub returns-in_ok-note_bytes-in-Wrong-clause-found : goal.returns-in_ok-note_bytes-in-Wrong-clause-found
returns-in_ok-note_bytes-in-Wrong-clause-found c =
    let s = c.args.slot.now in
    let e = c.directory_extent-extent.result in
    let so = IsSoOfRead c.args.file_length s c.args.name c.args.read.now in
    let is : c.args.read.now ≡ Wrong c.in-Wrong.bytes = search rules in
    let pushed : c.push-in-Wrong.new.self.items ≡ c.args.findings.now.items ++ finding.NoDirectory c.args.name e ∷ [] = search rules in
    finds_both so _ _ _
    (finds_one so _ _ (finding.NoDirectory c.args.name e) pushed (λ file size read. (
      c.directory_extent-extent.ensures,
      (subst (λ r. IsDirectoryRead s.version (directory_sum s c.args.name) (directory_extent s c.args.name) r file) is read).1,
    )))
    (finds_both so _ _ _
    (noted so _ _ (finding.DirectorySum c.args.name) _ (λ no file size read.
    ap₂ has_sum (sym c.directory_sum.ensures) (sym (c.deref.ensures.value ∙ (subst (λ r. IsDirectoryRead s.version (directory_sum s c.args.name) (directory_extent s c.args.name) r file) is read).0))
    ∙ sym c.has_sum-summed.ensures ∙ no) c.in_ok-note_unless-in-Wrong.ensures.found)
    (finds_as (IsSeen s.version c.args.file_length c.deref-in-Wrong.result.now c.args.name) so _ _
    (λ f seen file size read. seen file s (record {
      bytes_are = c.deref-in-Wrong.ensures.value ∙ (subst (λ r. IsDirectoryRead s.version (directory_sum s c.args.name) (directory_extent s c.args.name) r file) is read).0;
      length_is = size;
      version_is = refl;
    })) c.in_ok-note_bytes-in-Wrong.ensures))
