use Rattle.std.proofs.Common.{sym, ◌∙◌}
use Rattle.file_report.specs.declared.finding.HeaderFault.TheVariants as header
use Rattle.file_report.proofs.FindingsLemmas.{finds_both, noted, header_seen}
use Rattle.file_report.proofs.directory.note_header.Goals as goal

pub returns : goal.returns
returns c =
    let version = c.args.file_version in
    let n = c.args.file_length in
    let bytes = c.args.bytes.now in
    let name = c.args.name in
    finds_both _ _ _ _ (noted _ _ _ _ _ (λ no. header_seen version n bytes name header.Mark (c.has_mark-marked.ensures no)) c.in_ok-note_unless.ensures.found)
    (finds_both _ _ _ _ (noted _ _ _ _ _ (λ no. header_seen version n bytes name (header.Version c.directory_version-version.result) (c.directory_version-version.ensures, sym c.is_known-known.ensures ∙ no)) c.in_ok-note_unless-2.ensures.found)
    (finds_both _ _ _ _ (noted _ _ _ _ _ (λ no. header_seen version n bytes name header.Zeros (sym c.has_header_zeros-zeros.ensures ∙ no)) c.in_ok-note_unless-3.ensures.found)
    (noted _ _ _ _ _ (λ no. header_seen version n bytes name (header.Length c.count_of-count.result) (c.count_of-count.ensures, c.is_whole-whole.ensures no)) c.in_ok-note_unless-4.ensures.found)))
