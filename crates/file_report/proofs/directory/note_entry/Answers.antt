use Rattle.std.proofs.Common.{sym, ◌∙◌}
use Rattle.file_report.proofs.FindingsLemmas.{finds_both, entry_noted, IsEntryOf}
use Rattle.file_report.proofs.directory.note_entry.Goals as goal

pub returns : goal.returns
returns c =
    let of : IsEntryOf c.args.bytes.now c.args.i c.directory_version-version.result c.handle_before-last.result c.entry_text_at-text.result.now c.read_entry-entry.result =
    record { version_is = c.directory_version-version.ensures; last_is = c.handle_before-last.ensures; text_is = c.entry_text_at-text.ensures.text; entry_is = c.read_entry-entry.ensures } in
    finds_both _ _ _ _ (entry_noted _ _ _ _ _ _ _ _ _ _ _ _ _ of c.is_above-above.ensures c.in_ok-note_unless.ensures.found)
    (finds_both _ _ _ _ (entry_noted _ _ _ _ _ _ _ _ _ _ _ _ _ of c.is_handle-handle.ensures c.in_ok-note_unless-2.ensures.found)
    (finds_both _ _ _ _ (entry_noted _ _ _ _ _ _ _ _ _ _ _ _ _ of c.is_image_length-length.ensures c.in_ok-note_unless-3.ensures.found)
    (finds_both _ _ _ _ (entry_noted _ _ _ _ _ _ _ _ _ _ _ _ _ of (λ no. sym c.is_in_file-inside.ensures ∙ no) c.in_ok-note_unless-4.ensures.found)
    (entry_noted _ _ _ _ _ _ _ _ _ _ _ _ _ of (λ no. sym c.has_entry_zeros-zeros.ensures ∙ no) c.in_ok-note_unless-5.ensures.found))))
