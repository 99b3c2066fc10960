use Rattle.file_report.proofs.FindingsLemmas.{finds_both}
use Rattle.file_report.proofs.directory.note_bytes.Goals as goal

pub returns : goal.returns
returns c = finds_both _ _ _ _ c.in_ok-note_header.ensures (finds_both _ _ _ _ c.in_ok-note_entries.ensures c.in_ok-note_map_block.ensures)
