use Rattle.std.proofs.Common.{◌≡◌, length, eqb-true, ap, sym, ◌∙◌}
use Rattle.byteorder.specs.Endian.{little_number}
use Rattle.file_format.specs.File.{entry_start}
use Rattle.file_format.proofs.DirectoryLemmas.{has_header, header-read}
use Rattle.file_format.proofs.directory.has_header.Goals.{then-is_known, else-is_known}
use Rattle.file_format.proofs.directory.has_header.Goals as goal

pub returns-then-bytes-entry_start : goal.returns-then-bytes-entry_start
returns-then-bytes-entry_start c = elim c.if-is_known.branch [
  | then-is_known w ↦
      let size : length c.args.bytes.now ≡ w.entry_start.result = eqb-true (length c.args.bytes.now) w.entry_start.result (sym w.value-is ∙ c.if-bytes-entry_start.true) in
      has_header c.args.file_version c.args.bytes.now c.header.result c.eq.result c.read_u16-version.result c.read_u16-count.result c.read_u16.result
      (sym c.is_known.ensures ∙ w.if-is_known.true) c.eq.ensures c.header.ensures (c.read_u16-version.ensures ∙ ap (little_number 2) (header-read c.args.bytes.now 4))
      (c.read_u16-count.ensures ∙ ap (little_number 2) (header-read c.args.bytes.now 6)) (c.read_u16.ensures ∙ ap (little_number 2) (header-read c.args.bytes.now 8))
      (size ∙ w.entry_start.ensures.value ∙ ap (entry_start c.read_u16-version.result) w.from.ensures)
  | else-is_known w ↦ absurd (cc (sym w.if-is_known.false ∙ sym w.value-is ∙ c.if-bytes-entry_start.true))
]
