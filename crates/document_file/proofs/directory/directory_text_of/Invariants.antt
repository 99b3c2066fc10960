use Rattle.std.proofs.Common.{take, length}
use Rattle.file_format.specs.File.{header_text}
use Rattle.document_file.specs.Documents.{entries_of}
use Rattle.document_file.proofs.TableDirectoryLemmas.{IsTextOfEntries}
use Rattle.document_file.proofs.directory.directory_text_of.Given as goal

abbrev pub invariant-loop-i : goal.invariant-loop-i
invariant-loop-i l = IsTextOfEntries l.version (header_text l.version (length (entries_of 1 l.table.places.items)) l.table.map_block) (entries_of 1 (take l.i l.table.places.items)) l.text.items
