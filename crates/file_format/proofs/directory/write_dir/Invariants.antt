use Rattle.std.proofs.Common.{◌≡◌, ◌++◌, length, take}
use Rattle.std.specs.List.{flat_map}
use Rattle.file_format.specs.File.{header_text, entry_text}
use Rattle.file_format.proofs.directory.write_dir.Given as goal

abbrev pub invariant-loop-entry : goal.invariant-loop-entry
invariant-loop-entry l = l.text.items ≡ header_text l.version (length l.entries) l.fn.map_block.0 ++ flat_map (entry_text l.version) (take l.entry-index l.entries)
