use Rattle.file_format.proofs.DirectoryLemmas.{AreRead}
use Rattle.file_format.proofs.directory.read_entries.Given as goal

abbrev pub invariant-loop-i : goal.invariant-loop-i
invariant-loop-i l = AreRead l.file_version l.file_length l.bytes l.i l.entries.items l.last
