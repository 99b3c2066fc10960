use Rattle.std.specs.Io.KnownBytes.{Appends}
use Rattle.file_salvage.specs.Entries.{notes}
use Rattle.file_salvage.proofs.entries.send_notes.Given as goal

abbrev pub invariant-loop-i : goal.invariant-loop-i
invariant-loop-i g l = Appends (g.W.Write.contents l.initial.writer) (g.W.Write.contents l.writer) (notes l.bytes l.damages l.row l.i)
