use Rattle.std.proofs.Common.{flat_map}
use Rattle.std.specs.List.{range_with_len}
use Rattle.std.specs.Io.KnownBytes.{Appends}
use Rattle.file_map.specs.Svg.{label}
use Rattle.file_map.proofs.svg.write_labels.Given as goal

abbrev pub invariant-loop-k : goal.invariant-loop-k
invariant-loop-k g l = Appends (g.W.Write.contents l.initial.writer) (g.W.Write.contents l.writer) (flat_map label (range_with_len 0 l.k))
