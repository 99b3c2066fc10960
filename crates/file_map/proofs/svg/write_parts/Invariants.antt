use Rattle.std.proofs.Common.{take, flat_map}
use Rattle.std.specs.Io.KnownBytes.{Appends}
use Rattle.file_map.specs.Svg.{part_drawn}
use Rattle.file_map.proofs.svg.write_parts.Given as goal

abbrev pub invariant-loop-part : goal.invariant-loop-part
invariant-loop-part g l = Appends (g.W.Write.contents l.initial.writer) (g.W.Write.contents l.writer) (flat_map part_drawn (take l.part-index l.parts))
