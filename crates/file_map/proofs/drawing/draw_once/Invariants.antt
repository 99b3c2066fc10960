use Rattle.std.proofs.Common.{◌≡◌, [], take}
use Rattle.std.specs.Prelude.{fold}
use Rattle.file_map.specs.Parts.{drawn_more}
use Rattle.file_map.proofs.drawing.draw_once.Given as goal

abbrev pub invariant-loop-part : goal.invariant-loop-part
invariant-loop-part l = l.once.items ≡ fold drawn_more [] (take l.part-index l.parts)
