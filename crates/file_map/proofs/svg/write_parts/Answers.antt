use Rattle.std.proofs.Common.{get_or, subst}
use Rattle.std.specs.Io.KnownBytes.{Appends}
use Rattle.file_map.specs.Svg.{part_drawn}
use Rattle.file_map.proofs.PartLemmas.{no_part}
use Rattle.file_map.proofs.TextLemmas.{filled_out, sent_take}
use Rattle.file_map.proofs.svg.write_parts.Goals as goal

pub loop-part-preserved : goal.loop-part-preserved
loop-part-preserved g c =
    let i = c.loop-part.part-index in
    let p = get_or c.args.parts.now i no_part in
    let mid = g.W.Write.contents c.loop-part.writer in
    let to = g.W.Write.contents c.send.new.writer in
    sent_take part_drawn c.args.parts.now i no_part (g.W.Write.contents c.args.writer.now) mid to c.loop-part-test.true c.loop-part.invariant
    (subst (Appends mid to) (filled_out _ _ _ (part_drawn p) c.new-out.ensures.items c.in_ok-push_part_drawn.ensures c.deref.ensures.value) c.in_ok-send.ensures.text)
