use Rattle.std.proofs.Common.{get_or}
use Rattle.std.specs.Io.KnownBytes.{Appends}
use Rattle.file_format.proofs.LooksLemmas.{OnlyReadsStore-trans, held_before}
use Rattle.file_map.specs.Heaps.{line_of}
use Rattle.file_map.proofs.PartLemmas.{no_part}
use Rattle.file_map.proofs.TextLemmas.{sent_take}
use Rattle.file_map.proofs.drawing.write_heaps.Goals as goal

pub loop-part-preserved : goal.loop-part-preserved
loop-part-preserved g c =
    let i = c.loop-part.part-index in
    let ps = c.args.parts.now in
    let was = c.loop-part.invariant in
    let mid = g.W.Write.contents c.loop-part.writer in
    let to = g.W.Write.contents c.write_line.new.writer in
    record {
      looks = OnlyReadsStore-trans _ _ _ (λ so. g.met.S.Store.timely c.args.store.now so) was.looks c.write_line.ensures.looks;
      text = λ so. sent_take (line_of (g.S.Store.facts c.args.store.now).content) ps i no_part (g.W.Write.contents c.args.writer.now) mid to c.loop-part-test.true (was.text so)
          (held_before (λ f. Appends mid to (line_of f (get_or ps i no_part))) _ _ was.looks c.in_ok-write_line.ensures.text so);
    }
