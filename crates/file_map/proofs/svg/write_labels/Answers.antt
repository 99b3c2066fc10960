use Rattle.std.proofs.Common.{subst, zero-add}
use Rattle.std.specs.Io.KnownBytes.{Appends}
use Rattle.file_map.specs.Svg.{label}
use Rattle.file_map.proofs.TextLemmas.{filled_out, sent_range}
use Rattle.file_map.proofs.svg.write_labels.Goals as goal

pub loop-k-preserved : goal.loop-k-preserved
loop-k-preserved g c =
    let k = c.loop-k.k in
    let mid = g.W.Write.contents c.loop-k.writer in
    let to = g.W.Write.contents c.send.new.writer in
    sent_range label 0 k k (g.W.Write.contents c.args.writer.now) mid to (zero-add k) c.loop-k.invariant
    (subst (Appends mid to) (filled_out _ _ _ (label k) c.new-out.ensures.items c.in_ok-push_label.ensures c.deref.ensures.value) c.in_ok-send.ensures.text)
