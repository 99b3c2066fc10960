use Rattle.std.proofs.Common.{subst}
use Rattle.std.specs.Io.KnownBytes.{Appends}
use Rattle.std.proofs.KnownBytes.{Appends-trans}
use Rattle.std.proofs.lemmas.Result.{on_ok_weaker}
use Rattle.file_map.specs.Svg.{labels, start_drawn}
use Rattle.file_map.proofs.TextLemmas.{filled_out}
use Rattle.file_map.proofs.svg.write_start.Goals as goal

pub returns-clause-text : goal.returns-clause-text
returns-clause-text g c =
    let from = g.W.Write.contents c.args.writer.now in
    let mid = g.W.Write.contents c.send.new.writer in
    let start = start_drawn c.args.pages c.args.height in
    on_ok_weaker c.write_labels.result
    (λ sent. Appends-trans from mid (g.W.Write.contents c.write_labels.new.writer) start (labels c.args.pages)
    (subst (Appends from mid) (filled_out _ _ _ start c.new-out.ensures.items c.in_ok-push_start.ensures c.deref.ensures.value) c.in_ok-send.ensures.text) sent)
    c.write_labels.ensures.text
