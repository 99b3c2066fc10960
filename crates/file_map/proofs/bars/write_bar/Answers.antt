use Rattle.std.proofs.Common.{◌++◌, false, codes, ap, subst, ◌∙◌}
use Rattle.std.specs.Io.KnownBytes.{Appends}
use Rattle.std.proofs.lemmas.Result.{on_ok_weaker}
use Rattle.file_map.specs.Bars.{caption, chunks_drawn, room}
use Rattle.file_map.specs.Heaps.{header}
use Rattle.file_map.proofs.TextLemmas.{filled_out, glued2, sent3}
use Rattle.file_map.proofs.bars.write_bar.Goals as goal

pub returns-clause-text : goal.returns-clause-text
returns-clause-text g c =
    let from = g.W.Write.contents c.args.writer.now in
    let mid = g.W.Write.contents c.send.new.writer in
    let then = g.W.Write.contents c.write_chunks.new.writer in
    let to = g.W.Write.contents c.send-2.new.writer in
    let sizes = c.args.sizes.now in
    let start = caption c.args.part.now c.args.y sizes ++ room c.args.y (header sizes) in
    let pushed = glued2 c.new-out.result.items c.push_caption.new.out.items c.push_room.new.out.items (caption c.args.part.now c.args.y sizes) (room c.args.y (header sizes)) c.in_ok-push_caption.ensures
    (c.in_ok-push_room.ensures ∙ ap (λ n. c.push_caption.new.out.items ++ room c.args.y n) c.header.ensures) in
    on_ok_weaker c.send-2.result
    (λ sent. sent3 from mid then to start (chunks_drawn false (header sizes) 0 sizes) (codes "</svg>\n") (subst (Appends from mid) (filled_out _ _ _ start c.new-out.ensures.items pushed c.deref.ensures.value) c.in_ok-send.ensures.text)
    c.in_ok-write_chunks.ensures.text sent)
    c.send-2.ensures.text
