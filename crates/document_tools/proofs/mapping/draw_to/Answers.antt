use Rattle.std.specs.Io.KnownBytes.{append_known}
use Rattle.std.proofs.Common.{◌≡◌, ◌∙◌, IsTrue, ap}
use Rattle.geos_shell.specs.Streams.{StopsWriting}
use Rattle.file_map.specs.Drawn.{IsDrawn}
use Rattle.document_tools.specs.Maps.{picture_of}
use Rattle.file_map.specs.declared.fault.MapFault.TheVariants.{Memory, Write}
use Rattle.document_tools.proofs.Looked.{all_drawn, caused_by_write, drawn_through, known_empty, on_ok}
use Rattle.document_tools.proofs.mapping.draw_to.Goals as goal

-- What was drawn in pieces reached the writer.
pub returns-clause-text : goal.returns-clause-text
returns-clause-text g c =
    let contents = g.W.Sink.contents in let picture = picture_of c.args.picture in let store = g.S.Store.facts c.args.store.now in
    let first = c.new-pieces.result in let last = c.draw-drawn.new.writer in let end = c.finish-sink.result in
    let start = append_known (contents first.watched.sink) first.gathered.items in let mid = append_known (contents last.watched.sink) last.gathered.items in
    let begun : start ≡ contents c.args.writer =
    known_empty (contents first.watched.sink) first.gathered.items c.new-pieces.ensures.gathered ∙ ap contents c.new-pieces.ensures.sink in
    all_drawn (IsTrue store.honest → IsDrawn picture store.content (contents c.args.writer) (contents end.sink)) c.draw-drawn.result c.map_end.result end.failed c.map_end.ensures
    (on_ok _ _ c.draw-drawn.result (λ text well so. drawn_through picture store.content (contents c.args.writer) start mid (contents end.sink) begun (c.finish-sink.ensures well) (text so)) c.draw-drawn.ensures.text)

pub returns-clause-cause : goal.returns-clause-cause
returns-clause-cause g c =
    caused_by_write (StopsWriting g.W.Sink.writes c.finish-sink.result.sink) Memory Write c.draw-drawn.result c.map_end.result c.finish-sink.result.failed (λ e. cc (e)) c.finish-sink.result.cause c.map_end.ensures
