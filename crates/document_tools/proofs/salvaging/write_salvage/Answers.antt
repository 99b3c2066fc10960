use Rattle.std.specs.Io.KnownBytes.{append_known}
use Rattle.std.proofs.Common.{◌≡◌, ◌∙◌, IsTrue, ap}
use Rattle.std.proofs.lemmas.Result.{IfOk-weaker}
use Rattle.geos_shell.specs.Streams.{StopsWriting}
use Rattle.file_salvage.specs.Salvaged.{salvage_text}
use Rattle.document_tools.specs.Salvages.{HasSalvage}
use Rattle.document_dump.specs.declared.fault.DumpFault.TheVariants.{Memory, Write}
use Rattle.document_tools.proofs.Looked.{caused_by_write, known_empty}
use Rattle.document_tools.proofs.SalvageLemmas.{all_salvaged, salvaged_through}
use Rattle.document_tools.proofs.salvaging.write_salvage.Goals as goal

-- What was salvaged in pieces reached the writer.
pub returns-clause-ok : goal.returns-clause-ok
returns-clause-ok g c =
    let contents = g.W.Sink.contents in let store = g.S.Store.facts c.args.store.now in
    let first = c.new-pieces.result in let last = c.salvage-salvaged.new.writer in let end = c.finish-sink.result in
    let start = append_known (contents first.watched.sink) first.gathered.items in let mid = append_known (contents last.watched.sink) last.gathered.items in
    let begun : start ≡ contents c.args.writer =
    known_empty (contents first.watched.sink) first.gathered.items c.new-pieces.ensures.gathered ∙ ap contents c.new-pieces.ensures.sink in
    all_salvaged (λ some. IsTrue store.honest → HasSalvage (salvage_text c.args.all store.content) some (contents c.args.writer) (contents end.sink)) c.salvage-salvaged.result c.script_end.result end.failed c.script_end.ensures
    (IfOk-weaker c.salvage-salvaged.result _ _ (λ some text well so. salvaged_through (salvage_text c.args.all store.content) some (contents c.args.writer) start mid (contents end.sink) begun (c.finish-sink.ensures well) (text so)) c.salvage-salvaged.ensures.ok)

pub returns-clause-cause : goal.returns-clause-cause
returns-clause-cause g c =
    caused_by_write (StopsWriting g.W.Sink.writes c.finish-sink.result.sink) Memory Write c.salvage-salvaged.result c.script_end.result c.finish-sink.result.failed (λ e. cc (e)) c.finish-sink.result.cause c.script_end.ensures
