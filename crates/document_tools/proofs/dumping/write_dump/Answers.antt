use Rattle.geos_shell.specs.Streams.{StopsWriting}
use Rattle.document_dump.specs.declared.fault.DumpFault.TheVariants.{Memory, Write}
use Rattle.document_tools.proofs.Looked.{caused_by_write}
use Rattle.document_tools.proofs.dumping.write_dump.Goals as goal

pub returns-clause-cause : goal.returns-clause-cause
returns-clause-cause g c =
    caused_by_write (StopsWriting g.W.Sink.writes c.finish-sink.result.sink) Memory Write c.dump-dumped.result c.script_end.result c.finish-sink.result.failed (λ e. cc (e)) c.finish-sink.result.cause c.script_end.ensures
