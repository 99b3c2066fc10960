use Rattle.geos_shell.specs.Streams.{StopsWriting}
use Rattle.document_diff.specs.declared.fault.DiffFault.TheVariants.{Memory, Write}
use Rattle.document_tools.proofs.Looked.{caused_by_write}
use Rattle.document_tools.proofs.comparing.write_diff.Goals as goal

pub returns-clause-cause : goal.returns-clause-cause
returns-clause-cause g c =
    caused_by_write (StopsWriting g.W.Sink.writes c.finish-sink.result.sink) Memory Write c.diff-compared.result c.diff_end.result c.finish-sink.result.failed (λ e. cc (e)) c.finish-sink.result.cause c.diff_end.ensures
