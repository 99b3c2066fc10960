use Rattle.std.proofs.Common.{refl}
use Rattle.document_tools.proofs.Checked.{told_by}
use Rattle.document_tools.proofs.checking.send_report.Goals as goal

pub returns-in-Ok : goal.returns-in-Ok
returns-in-Ok g c =
    told_by g.W.Sink.writes c.args.report.now c.args.writer.now c.write_out.new.self c.ending_of.result c.args.report.now.verdict refl c.ending_of.ensures
    (record { text = c.args.text.now; is = c.requires; sent = c.in-Ok.ensures.call })

pub returns-in-Err : goal.returns-in-Err
returns-in-Err g c = (c.in-Err.field-0, record { text = c.args.text.now; is = c.requires; sent = c.in-Err.ensures.call })
