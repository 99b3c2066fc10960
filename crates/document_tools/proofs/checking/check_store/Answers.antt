use Rattle.std.proofs.Common.{Err, ap, refl}
use Rattle.document_tools.proofs.Checked.{checked, unchecked}
use Rattle.document_tools.proofs.checking.check_store.Goals as goal

pub returns-in-Ok-clause-told : goal.returns-in-Ok-clause-told
returns-in-Ok-clause-told g c =
    checked g.W.Sink.writes c.args.file.now (g.S.Store.facts c.args.store.now) (g.S.Store.facts c.check.new.store) c.in-Ok.report c.args.writer.now c.tell_report.new.writer c.tell_report.result
    c.in-Ok.ensures.report c.tell_report.ensures

pub returns-in-Err-clause-told : goal.returns-in-Err-clause-told
returns-in-Err-clause-told g c =
    unchecked g.W.Sink.writes c.args.file.now (g.S.Store.facts c.args.store.now) (g.S.Store.facts c.check.new.store) c.in-Err.fault c.args.writer.now c.args.writer.now c.unread.result
    c.in-Err.ensures.refusals (λ e. c.in-Err.ensures.file (ap Err e)) refl c.unread.ensures
