use Rattle.std.proofs.Common.{Err, ap, inl, inr, refl, IsTrue, subst, sym}
use Rattle.file_format.specs.File.{stands}
use Rattle.file_format.proofs.LooksLemmas.{OnlyReadsStore-trans}
use Rattle.document_tools.specs.OtherSlots.{FailsLook}
use Rattle.document_tools.specs.declared.obstacle.Obstacle.TheVariants.{Unopened}
use Rattle.document_tools.proofs.Looked.{unlooked_at}
use Rattle.document_tools.proofs.OtherLemmas.{other_before}
use Rattle.file_report.specs.Checked.{IsReport}
use Rattle.document_tools.proofs.other_slot.dump_other_of.Goals as goal

-- The file was looked through, or it couldn't be read.

pub dump_by_report-requires : goal.dump_by_report-requires
dump_by_report-requires g c so =
    let looks = c.check.ensures.looks in
    let first = subst IsTrue looks.honest so in
    subst (λ file. IsReport file c.in-Ok.report) (sym (looks.unchanged first).content) (c.in-Ok.ensures.report first)

pub returns-in-Ok : goal.returns-in-Ok
returns-in-Ok g c =
    let facts = g.S.Store.facts in let left = c.dump_by_report.ensures in (
      left.0,
      OnlyReadsStore-trans (facts c.args.store) (facts c.check.new.store) (facts left.0) (λ so. g.met.S.Store.timely c.args.store so) c.in-Ok.ensures.looks left.1,
      other_before g.W.Sink.contents g.W.Sink.writes c.args.name.now (facts c.args.store) (facts c.check.new.store) (facts left.0) c.args.writer c.dump_by_report.result.0 c.dump_by_report.result.1 c.in-Ok.ensures.looks left.2,
    )

pub returns-in-Err : goal.returns-in-Err
returns-in-Err g c =
    let old = g.S.Store.facts c.args.store in let new = g.S.Store.facts c.check.new.store in let fault = c.in-Err.fault in (
      c.check.new.store,
      c.in-Err.ensures.looks,
      inl (
        unlooked_at stands (FailsLook c.args.name.now old new) c.args.name.now old new fault (Unopened fault) c.unopened.result (λ line is failed. inl (is, failed)) (λ line is so. inr (fault, is, so)) tt
            (λ e. c.in-Err.ensures.file (ap Err e)) (λ so. inl c.in-Err.ensures.refusals) c.unopened.ensures,
        refl,
      ),
    )
