use Rattle.std.proofs.Common.{Err, ap, refl, inl, inr}
use Rattle.file_format.specs.File.{stands}
use Rattle.document_tools.specs.Stats.{StatsStore}
use Rattle.document_tools.specs.declared.obstacle.Obstacle.TheVariants.{Unopened}
use Rattle.document_tools.proofs.Looked.{stated, unlooked_at}
use Rattle.document_tools.proofs.stating.stat_store.Goals as goal

pub returns-in-Ok-clause-told : goal.returns-in-Ok-clause-told
returns-in-Ok-clause-told g c =
    stated g.W.Sink.writes c.args.file.now c.args.form (g.S.Store.facts c.args.store.now) (g.S.Store.facts c.stat.new.store) c.in-Ok.stat c.args.writer.now c.tell_stat.new.writer c.tell_stat.result
    c.in-Ok.ensures.ok c.tell_stat.ensures

pub returns-in-Err-clause-told : goal.returns-in-Err-clause-told
returns-in-Err-clause-told g c =
    let old = g.S.Store.facts c.args.store.now in let new = g.S.Store.facts c.stat.new.store in
    unlooked_at stands (StatsStore g.W.Sink.writes c.args.file.now c.args.form old new c.args.writer.now c.args.writer.now) c.args.file.now old new c.in-Err.fault (Unopened c.in-Err.fault) c.unopened.result
    (λ line is failed. (inl (is, failed), refl)) (λ line is so. (inr (c.in-Err.fault, is, so), refl)) refl (λ e. c.in-Err.ensures.file (ap Err e)) c.in-Err.ensures.err c.unopened.ensures
