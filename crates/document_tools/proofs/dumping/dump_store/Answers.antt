use Rattle.std.proofs.Common.{Ok, ap₂, sym, subst, ◌∙◌, inl, inr}
use Rattle.file_format.specs.File.{stands}
use Rattle.document_file.specs.Opened.{OnlyReadsStore}
use Rattle.file_format.proofs.LooksLemmas.{OnlyReadsStore-trans}
use Rattle.document_tools.specs.DumpedFiles.{DumpsStore}
use Rattle.document_tools.specs.declared.obstacle.Obstacle.TheVariants.{Unopened}
use Rattle.document_tools.proofs.Looked.{dumped_stood, unlooked_at}
use Rattle.document_tools.proofs.dumping.dump_store.Goals as goal

-- The store was opened, and then read for the dump.
pub returns-in-Ok : goal.returns-in-Ok
returns-in-Ok g c =
    let facts = g.S.Store.facts in let store = c.args.store in let file = c.in-Ok.file in let to = c.dump_open.new.file in
    let from = c.into_documents-documents.result in let is = c.into_documents-documents.ensures in
    let made = c.in-Ok.ensures in
    let began : OnlyReadsStore (facts store) (facts file.disk.store) = record { honest = made.store.honest; failures = made.store.failures; unchanged = made.unchanged } in
    let opened : OnlyReadsStore (facts store) (facts from.store) = subst (λ s. OnlyReadsStore (facts store) (facts s)) (sym is.store) began in (
      to.store,
      OnlyReadsStore-trans (facts store) (facts from.store) (facts to.store) (λ so. g.met.S.Store.timely store so) opened c.dump_open.ensures.reads.store,
      dumped_stood facts g.W.Sink.contents g.W.Sink.writes c.args.name.now c.args.which stands Unopened store from to c.args.writer c.dump_open.result.0 c.dump_open.result.1 opened
          (λ so. made.stands so ∙ ap₂ (λ updated saved. Ok (updated, saved)) (sym is.updated) (sym is.saved)) c.dump_open.ensures.told,
    )

pub returns-in-Err : goal.returns-in-Err
returns-in-Err g c =
    let facts = g.S.Store.facts in let store = c.args.store in let refused = c.in-Err.refused in let none = c.in-Err.ensures in (
      refused.store,
      record { honest = none.store.honest; failures = none.store.failures; unchanged = none.unchanged },
      unlooked_at stands (DumpsStore g.W.Sink.contents g.W.Sink.writes c.args.name.now c.args.which (facts store) (facts refused.store) c.args.writer c.args.writer) c.args.name.now (facts store) (facts refused.store) refused.fault
          (Unopened refused.fault) c.unopened.result (λ line is failed. inl (is, failed)) (λ line is so. inr (inl (refused.fault, is, so))) tt none.file none.refused c.unopened.ensures,
    )
