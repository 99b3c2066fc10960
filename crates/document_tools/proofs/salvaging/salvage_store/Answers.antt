use Rattle.std.proofs.Common.{Ok, ap₂, sym, subst, ◌∙◌}
use Rattle.document_file.specs.Opened.{OnlyReadsStore}
use Rattle.file_format.proofs.LooksLemmas.{OnlyReadsStore-trans}
use Rattle.document_tools.proofs.SalvageLemmas.{opened_script, unopened_script}
use Rattle.document_tools.proofs.salvaging.salvage_store.Goals as goal

-- The store was opened, and then read for the dump.
pub returns-in-Ok : goal.returns-in-Ok
returns-in-Ok g c =
    let facts = g.S.Store.facts in let store = c.args.store in let file = c.in-Ok.file in let to = c.dump_open.new.file in
    let from = c.into_documents-documents.result in let is = c.into_documents-documents.ensures in
    let made = c.in-Ok.ensures in
    let began : OnlyReadsStore (facts store) (facts file.disk.store) = record { honest = made.store.honest; failures = made.store.failures; unchanged = made.unchanged } in
    let opened : OnlyReadsStore (facts store) (facts from.store) = subst (λ s. OnlyReadsStore (facts store) (facts s)) (sym is.store) began in (
      to.store,
      OnlyReadsStore-trans (facts store) (facts from.store) (facts to.store) (λ so. g.met.S.Store.timely store so) opened c.dump_open.ensures.reads.store,
      opened_script facts g.W.Sink.contents g.W.Sink.writes c.args.name.now c.args.all store from to c.args.writer c.dump_open.result.0 c.dump_open.result.1 opened
          (λ so. made.stands so ∙ ap₂ (λ updated saved. Ok (updated, saved)) (sym is.updated) (sym is.saved)) c.dump_open.ensures.told,
    )

pub returns-in-Err : goal.returns-in-Err
returns-in-Err g c =
    let facts = g.S.Store.facts in let store = c.args.store in let none = c.in-Err.none in let is = c.in-Err.ensures in
    let began : OnlyReadsStore (facts store) (facts none.store) = record { honest = is.store.honest; failures = is.store.failures; unchanged = is.unchanged } in
    let left = c.salvage_unopened.ensures in (
      left.0,
      OnlyReadsStore-trans (facts store) (facts none.store) (facts left.0) (λ so. g.met.S.Store.timely store so) began left.1,
      unopened_script g.W.Sink.contents g.W.Sink.writes c.args.name.now c.args.all (facts store) (facts none.store) (facts left.0) none.fault c.args.writer c.salvage_unopened.result.0 c.salvage_unopened.result.1 began left.1
          is.file is.refused left.2,
    )
