use Rattle.std.proofs.Common.{Ok, ap₂, sym, subst, ◌∙◌, inl}
use Rattle.document_file.specs.Opened.{OnlyReadsStore}
use Rattle.file_format.proofs.LooksLemmas.{OnlyReadsStore-refl, OnlyReadsStore-trans}
use Rattle.document_tools.specs.Comparisons.{ComparesStores}
use Rattle.document_tools.proofs.Compared.{compared_stores, unread_one}
use Rattle.document_tools.proofs.comparing.compare_stores.Goals as goal

-- The first store was opened, and then the second.
pub returns-in-Ok : goal.returns-in-Ok
returns-in-Ok g c =
    let facts = g.S.Store.facts in let store = c.args.first in let file = c.in-Ok.file in let to = c.compare_second.new.first in
    let from = c.into_documents-documents.result in let is = c.into_documents-documents.ensures in
    let made = c.in-Ok.ensures in
    let second = c.compare_second.ensures.told in
    let began : OnlyReadsStore (facts store) (facts file.disk.store) = record { honest = made.store.honest; failures = made.store.failures; unchanged = made.unchanged } in
    let opened : OnlyReadsStore (facts store) (facts from.store) = subst (λ s. OnlyReadsStore (facts store) (facts s)) (sym is.store) began in (
      to.store,
      second.0,
      OnlyReadsStore-trans (facts store) (facts from.store) (facts to.store) (λ so. g.met.S.Store.timely store so) opened c.compare_second.ensures.reads.store,
      second.1,
      compared_stores facts g.W.Sink.contents g.W.Sink.writes c.args.names.first.now c.args.names.second.now c.args.version store from to (facts c.args.second) (facts second.0) c.args.writer c.compare_second.result.0
          c.compare_second.result.1 opened (λ so. made.stands so ∙ ap₂ (λ updated saved. Ok (updated, saved)) (sym is.updated) (sym is.saved)) second.2,
    )

pub returns-in-Err : goal.returns-in-Err
returns-in-Err g c =
    let facts = g.S.Store.facts in let store = c.args.first in let refused = c.in-Err.refused in let none = c.in-Err.ensures in (
      refused.store,
      c.args.second,
      record { honest = none.store.honest; failures = none.store.failures; unchanged = none.unchanged },
      OnlyReadsStore-refl (facts c.args.second),
      unread_one (ComparesStores g.W.Sink.contents g.W.Sink.writes c.args.names.first.now c.args.names.second.now c.args.version (facts store) (facts refused.store) (facts c.args.second) (facts c.args.second) c.args.writer c.args.writer)
          c.args.names.first.now (facts store) (facts refused.store) refused.fault c.unopened_one.result (λ line is. inl is) tt none.file none.refused c.unopened_one.ensures,
    )
