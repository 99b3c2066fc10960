use Rattle.std.proofs.Common.{Ok, ap₂, sym, subst, ◌∙◌, inr}
use Rattle.document_file.specs.Opened.{OnlyReadsStore}
use Rattle.file_format.proofs.LooksLemmas.{OnlyReadsStore-trans}
use Rattle.document_file.proofs.StoredDocumentsLemmas.{OnlyReadsDocuments-refl}
use Rattle.document_diff.specs.Diffs.{document_by}
use Rattle.document_tools.specs.Comparisons.{ComparesStored}
use Rattle.document_tools.proofs.Compared.{compared_stored, unread_one}
use Rattle.document_tools.proofs.comparing.compare_second.Goals as goal

-- The second store was opened, and then both were read.
pub returns-in-Ok-clause-told : goal.returns-in-Ok-clause-told
returns-in-Ok-clause-told g c =
    let facts = g.S.Store.facts in let store = c.args.second in let file = c.in-Ok.file in let to = c.compare_open.new.second in
    let from = c.into_documents-documents.result in let is = c.into_documents-documents.ensures in
    let made = c.in-Ok.ensures in
    let began : OnlyReadsStore (facts store) (facts file.disk.store) = record { honest = made.store.honest; failures = made.store.failures; unchanged = made.unchanged } in
    let opened : OnlyReadsStore (facts store) (facts from.store) = subst (λ s. OnlyReadsStore (facts store) (facts s)) (sym is.store) began in (
      to.store,
      OnlyReadsStore-trans (facts store) (facts from.store) (facts to.store) (λ so. g.met.S.Store.timely store so) opened c.compare_open.ensures.reads_second.store,
      compared_stored facts g.W.Sink.contents g.W.Sink.writes c.args.names.first.now c.args.names.second.now c.args.version store c.args.first.now c.compare_open.new.first from to c.args.writer c.compare_open.result.0
          c.compare_open.result.1 opened (λ so. made.stands so ∙ ap₂ (λ updated saved. Ok (updated, saved)) (sym is.updated) (sym is.saved)) c.compare_open.ensures.told,
    )

pub returns-in-Err-clause-reads : goal.returns-in-Err-clause-reads
returns-in-Err-clause-reads g c = OnlyReadsDocuments-refl g.S.Store.facts c.args.first.now

pub returns-in-Err-clause-told : goal.returns-in-Err-clause-told
returns-in-Err-clause-told g c =
    let facts = g.S.Store.facts in let store = c.args.second in let refused = c.in-Err.refused in let none = c.in-Err.ensures in
    let a = facts c.args.first.now.store in (
      refused.store,
      record { honest = none.store.honest; failures = none.store.failures; unchanged = none.unchanged },
      unread_one (ComparesStored g.W.Sink.contents g.W.Sink.writes c.args.names.first.now c.args.names.second.now c.args.version a a (document_by c.args.version c.args.first.now) (facts store) (facts refused.store) c.args.writer c.args.writer)
          c.args.names.second.now (facts store) (facts refused.store) refused.fault c.unopened_one.result (λ line is. inr is) tt none.file none.refused c.unopened_one.ensures,
    )
