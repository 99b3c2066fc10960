use Rattle.std.proofs.Common.{subst}
use Rattle.document_file.specs.StoredDocuments.{AreFileDocuments}
use Rattle.document_file.proofs.StoredDocumentsLemmas.{state_listed}
use Rattle.document_file.proofs.stored_documents.StoredDocuments.reveal_invariant.Goals as goal

pub returns : goal.returns
returns g c = subst (AreFileDocuments g.S.Store.facts) c.self.view_is (state_listed g.S.Store.facts c.self.inside.store c.self.inside.pair c.self.invariant)
