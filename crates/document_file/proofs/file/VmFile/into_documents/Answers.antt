use Rattle.std.proofs.Common.{ap, ◌∙◌}
use Rattle.document_file.proofs.SumsLemmas.{summed_have}
use Rattle.document_file.proofs.file.VmFile.into_documents.Goals as goal

pub of-requires : goal.of-requires
of-requires g c = record {
  tables = c.self.invariant.sound.formed.committed;
  updated = λ so. (c.self.invariant.sound.whole so).committed.updated.images;
  saved = λ so. (c.self.invariant.sound.whole so).committed.saved.images;
  updated_sums = λ so. summed_have _ _ _ (c.self.invariant.sound.whole so).committed.updated.sums;
  saved_sums = λ so. summed_have _ _ _ (c.self.invariant.sound.whole so).committed.saved.sums;
}

pub returns-clause-store : goal.returns-clause-store
returns-clause-store g c = ap (λ d. d.store) c.of.ensures ∙ ap (λ s. s.disk.store) c.self.view_is

pub returns-clause-updated : goal.returns-clause-updated
returns-clause-updated g c = ap (λ d. d.updated) c.of.ensures ∙ ap (λ s. s.disk.updated) c.self.view_is

pub returns-clause-saved : goal.returns-clause-saved
returns-clause-saved g c = ap (λ d. d.saved) c.of.ensures ∙ ap (λ s. s.disk.saved) c.self.view_is
