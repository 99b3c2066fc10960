use Rattle.std.proofs.Common.{◌≡◌, [], IsTrue, subst}
use Rattle.document_file.specs.Documents.{has_one_directory}
use Rattle.vm_blocks.proofs.file_blocks.FileBlocks.has_one_directory.Goals as goal

pub returns-clause-content : goal.returns-clause-content
returns-clause-content g c =
    subst (λ s. IsTrue (g.S.Store.facts s.disk.store).honest → s.disk.in_doubt ≡ [] → c.has_one_directory.result ≡ has_one_directory (g.S.Store.facts s.disk.store).content) c.self.view_is c.has_one_directory.ensures.content
