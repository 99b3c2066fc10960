use Rattle.document_file.proofs.FirstFileLemmas as first
use Rattle.document_file.proofs.law.first_file_law.Goals as goal

pub returns : goal.returns
returns c = first.first_file_law
