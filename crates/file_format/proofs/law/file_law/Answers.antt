use Rattle.file_format.proofs.Files.{body_of-some, body_of-image, slot_size, slot_of-text, length-directory, directory_read-text, directory_in-some, directory_in-text}
use Rattle.file_format.proofs.FileDocuments.{document_at-valid, directory_of-kept, document_at-kept, directory_of-newer, document_at-newer, if_typed-is}
use Rattle.file_format.proofs.law.file_law.Goals as goal

pub returns : goal.returns
returns c = record {
  body = body_of-some;
  body_back = body_of-image;
  typed = λ b typed. if_typed-is b.attributes.heap_type b.body typed;
  slot_size = slot_size;
  slot_back = slot_of-text;
  directory_size = length-directory;
  directory_back = directory_read-text;
  directory = directory_in-some;
  directory_reads = directory_in-text;
  valid = document_at-valid;
  kept = λ version old new e d is keeps all. (directory_of-kept version old new e d is keeps all, document_at-kept version old new e d is keeps all);
  newer = λ version file e d older is. (directory_of-newer version file e d older is, document_at-newer version file e d older is);
}
