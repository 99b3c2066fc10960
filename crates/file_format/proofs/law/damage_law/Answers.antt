use Rattle.file_format.proofs.DamagedFiles.{documents_same, file_told}
use Rattle.file_format.proofs.DamagedSlots.{open_same}
use Rattle.file_format.proofs.law.damage_law.Goals as goal

pub returns : goal.returns
returns c = record {
  slot = open_same;
  documents = documents_same;
  told = file_told;
}
