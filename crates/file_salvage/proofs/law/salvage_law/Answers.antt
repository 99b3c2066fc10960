use Rattle.file_salvage.proofs.BesideLemmas.{whole_kept}
use Rattle.file_salvage.proofs.LawsLemmas.{taken_complete, taken_had, taken_sound}
use Rattle.file_salvage.proofs.law.salvage_law.Goals as goal

pub returns : goal.returns
returns c = record {
  had = λ all file version bytes. taken_had file version bytes all;
  sound = λ all file version bytes. taken_sound file version bytes all;
  complete = λ all file version bytes i. taken_complete file version bytes all i;
  kept = whole_kept;
}
