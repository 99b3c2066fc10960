use Rattle.std.proofs.Common.{◌≡◌, ◌≤◌, ◌*◌, take}
use Rattle.geos_model.specs.Cost.{images_length}
use Rattle.file_format.specs.File.{longest_image}
use Rattle.document_file.specs.Members.{imaged_blocks}
use Rattle.vm_blocks.proofs.member.Members.weight.Given as goal

abbrev pub invariant-loop-member : goal.invariant-loop-member
invariant-loop-member l = record {
  total : l.total ≡ images_length (imaged_blocks (take l.member-index l.self.list.items));
  small : l.total ≤ longest_image * l.member-index;
}
