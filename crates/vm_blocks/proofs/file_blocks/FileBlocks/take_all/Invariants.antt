use Rattle.std.proofs.Common.{◌≡◌, drop}
use Rattle.geos_model.specs.Document.{handles_of, without_blocks}
use Rattle.document_file.specs.Members.{imaged_blocks}
use Rattle.vm_blocks.specs.State.{KeepsLocks}
use Rattle.vm_blocks.proofs.file_blocks.FileBlocks.take_all.Given as goal

-- what is left to be taken out leaves what was to be left
abbrev pub invariant-loop-member : goal.invariant-loop-member
invariant-loop-member g l = record {
  rest : without_blocks l.self.document (handles_of (imaged_blocks (drop l.member-index l.members.list.items))) ≡ without_blocks l.fn.self.document (handles_of (imaged_blocks l.members.list.items));
  map_block : l.self.document.map_block ≡ l.fn.self.document.map_block;
  disk : l.self.disk ≡ l.fn.self.disk;
  frames : l.self.frames ≡ l.fn.self.frames;
  locks : KeepsLocks l.fn.self.resident l.self.resident;
}
