use Rattle.std.proofs.Common.{◌≡◌, drop}
use Rattle.std.specs.List.{list_any}
use Rattle.geos_model.specs.Document.{handles_of, is_live}
use Rattle.document_file.specs.Members.{imaged_blocks}
use Rattle.vm_blocks.proofs.bringing_in.has_live.Given as goal

-- what is left has a live one where all have
abbrev pub invariant-loop-member : goal.invariant-loop-member
invariant-loop-member g l =
    list_any (is_live l.blocks.document) (handles_of (imaged_blocks (drop l.member-index l.members.list.items)))
    ≡ list_any (is_live l.blocks.document) (handles_of (imaged_blocks l.members.list.items))
