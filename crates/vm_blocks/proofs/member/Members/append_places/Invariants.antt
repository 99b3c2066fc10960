use Rattle.std.proofs.Common.{◌≡◌, ◌++◌, take}
use Rattle.vm_blocks.specs.ChangePlaces.{member_places}
use Rattle.vm_blocks.proofs.member.Members.append_places.Given as goal

abbrev pub invariant-loop-member : goal.invariant-loop-member
invariant-loop-member l =
    l.places.items ≡ l.initial.places.items ++ member_places (take l.member-index l.self.list.items)
