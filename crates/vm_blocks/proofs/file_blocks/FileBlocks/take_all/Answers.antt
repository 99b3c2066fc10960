use Rattle.std.proofs.Common.{◌≡◌, ◌∙◌, rules}
use Rattle.vm_blocks.specs.State.{locks_of}
use Rattle.vm_blocks.proofs.ManyBlocks.{leaving_others, leaving_unlocked}
use Rattle.vm_blocks.proofs.file_blocks.FileBlocks.take_all.Goals as goal

pub take_one-requires-clause-other : goal.take_one-requires-clause-other
take_one-requires-clause-other g c = search (rules, leaving_others c.args.self.now.document c.args.members.now.list.items c.requires.leave)

pub take_one-requires-clause-unlocked : goal.take_one-requires-clause-unlocked
take_one-requires-clause-unlocked g c =
    let h = c.member-item.result.handle.0 in
    let old = c.args.self.now in
    let none : locks_of old.resident h ≡ 0 = search (rules, leaving_unlocked old.document c.args.members.now.list.items c.requires.leave old.resident c.requires.unlocked) in
    c.loop-member.invariant.locks.each h ∙ none
