use Rattle.std.proofs.Common.{◌≤◌, length, subst, arith}
use Rattle.vm_blocks.specs.Frames.{residents}
use Rattle.vm_blocks.specs.State.{CacheState}
use Rattle.vm_blocks.proofs.OrderOfUse.{has_victim, residents-length}
use Rattle.vm_blocks.proofs.CallAfterCall.{stays_none}
use Rattle.vm_blocks.proofs.file_blocks.FileBlocks.make_room.Goals as goal

pub returns-in_err-new-clause-stays : goal.returns-in_err-new-clause-stays
returns-in_err-new-clause-stays g c = stays_none g.S.Store.facts c.args.self.now

pub returns-then-len-get-clause-stays : goal.returns-then-len-get-clause-stays
returns-then-len-get-clause-stays g c = stays_none g.S.Store.facts c.args.self.now

pub evict-requires : goal.evict-requires
evict-requires g c =
    let es = c.self.inside.frames.entries in
    let full : c.self.inside.frames.cap ≤ length (residents es) = omega (arith, residents-length es, c.len.ensures.len, c.cap.ensures, c.get.ensures.value) in
    has_victim c.args.self.now.frames c.args.self.now.resident (subst (λ (s : CacheState g.row.S.Denot). s.frames ≤ length s.resident) c.self.view_is full) c.requires
