use Rattle.std.proofs.Common.{nat_le, ap, sym, ◌∙◌}
use Rattle.vm_blocks.specs.State.{CacheState, all_frames_locked}
use Rattle.vm_blocks.proofs.KeepingLaws.{full-is}
use Rattle.vm_blocks.proofs.file_blocks.FileBlocks.all_locked.Goals as goal

pub returns : goal.returns
returns g c =
    let s = c.self.inside in
    ap (λ n. nat_le n s.locked) (c.get.ensures.value ∙ c.cap.ensures) ∙ ap (nat_le s.frames.cap) c.self.invariant.1
    ∙ ap (λ (t : CacheState g.row.S.Denot). all_frames_locked t.frames t.resident) c.self.view_is ∙ sym (full-is c.args.self.now)
