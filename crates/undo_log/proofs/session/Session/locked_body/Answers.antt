use Rattle.std.proofs.Common.{◌<◌, subst}
use Rattle.vm_blocks.specs.State.{locks_of}
use Rattle.vm_blocks.proofs.KeepingLaws.{locked-loaded}
use Rattle.undo_log.proofs.session.Session.locked_body.Goals as goal

pub body-requires : goal.body-requires
body-requires g c =
    let some : 0 < locks_of c.self.inside.blocks.resident c.args.block.0 = subst (λ n. 0 < n) c.locks.ensures c.if-locks-gt0.true in
    locked-loaded c.self.inside.blocks c.args.block.0 c.reveal_invariant.ensures.resident some
