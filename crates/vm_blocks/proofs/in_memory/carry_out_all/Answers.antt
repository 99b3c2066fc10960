use Rattle.vm_blocks.proofs.CarryingOut.{begins, goes_on, next_listed}
use Rattle.vm_blocks.proofs.in_memory.carry_out_all.Goals as goal

pub loop-rest-init : goal.loop-rest-init
loop-rest-init g c = begins c.args.direction c.args.changes.now c.args.blocks.now c.requires

pub is_reversible-requires : goal.is_reversible-requires
is_reversible-requires g c =
    next_listed c.args.direction c.args.changes.now c.args.blocks.now c.loop-rest.rest c.loop-rest.blocks c.loop-rest.invariant c.loop-rest-test.true c.index-changes-rest.result c.index-changes-rest.is

pub loop-rest-preserved : goal.loop-rest-preserved
loop-rest-preserved g c =
    goes_on c.args.direction c.args.changes.now c.args.blocks.now c.loop-rest.rest c.loop-rest.blocks c.loop-rest.invariant c.loop-rest-test.true c.index-changes-rest.result c.index-changes-rest.is
    c.carry_out.new.blocks (c.is_reversible.ensures.yes c.if-not-is_reversible.false) c.carry_out.ensures
