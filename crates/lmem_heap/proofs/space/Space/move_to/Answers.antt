use Rattle.lmem_heap.proofs.EntryLemmas.{detached_well_formed}
use Rattle.lmem_heap.proofs.MovingLemmas.{same_size, resized_from}
use Rattle.lmem_heap.proofs.space.Space.move_to.Goals as goal

pub returns-clause-resized : goal.returns-clause-resized
returns-clause-resized c =
    let s = c.args.self.now in let u = c.prepare.new.self in let unmoved = c.prepare.ensures.unmoved in let last = c.push.ensures.unmoved in
    let same = same_size s u c.args.i (detached_well_formed c.requires.detached) (detached_well_formed c.prepare.ensures.detached) unmoved.slots unmoved.chunks c.requires.slot c.requires.live in
    resized_from s u c.exchange-p.new.self c.push.new.self c.args.i c.args.n unmoved.slots unmoved.total unmoved.chunks same.size c.exchange-p.ensures.resized last.slots last.total last.chunks
