use Rattle.std.proofs.Common.{arith}
use Rattle.large_bodies.proofs.RootRuns.{room, counts_part}
use Rattle.large_bodies.proofs.root.RootView.count_bytes.Goals as goal

pub overflow_mul-result : goal.overflow_mul-result
overflow_mul-result c = (let has = room c.self.inside c.self.invariant c.args.self.now c.self.view_is in let in_list = c.requires in omega arith)

pub overflow_add-result : goal.overflow_add-result
overflow_add-result c = (let has = room c.self.inside c.self.invariant c.args.self.now c.self.view_is in let in_list = c.requires in omega arith)

pub overflow_mul-result-2 : goal.overflow_mul-result-2
overflow_mul-result-2 c = (let has = room c.self.inside c.self.invariant c.args.self.now c.self.view_is in let in_list = c.requires in omega arith)

pub overflow_add-result-2 : goal.overflow_add-result-2
overflow_add-result-2 c = (let has = room c.self.inside c.self.invariant c.args.self.now c.self.view_is in let in_list = c.requires in omega arith)

pub slice_bounds-result-end : goal.slice_bounds-result-end
slice_bounds-result-end c = (let has = room c.self.inside c.self.invariant c.args.self.now c.self.view_is in let in_list = c.requires in omega arith)

pub returns : goal.returns
returns c = counts_part c.self.inside c.self.invariant c.args.self.now c.self.view_is c.args.from c.args.to c.requires.order c.requires.within
