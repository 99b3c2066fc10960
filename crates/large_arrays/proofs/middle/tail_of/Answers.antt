use Rattle.std.proofs.Common.{◌-◌, ◌<◌, length, inr, arith}
use Rattle.vm_chains.proofs.Loading.{carried}
use Rattle.large_arrays.specs.Bodies.{bytes_of_bodies}
use Rattle.large_arrays.proofs.SpotRuns.{run-is}
use Rattle.large_arrays.proofs.RunReads.{bodies-many, bytes-many, tail-in, tail-is}
use Rattle.large_arrays.proofs.middle.tail_of.Goals as goal

pub overflow_sub-last : goal.overflow_sub-last
overflow_sub-last c = let all = bodies-many c.args.spot.now (run-is c.args.spot.now c.requires.run) c.args.bodies.now c.requires.many in omega arith

pub part_of-requires-clause-order : goal.part_of-requires-clause-order
part_of-requires-clause-order c =
    let s = c.args.spot.now in let has = run-is s c.requires.run in
    let all = bodies-many s has c.args.bodies.now c.requires.many in
    let low = tail-in s has c.args.bodies.now c.requires.many 0 c.args.first.now.array (omega arith) c.requires.first in
    omega (arith, c.count.ensures)

pub returns-then-last-eq0 : goal.returns-then-last-eq0
returns-then-last-eq0 c =
    let s = c.args.spot.now in let has = run-is s c.requires.run in
    let all = bodies-many s has c.args.bodies.now c.requires.many in
    tail-is s has c.args.bodies.now c.requires.many 0 c.args.first.now.array c.in_ok-part_of.field-0 c.count.result (omega arith) c.requires.first c.count.ensures c.in_ok-part_of.ensures

pub returns-in_err-view : goal.returns-in_err-view
returns-in_err-view c =
    let s = c.args.spot.now in let has = run-is s c.requires.run in
    let all = bodies-many s has c.args.bodies.now c.requires.many in
    let long = bytes-many s has c.args.bodies.now c.requires.many in
    let bad = c.in_err-view.ensures in
    carried c.from_residual-in_err-view.result c.in_err-view.field-0.0 _ _ c.from_residual-in_err-view.ensures.1
    (inr (bad.0, (length c.args.bodies.now - 1, (let low : length c.args.bodies.now - 1 < length (bytes_of_bodies c.args.bodies.now) = omega arith in low), bad.1)))

pub part_of-requires-2-clause-order : goal.part_of-requires-2-clause-order
part_of-requires-2-clause-order c =
    let s = c.args.spot.now in let has = run-is s c.requires.run in
    let all = bodies-many s has c.args.bodies.now c.requires.many in
    let low = tail-in s has c.args.bodies.now c.requires.many (length c.args.bodies.now - 1) c.in_ok-view.view.array (omega arith) c.in_ok-view.ensures in
    omega (arith, c.count-2.ensures)

pub returns : goal.returns
returns c =
    let s = c.args.spot.now in let has = run-is s c.requires.run in
    let all = bodies-many s has c.args.bodies.now c.requires.many in
    tail-is s has c.args.bodies.now c.requires.many (length c.args.bodies.now - 1) c.in_ok-view.view.array c.in_ok-part_of-2.field-0 c.count-2.result (omega arith) c.in_ok-view.ensures c.count-2.ensures c.in_ok-part_of-2.ensures
