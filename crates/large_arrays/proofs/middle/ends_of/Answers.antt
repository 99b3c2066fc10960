use Rattle.std.proofs.Common.{◌<◌, length, inr, arith}
use Rattle.vm_chains.proofs.Loading.{carried}
use Rattle.large_arrays.specs.Bodies.{bytes_of_bodies}
use Rattle.large_arrays.proofs.SpotRuns.{run-is}
use Rattle.large_arrays.proofs.RunReads.{all-read, bodies-many, bytes-many, head-in, head-is}
use Rattle.large_arrays.proofs.middle.ends_of.Goals as goal

pub run_branch-requires-clause-within : goal.run_branch-requires-clause-within
run_branch-requires-clause-within c = let all = bodies-many c.args.spot.now (run-is c.args.spot.now c.requires.run) c.args.bodies.now c.requires.many in omega arith

pub returns-in_err-first : goal.returns-in_err-first
returns-in_err-first c =
    let s = c.args.spot.now in let has = run-is s c.requires.run in
    let all = bodies-many s has c.args.bodies.now c.requires.many in
    let long = bytes-many s has c.args.bodies.now c.requires.many in
    let bad = c.in_err-first.ensures in
    carried c.from_residual.result c.in_err-first.field-0.0 _ _ c.from_residual.ensures.1
    (inr (bad.0, (0, (let low : 0 < length (bytes_of_bodies c.args.bodies.now) = omega arith in low), bad.1)))

pub part_of-requires-clause-within : goal.part_of-requires-clause-within
part_of-requires-clause-within c =
    let s = c.args.spot.now in
    head-in s (run-is s c.requires.run) c.args.bodies.now c.requires.many c.in_ok-first.first.array c.in_ok-first.ensures

pub returns : goal.returns
returns c =
    let s = c.args.spot.now in let has = run-is s c.requires.run in let bodies = c.args.bodies.now in let many = c.requires.many in
    let first = c.in_ok-first.first.array in let is = c.in_ok-first.ensures in
    record {
      read = all-read s has bodies many first.elements is.read c.in_ok-test_between.ensures c.in_ok-tail.tail c.in_ok-tail.ensures;
      head = head-is s has bodies many first c.in_ok-head.head is c.in_ok-head.ensures;
      tail = c.in_ok-tail.ensures;
    }
