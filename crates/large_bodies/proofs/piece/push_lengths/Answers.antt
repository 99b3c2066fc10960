use Rattle.std.proofs.Common.{◌-◌, ◌++◌, ◌∷◌, [], ℕ, List, length, map, take, drop, ap, ◌∙◌, arith}
use Rattle.large_bodies.proofs.PieceLemmas.{element-weighs, more_lengths}
use Rattle.large_bodies.proofs.piece.push_lengths.Goals as goal

pub overflow_cast-element : goal.overflow_cast-element
overflow_cast-element c =
    let few = c.requires.room in
    let within = c.requires.within in
    let up = c.loop-i.auto.i in
    let test = c.loop-i-test.true in
    let one = element-weighs c.args.view.now.array.size c.args.from (c.args.to - c.args.from) c.loop-i.i c.args.view.now.array.elements (omega arith) (omega arith) (omega arith) in
    let is = ap length c.element_from-next.ensures.bytes in
    omega arith

pub loop-i-preserved : goal.loop-i-preserved
loop-i-preserved c =
    let within = c.requires.within in
    let up = c.loop-i.auto.i in
    let test = c.loop-i-test.true in
    let room = c.loop-i.invariant.2 in
    let long = c.push_reserved.ensures.len in
    let same = c.push_reserved.ensures.capacity in (
      c.element_from-next.ensures.next,
      c.push_reserved.ensures.items
          ∙ ap (λ (ns : List ℕ). ns ++ length c.element_from-next.result.0.now ∷ []) c.loop-i.invariant.1
          ∙ ap (λ (x : List ℕ). (c.reserve.new.self.items ++ map length (take (c.loop-i.i - c.args.from) (drop c.args.from c.args.view.now.array.elements))) ++ length x ∷ []) c.element_from-next.ensures.bytes
          ∙ more_lengths c.reserve.new.self.items c.args.from c.loop-i.i c.args.view.now.array.elements up (omega arith),
      omega arith,
    )
