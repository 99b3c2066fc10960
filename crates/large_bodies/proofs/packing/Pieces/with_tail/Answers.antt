use Rattle.std.proofs.Common.{◌∙◌, arith}
use Rattle.large_bodies.proofs.PackingLemmas.{tail-joined, tail-apart}
use Rattle.large_bodies.proofs.packing.Pieces.with_tail.Goals as goal
use Rattle.large_bodies.proofs.packing.Pieces.with_tail.Goals.{then-weight-room+in_ok-append+in_ok-push-2, else-weight-room+in_ok-push-3+in_ok-push-4}

pub returns : goal.returns
returns c =
    let counted = c.count.ensures.value in
    let last = c.weight.ensures.value in
    let tail = c.weight-2.ensures.value in
    let any = c.if-count-eq0.false in
    elim c.if-weight-room.branch [
      | then-weight-room+in_ok-append+in_ok-push-2 w ↦
          (let test = w.if-weight-room.true in
          w.pieces-is
          ∙ tail-joined c.args.self c.pop.new.self w.push-then-weight-room.new.self c.in-Some.last w.append.new.self c.args.tail c.args.room c.pop.ensures.same
          c.in-Some.ensures.last.0 c.in-Some.ensures.last.1 c.requires.size (λ none. any (counted ∙ none)) (omega arith) w.in_ok-append.ensures w.in_ok-push-2.ensures)
      | else-weight-room+in_ok-push-3+in_ok-push-4 w ↦
          (let test = w.if-weight-room.false in
          w.pieces-is
          ∙ tail-apart c.args.self c.pop.new.self w.push-else-weight-room.new.self w.push-else-weight-room-2.new.self c.in-Some.last c.args.tail c.args.room c.pop.ensures.same
          c.in-Some.ensures.last.0 c.in-Some.ensures.last.1 c.requires.size (λ none. any (counted ∙ none)) (omega arith) w.in_ok-push-3.ensures w.in_ok-push-4.ensures)
    ]
