use Rattle.std.proofs.Common.{sym, ap, ◌∙◌, [], ◌∷◌, length, arith, length-append}
use Rattle.buffer_pool.specs.Seats.{seated}
use Rattle.buffer_pool.proofs.SeatLemmas.{seated-push}
use Rattle.buffer_pool.proofs.iter.IterDoubleEndedIterator.next_back.Goals as goal

pub returns-clause-steps : goal.returns-clause-steps
returns-clause-steps g c =
    let i = c.self.inside in
    sym c.self.view_is ∙ ap (seated i.values.now) c.in_ok-key.ensures.steps
    ∙ seated-push i.values.now c.next_back.new.self (c.in_ok-key.key.now, c.in_ok-key.slot.now) c.index.result.now c.index.ensures

pub returns-clause-goes : goal.returns-clause-goes
returns-clause-goes g c =
    let i = c.self.inside in
    let fewer = ap length (returns-clause-steps g c) ∙ length-append (seated i.values.now c.next_back.new.self) ((c.in_ok-key.key.now, c.index.result.now) ∷ []) in
    record { on = λ _. (tt, tt, omega (arith, fewer)); keeps = tt; rests = λ _. tt }
