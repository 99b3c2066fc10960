use Rattle.std.proofs.Common.{[], ◌∷◌, ◌++◌, reverse, take, sym, ap, ◌∙◌}
use Rattle.packed_log.specs.Records.{PackedLog}
use Rattle.packed_log.specs.Settled.{records_of}
use Rattle.packed_log.proofs.LogLemmas.{is_settled, next_in, reversed_last, same_next, stepped_forward, told_before}
use Rattle.packed_log.proofs.log.PackedLog.step_forward.Goals as goal

pub invariant_of-self : goal.invariant_of-self
invariant_of-self g c =
    let p = c.self.inside in let m = p.marks in let b = p.bytes in let w = p.wholes in let are = c.self.invariant in
    let n = next_in m b w are c.args.self.now c.self.view_is c.requires in
    let same = same_next m b w are n c.first-mark.result.now c.first-mark.ensures in
    let front = records_of m.before b.before w.before in
    let stepped = stepped_forward m b w are n c.first-mark.result.now same c.step_forward.new.self c.step_forward-2.new.self c.step_forward-3.new.self c.bytes.result c.wholes.result c.bytes.ensures c.wholes.ensures
    (record { before = c.step_forward.ensures.before; behind = c.step_forward.ensures.behind })
    (record { before = c.step_forward-2.ensures.before; behind = c.step_forward-2.ensures.behind })
    (record { before = c.step_forward-3.ensures.before; behind = c.step_forward-3.ensures.behind }) in
    is_settled c.step_forward.new.self c.step_forward-2.new.self c.step_forward-3.new.self (front ++ n.next ∷ []) n.rest stepped

pub returns-clause-before : goal.returns-clause-before
returns-clause-before g c =
    let p = c.self.inside in let m = p.marks in let b = p.bytes in let w = p.wholes in let are = c.self.invariant in
    let n = next_in m b w are c.args.self.now c.self.view_is c.requires in
    let same = same_next m b w are n c.first-mark.result.now c.first-mark.ensures in
    let front = records_of m.before b.before w.before in
    let stepped = stepped_forward m b w are n c.first-mark.result.now same c.step_forward.new.self c.step_forward-2.new.self c.step_forward-3.new.self c.bytes.result c.wholes.result c.bytes.ensures c.wholes.ensures
    (record { before = c.step_forward.ensures.before; behind = c.step_forward.ensures.behind })
    (record { before = c.step_forward-2.ensures.before; behind = c.step_forward-2.ensures.behind })
    (record { before = c.step_forward-3.ensures.before; behind = c.step_forward-3.ensures.behind }) in
    told_before c.step_forward.new.self c.step_forward-2.new.self c.step_forward-3.new.self (front ++ n.next ∷ []) n.rest stepped
    ∙ reversed_last front n.next ∙ ap (λ rs. rs ++ reverse front) (sym (ap (take 1) n.is))
    ∙ ap (λ (l : PackedLog g.row.H.Denot g.row.W.Denot). take 1 l.behind ++ l.before) c.self.view_is
