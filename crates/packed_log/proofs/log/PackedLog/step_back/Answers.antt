use Rattle.std.proofs.Common.{◌≤◌, ◌∷◌, ◌++◌, length, take, drop, sym, ap, subst, ◌∙◌}
use Rattle.packed_log.specs.Records.{PackedLog}
use Rattle.packed_log.specs.Settled.{records_of}
use Rattle.packed_log.proofs.LogLemmas.{fit_bytes, fit_wholes, head_is, is_settled, newest_in, rest_is, same_mark, stepped_back, told_before, told_behind}
use Rattle.packed_log.proofs.log.PackedLog.step_back.Goals as goal

pub step_back-requires-2 : goal.step_back-requires-2
step_back-requires-2 g c =
    let p = c.self.inside in let m = p.marks in let b = p.bytes in let w = p.wholes in let are = c.self.invariant in
    let n = newest_in m b w are c.args.self.now c.self.view_is c.requires in
    let same = same_mark m b w are n c.last-mark.result.now c.last-mark.ensures in
    subst (λ j. j ≤ length b.before) (sym c.bytes.ensures) (fit_bytes m b w are n c.last-mark.result.now same)

pub step_back-requires-3 : goal.step_back-requires-3
step_back-requires-3 g c =
    let p = c.self.inside in let m = p.marks in let b = p.bytes in let w = p.wholes in let are = c.self.invariant in
    let n = newest_in m b w are c.args.self.now c.self.view_is c.requires in
    let same = same_mark m b w are n c.last-mark.result.now c.last-mark.ensures in
    subst (λ j. j ≤ length w.before) (sym c.wholes.ensures) (fit_wholes m b w are n c.last-mark.result.now same)

pub invariant_of-self : goal.invariant_of-self
invariant_of-self g c =
    let p = c.self.inside in let m = p.marks in let b = p.bytes in let w = p.wholes in let are = c.self.invariant in
    let n = newest_in m b w are c.args.self.now c.self.view_is c.requires in
    let same = same_mark m b w are n c.last-mark.result.now c.last-mark.ensures in
    let stepped = stepped_back m b w are n c.last-mark.result.now same c.step_back.new.self c.step_back-2.new.self c.step_back-3.new.self c.bytes.result c.wholes.result c.bytes.ensures c.wholes.ensures
    (record { before = c.step_back.ensures.before; behind = c.step_back.ensures.behind })
    (record { before = c.step_back-2.ensures.before; behind = c.step_back-2.ensures.behind })
    (record { before = c.step_back-3.ensures.before; behind = c.step_back-3.ensures.behind }) in
    let rest = records_of m.behind b.behind w.behind in
    is_settled c.step_back.new.self c.step_back-2.new.self c.step_back-3.new.self n.front (n.newest ∷ rest) stepped

pub returns-clause-before : goal.returns-clause-before
returns-clause-before g c =
    let p = c.self.inside in let m = p.marks in let b = p.bytes in let w = p.wholes in let are = c.self.invariant in
    let n = newest_in m b w are c.args.self.now c.self.view_is c.requires in
    let same = same_mark m b w are n c.last-mark.result.now c.last-mark.ensures in
    let stepped = stepped_back m b w are n c.last-mark.result.now same c.step_back.new.self c.step_back-2.new.self c.step_back-3.new.self c.bytes.result c.wholes.result c.bytes.ensures c.wholes.ensures
    (record { before = c.step_back.ensures.before; behind = c.step_back.ensures.behind })
    (record { before = c.step_back-2.ensures.before; behind = c.step_back-2.ensures.behind })
    (record { before = c.step_back-3.ensures.before; behind = c.step_back-3.ensures.behind }) in
    let rest = records_of m.behind b.behind w.behind in
    told_before c.step_back.new.self c.step_back-2.new.self c.step_back-3.new.self n.front (n.newest ∷ rest) stepped
    ∙ sym (rest_is m b w are n) ∙ ap (λ (l : PackedLog g.row.H.Denot g.row.W.Denot). drop 1 l.before) c.self.view_is

pub returns-clause-behind : goal.returns-clause-behind
returns-clause-behind g c =
    let p = c.self.inside in let m = p.marks in let b = p.bytes in let w = p.wholes in let are = c.self.invariant in
    let n = newest_in m b w are c.args.self.now c.self.view_is c.requires in
    let same = same_mark m b w are n c.last-mark.result.now c.last-mark.ensures in
    let stepped = stepped_back m b w are n c.last-mark.result.now same c.step_back.new.self c.step_back-2.new.self c.step_back-3.new.self c.bytes.result c.wholes.result c.bytes.ensures c.wholes.ensures
    (record { before = c.step_back.ensures.before; behind = c.step_back.ensures.behind })
    (record { before = c.step_back-2.ensures.before; behind = c.step_back-2.ensures.behind })
    (record { before = c.step_back-3.ensures.before; behind = c.step_back-3.ensures.behind }) in
    let rest = records_of m.behind b.behind w.behind in
    told_behind c.step_back.new.self c.step_back-2.new.self c.step_back-3.new.self n.front (n.newest ∷ rest) stepped
    ∙ ap (λ rs. rs ++ rest) (sym (head_is m b w are n)) ∙ ap (λ (l : PackedLog g.row.H.Denot g.row.W.Denot). take 1 l.before ++ l.behind) c.self.view_is
