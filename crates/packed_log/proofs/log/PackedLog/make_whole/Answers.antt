use Rattle.std.proofs.Common.{◌≤◌, ◌∷◌, ◌++◌, [], drop, length, sym, ap, subst, ◌∙◌}
use Rattle.packed_log.specs.Records.{PackedLog, Whole}
use Rattle.packed_log.specs.Settled.{records_of}
use Rattle.packed_log.proofs.LogLemmas.{StepsBack, fit_bytes, fit_lifted, is_settled, made_whole, newest_in, newest_short, rest_is, reversed_last, same_mark, short_some, told_before, told_behind}
use Rattle.packed_log.proofs.log.PackedLog.make_whole.Goals as goal

pub step_back-requires : goal.step_back-requires
step_back-requires g c =
    let p = c.self.inside in let m = p.marks in let b = p.bytes in let w = p.wholes in let are = c.self.invariant in
    let n = newest_in m b w are c.args.self.now c.self.view_is (short_some c.args.self.now.before c.requires) in
    let k = c.replace_newest-mark.result in
    let same = same_mark m b w are n k c.replace_newest-mark.ensures.newest in
    subst (λ j. j ≤ length b.before) (sym c.bytes-count.ensures) (fit_bytes m b w are n k same)

pub remove_next-requires : goal.remove_next-requires
remove_next-requires g c =
    let p = c.self.inside in let m = p.marks in let b = p.bytes in let w = p.wholes in let are = c.self.invariant in
    let n = newest_in m b w are c.args.self.now c.self.view_is (short_some c.args.self.now.before c.requires) in
    let k = c.replace_newest-mark.result in
    let same = same_mark m b w are n k c.replace_newest-mark.ensures.newest in
    let short = newest_short m b w are n c.args.self.now c.self.view_is c.requires in
    let back : StepsBack c.bytes-count.result b c.step_back.new.self = record { before = c.step_back.ensures.before; behind = c.step_back.ensures.behind } in
    fit_lifted m b w are n short k same c.bytes-count.result c.bytes-count.ensures c.step_back.new.self back

pub invariant_of-self-2 : goal.invariant_of-self-2
invariant_of-self-2 g c =
    let p = c.self.inside in let m = p.marks in let b = p.bytes in let w = p.wholes in let are = c.self.invariant in
    let n = newest_in m b w are c.args.self.now c.self.view_is (short_some c.args.self.now.before c.requires) in
    let k = c.replace_newest-mark.result in
    let same = same_mark m b w are n k c.replace_newest-mark.ensures.newest in
    let short = newest_short m b w are n c.args.self.now c.self.view_is c.requires in
    let back : StepsBack c.bytes-count.result b c.step_back.new.self = record { before = c.step_back.ensures.before; behind = c.step_back.ensures.behind } in
    let log = made_whole m b w are n short k same c.bytes-count.result c.bytes-count.ensures c.step_back.new.self back c.args.whole c.replace_newest-mark.new.self c.remove_next.new.self c.insert.new.self
    c.replace_newest-mark.ensures.row c.remove_next.ensures.before c.remove_next.ensures.behind c.in_ok-insert.ensures.before c.in_ok-insert.ensures.behind in
    let front = n.front ++ Whole c.args.whole ∷ [] in let behind = records_of m.behind b.behind w.behind in
    is_settled c.replace_newest-mark.new.self c.remove_next.new.self c.insert.new.self front behind log

pub returns-clause-before : goal.returns-clause-before
returns-clause-before g c =
    let p = c.self.inside in let m = p.marks in let b = p.bytes in let w = p.wholes in let are = c.self.invariant in
    let n = newest_in m b w are c.args.self.now c.self.view_is (short_some c.args.self.now.before c.requires) in
    let k = c.replace_newest-mark.result in
    let same = same_mark m b w are n k c.replace_newest-mark.ensures.newest in
    let short = newest_short m b w are n c.args.self.now c.self.view_is c.requires in
    let back : StepsBack c.bytes-count.result b c.step_back.new.self = record { before = c.step_back.ensures.before; behind = c.step_back.ensures.behind } in
    let log = made_whole m b w are n short k same c.bytes-count.result c.bytes-count.ensures c.step_back.new.self back c.args.whole c.replace_newest-mark.new.self c.remove_next.new.self c.insert.new.self
    c.replace_newest-mark.ensures.row c.remove_next.ensures.before c.remove_next.ensures.behind c.in_ok-insert.ensures.before c.in_ok-insert.ensures.behind in
    let front = n.front ++ Whole c.args.whole ∷ [] in let behind = records_of m.behind b.behind w.behind in
    told_before c.replace_newest-mark.new.self c.remove_next.new.self c.insert.new.self front behind log
    ∙ reversed_last n.front (Whole c.args.whole) ∙ ap (λ rs. Whole c.args.whole ∷ rs) (sym (rest_is m b w are n))
    ∙ ap (λ (l : PackedLog g.row.H.Denot g.row.W.Denot). Whole c.args.whole ∷ drop 1 l.before) c.self.view_is

pub returns-clause-behind : goal.returns-clause-behind
returns-clause-behind g c =
    let p = c.self.inside in let m = p.marks in let b = p.bytes in let w = p.wholes in let are = c.self.invariant in
    let n = newest_in m b w are c.args.self.now c.self.view_is (short_some c.args.self.now.before c.requires) in
    let k = c.replace_newest-mark.result in
    let same = same_mark m b w are n k c.replace_newest-mark.ensures.newest in
    let short = newest_short m b w are n c.args.self.now c.self.view_is c.requires in
    let back : StepsBack c.bytes-count.result b c.step_back.new.self = record { before = c.step_back.ensures.before; behind = c.step_back.ensures.behind } in
    let log = made_whole m b w are n short k same c.bytes-count.result c.bytes-count.ensures c.step_back.new.self back c.args.whole c.replace_newest-mark.new.self c.remove_next.new.self c.insert.new.self
    c.replace_newest-mark.ensures.row c.remove_next.ensures.before c.remove_next.ensures.behind c.in_ok-insert.ensures.before c.in_ok-insert.ensures.behind in
    let front = n.front ++ Whole c.args.whole ∷ [] in let behind = records_of m.behind b.behind w.behind in
    told_behind c.replace_newest-mark.new.self c.remove_next.new.self c.insert.new.self front behind log
    ∙ ap (λ (l : PackedLog g.row.H.Denot g.row.W.Denot). l.behind) c.self.view_is
