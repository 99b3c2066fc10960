use Rattle.std.proofs.Common.{[], ◌∷◌, ◌++◌, sym, ap, ◌∙◌}
use Rattle.std.proofs.lemmas.List.{append-nil}
use Rattle.packed_log.specs.Records.{PackedLog, Whole}
use Rattle.packed_log.specs.Settled.{records_of}
use Rattle.packed_log.proofs.LogLemmas.{is_settled, none_behind, pushed, reversed_last, told_before}
use Rattle.packed_log.proofs.log.PackedLog.push_whole.Goals as goal

pub invariant_of-self : goal.invariant_of-self
invariant_of-self g c = let h = c.push.ensures in let h2 = c.push-2.ensures in
    let p = c.self.inside in let m = p.marks in let b = p.bytes in let w = p.wholes in let are = c.self.invariant in
    let none = none_behind m b w are c.args.self.now c.self.view_is c.requires.none in
    let front = records_of m.before b.before w.before in
    let r = Whole c.args.whole in
    let log = pushed m b w are r c.push-2.new.self b c.push.new.self c.push-2.ensures.before (sym (append-nil b.before)) c.push.ensures.before
    (record { marked = c.push-2.ensures.behind; in_bytes = none.in_bytes; in_wholes = c.push.ensures.behind }) in
    is_settled c.push-2.new.self b c.push.new.self (front ++ r ∷ []) [] log

pub returns-clause-before : goal.returns-clause-before
returns-clause-before g c =
    let p = c.self.inside in let m = p.marks in let b = p.bytes in let w = p.wholes in let are = c.self.invariant in
    let none = none_behind m b w are c.args.self.now c.self.view_is c.requires.none in
    let front = records_of m.before b.before w.before in
    let r = Whole c.args.whole in
    let log = pushed m b w are r c.push-2.new.self b c.push.new.self c.push-2.ensures.before (sym (append-nil b.before)) c.push.ensures.before
    (record { marked = c.push-2.ensures.behind; in_bytes = none.in_bytes; in_wholes = c.push.ensures.behind }) in
    told_before c.push-2.new.self b c.push.new.self (front ++ r ∷ []) [] log
    ∙ reversed_last front r ∙ ap (λ (l : PackedLog g.row.H.Denot g.row.W.Denot). r ∷ l.before) c.self.view_is
