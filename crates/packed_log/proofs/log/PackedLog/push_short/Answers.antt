use Rattle.std.proofs.Common.{◌≡◌, [], ◌∷◌, ◌++◌, length, sym, ap, ◌∙◌}
use Rattle.std.proofs.lemmas.List.{append-nil, append_assoc, length-append}
use Rattle.packed_log.specs.declared.mark.Mark.TheVariants as mark
use Rattle.packed_log.specs.Records.{PackedLog, Short}
use Rattle.packed_log.specs.Settled.{records_of}
use Rattle.packed_log.proofs.LogLemmas.{is_settled, none_behind, pushed, reversed_last, told_before}
use Rattle.packed_log.proofs.log.PackedLog.push_short.Goals as goal

pub invariant_of-self-2 : goal.invariant_of-self-2
invariant_of-self-2 g c =
    let p = c.self.inside in let m = p.marks in let b = p.bytes in let w = p.wholes in let are = c.self.invariant in
    let none = none_behind m b w are c.args.self.now c.self.view_is c.requires.none in
    let front = records_of m.before b.before w.before in
    let r = Short c.args.head (c.args.first.now ++ c.args.second.now) in
    let len : c.in-Ok.len ≡ length (c.args.first.now ++ c.args.second.now) = c.in-Ok.ensures.1 ∙ sym (length-append c.args.first.now c.args.second.now) in
    let marks = c.push.ensures.before ∙ ap (λ k. m.before ++ mark.Short k c.args.head ∷ []) len in
    let bytes = c.extend-2.ensures.before ∙ ap (λ bs. bs ++ c.args.second.now) (c.extend.ensures.before ∙ ap (λ bs. bs ++ c.args.first.now) c.reserve.ensures.before)
    ∙ append_assoc b.before c.args.first.now c.args.second.now in
    let log = pushed m b w are r c.push.new.self c.extend-2.new.self w marks bytes (sym (append-nil w.before))
    (record { marked = c.push.ensures.behind; in_bytes = c.extend-2.ensures.behind; in_wholes = none.in_wholes }) in
    is_settled c.push.new.self c.extend-2.new.self w (front ++ r ∷ []) [] log

pub returns-clause-before : goal.returns-clause-before
returns-clause-before g c =
    let p = c.self.inside in let m = p.marks in let b = p.bytes in let w = p.wholes in let are = c.self.invariant in
    let none = none_behind m b w are c.args.self.now c.self.view_is c.requires.none in
    let front = records_of m.before b.before w.before in
    let r = Short c.args.head (c.args.first.now ++ c.args.second.now) in
    let len : c.in-Ok.len ≡ length (c.args.first.now ++ c.args.second.now) = c.in-Ok.ensures.1 ∙ sym (length-append c.args.first.now c.args.second.now) in
    let marks = c.push.ensures.before ∙ ap (λ k. m.before ++ mark.Short k c.args.head ∷ []) len in
    let bytes = c.extend-2.ensures.before ∙ ap (λ bs. bs ++ c.args.second.now) (c.extend.ensures.before ∙ ap (λ bs. bs ++ c.args.first.now) c.reserve.ensures.before)
    ∙ append_assoc b.before c.args.first.now c.args.second.now in
    let log = pushed m b w are r c.push.new.self c.extend-2.new.self w marks bytes (sym (append-nil w.before))
    (record { marked = c.push.ensures.behind; in_bytes = c.extend-2.ensures.behind; in_wholes = none.in_wholes }) in
    told_before c.push.new.self c.extend-2.new.self w (front ++ r ∷ []) [] log
    ∙ reversed_last front r ∙ ap (λ (l : PackedLog g.row.H.Denot g.row.W.Denot). r ∷ l.before) c.self.view_is
