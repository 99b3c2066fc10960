use Rattle.std.proofs.Common.{◌∷◌, ◌++◌, [], Some, drop, sym, ap, ◌∙◌}
use Rattle.std.specs.List.{slice_get}
use Rattle.packed_log.specs.Records.{PackedLog, Record, Whole, all_wholes}
use Rattle.packed_log.specs.Settled.{records_of}
use Rattle.packed_log.proofs.LogLemmas.{exchanged, exchanged_log, first_is, is_settled, newest_in, newest_whole, whole_read, whole_some, whole_there}
use Rattle.packed_log.proofs.log.PackedLog.replace_newest.Goals as goal

pub replace_newest-requires : goal.replace_newest-requires
replace_newest-requires g c =
    let p = c.self.inside in let m = p.marks in let b = p.bytes in let w = p.wholes in let are = c.self.invariant in
    let n = newest_in m b w are c.args.self.now c.self.view_is (whole_some c.args.self.now.before c.requires) in
    let whole = newest_whole m b w are n c.args.self.now c.self.view_is c.requires in
    whole_there n.newest whole.0 (all_wholes n.front) w.before whole.1 n.at_end.in_wholes

pub invariant_of-self : goal.invariant_of-self
invariant_of-self g c =
    let p = c.self.inside in let m = p.marks in let b = p.bytes in let w = p.wholes in let are = c.self.invariant in
    let n = newest_in m b w are c.args.self.now c.self.view_is (whole_some c.args.self.now.before c.requires) in
    let whole = newest_whole m b w are n c.args.self.now c.self.view_is c.requires in
    is_settled m b c.replace_newest.new.self (n.front ++ Whole c.args.whole ∷ []) (records_of m.behind b.behind w.behind)
    (exchanged m b w are n whole.0 whole.1 c.args.whole c.replace_newest.new.self c.replace_newest.ensures.row)

pub returns-clause-value : goal.returns-clause-value
returns-clause-value g c =
    let p = c.self.inside in let m = p.marks in let b = p.bytes in let w = p.wholes in let are = c.self.invariant in
    let n = newest_in m b w are c.args.self.now c.self.view_is (whole_some c.args.self.now.before c.requires) in
    let whole = newest_whole m b w are n c.args.self.now c.self.view_is c.requires in
    let lies = whole_read n.newest whole.0 c.replace_newest.result (all_wholes n.front) w.before whole.1 n.at_end.in_wholes c.replace_newest.ensures.newest in
    ap (λ v. Some (Whole v)) lies ∙ ap (λ (r : Record g.row.H.Denot g.row.W.Denot). Some r) (sym whole.1) ∙ sym (first_is m b w are n)
    ∙ ap (λ (l : PackedLog g.row.H.Denot g.row.W.Denot). slice_get l.before 0) c.self.view_is

pub returns-clause-log : goal.returns-clause-log
returns-clause-log g c =
    let p = c.self.inside in let m = p.marks in let b = p.bytes in let w = p.wholes in let are = c.self.invariant in
    let n = newest_in m b w are c.args.self.now c.self.view_is (whole_some c.args.self.now.before c.requires) in
    let whole = newest_whole m b w are n c.args.self.now c.self.view_is c.requires in
    exchanged_log m b w are n whole.0 whole.1 c.args.whole c.replace_newest.new.self c.replace_newest.ensures.row
    ∙ ap (λ (l : PackedLog g.row.H.Denot g.row.W.Denot). record l { before = Whole c.args.whole ∷ drop 1 l.before }) c.self.view_is
