use Rattle.std.proofs.Common.{◌∷◌, Some, sym, ap, ◌∙◌}
use Rattle.std.specs.List.{slice_get}
use Rattle.packed_log.specs.Records.{PackedLog, Record, Whole}
use Rattle.packed_log.specs.Settled.{records_of}
use Rattle.packed_log.proofs.LogLemmas.{is_settled, next_exchanged, next_in, next_read, next_some, next_whole, whole_some}
use Rattle.packed_log.proofs.log.PackedLog.replace_next.Goals as goal

pub replace_next-requires : goal.replace_next-requires
replace_next-requires g c =
    let p = c.self.inside in let m = p.marks in let b = p.bytes in let w = p.wholes in let are = c.self.invariant in
    let n = next_in m b w are c.args.self.now c.self.view_is (whole_some c.args.self.now.behind c.requires) in
    let whole = next_whole m b w are n c.args.self.now c.self.view_is c.requires in
    next_some m b w are n whole.0 whole.1

pub invariant_of-self : goal.invariant_of-self
invariant_of-self g c =
    let p = c.self.inside in let m = p.marks in let b = p.bytes in let w = p.wholes in let are = c.self.invariant in
    let n = next_in m b w are c.args.self.now c.self.view_is (whole_some c.args.self.now.behind c.requires) in
    let whole = next_whole m b w are n c.args.self.now c.self.view_is c.requires in
    is_settled m b c.replace_next.new.self (records_of m.before b.before w.before) (Whole c.args.whole ∷ n.rest)
    (next_exchanged m b w are n whole.0 whole.1 c.args.whole c.replace_next.new.self c.replace_next.ensures.row)

pub returns-clause-value : goal.returns-clause-value
returns-clause-value g c =
    let p = c.self.inside in let m = p.marks in let b = p.bytes in let w = p.wholes in let are = c.self.invariant in
    let n = next_in m b w are c.args.self.now c.self.view_is (whole_some c.args.self.now.behind c.requires) in
    let whole = next_whole m b w are n c.args.self.now c.self.view_is c.requires in
    ap (λ v. Some (Whole v)) (next_read m b w are n whole.0 whole.1 c.replace_next.result c.replace_next.ensures.next)
    ∙ ap (λ (r : Record g.row.H.Denot g.row.W.Denot). Some r) (sym whole.1) ∙ sym (ap (λ rs. slice_get rs 0) n.is)
    ∙ ap (λ (l : PackedLog g.row.H.Denot g.row.W.Denot). slice_get l.behind 0) c.self.view_is
