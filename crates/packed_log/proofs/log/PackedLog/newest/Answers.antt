use Rattle.std.proofs.Common.{◌-◌, Some, length, sym, ap, ◌∙◌}
use Rattle.std.specs.List.{slice_get}
use Rattle.packed_log.specs.declared.mark.Mark.TheVariants as mark
use Rattle.packed_log.specs.Records.{PackedLog, Record, Short, Whole, all_wholes}
use Rattle.packed_log.specs.Settled.{all_bytes}
use Rattle.packed_log.proofs.LogLemmas.{first_is, fit_bytes, newest_by, same_last, short_read, whole_marked, whole_read, whole_there}
use Rattle.packed_log.proofs.log.PackedLog.newest.Goals as goal

pub newest-requires : goal.newest-requires
newest-requires g c =
    let p = c.self.inside in let m = p.marks in let b = p.bytes in let w = p.wholes in let are = c.self.invariant in
    let read = c.in_ok-len.ensures.value ∙ ap (λ ms. slice_get ms (length ms - 1)) c.before-2.ensures in
    let n = newest_by m b w are c.in_ok-len.field-0.now read in
    let same = same_last m b w are n c.in_ok-len.field-0.now read in
    fit_bytes m b w are n (mark.Short c.in-Short.len c.in-Short.head) (sym c.in-Short.is ∙ same)

pub last-requires-in-Whole : goal.last-requires-in-Whole
last-requires-in-Whole g c =
    let p = c.self.inside in let m = p.marks in let b = p.bytes in let w = p.wholes in let are = c.self.invariant in
    let read = c.in_ok-len.ensures.value ∙ ap (λ ms. slice_get ms (length ms - 1)) c.before-2.ensures in
    let n = newest_by m b w are c.in_ok-len.field-0.now read in
    let same = same_last m b w are n c.in_ok-len.field-0.now read in
    let whole = whole_marked n.newest (sym c.in-Whole.is ∙ same) in
    whole_there n.newest whole.0 (all_wholes n.front) w.before whole.1 n.at_end.in_wholes

pub returns-in-Short-clause-first : goal.returns-in-Short-clause-first
returns-in-Short-clause-first g c =
    let p = c.self.inside in let m = p.marks in let b = p.bytes in let w = p.wholes in let are = c.self.invariant in
    let read = c.in_ok-len.ensures.value ∙ ap (λ ms. slice_get ms (length ms - 1)) c.before-2.ensures in
    let n = newest_by m b w are c.in_ok-len.field-0.now read in
    let same = same_last m b w are n c.in_ok-len.field-0.now read in
    let lies = short_read c.in-Short.len c.in-Short.head n.newest (all_bytes n.front) b.before (sym c.in-Short.is ∙ same) n.at_end.in_bytes in
    ap (λ bs. Some (Short c.in-Short.head bs)) c.newest.ensures ∙ ap (λ (r : Record g.row.H.Denot g.row.W.Denot). Some r) lies ∙ sym (first_is m b w are n)
    ∙ ap (λ (l : PackedLog g.row.H.Denot g.row.W.Denot). slice_get l.before 0) c.self.view_is

pub returns-in-Whole-clause-first : goal.returns-in-Whole-clause-first
returns-in-Whole-clause-first g c =
    let p = c.self.inside in let m = p.marks in let b = p.bytes in let w = p.wholes in let are = c.self.invariant in
    let read = c.in_ok-len.ensures.value ∙ ap (λ ms. slice_get ms (length ms - 1)) c.before-2.ensures in
    let n = newest_by m b w are c.in_ok-len.field-0.now read in
    let same = same_last m b w are n c.in_ok-len.field-0.now read in
    let whole = whole_marked n.newest (sym c.in-Whole.is ∙ same) in
    let lies = whole_read n.newest whole.0 c.last-in-Whole.result.now (all_wholes n.front) w.before whole.1 n.at_end.in_wholes c.last-in-Whole.ensures in
    ap (λ v. Some (Whole v)) lies ∙ ap (λ (r : Record g.row.H.Denot g.row.W.Denot). Some r) (sym whole.1) ∙ sym (first_is m b w are n)
    ∙ ap (λ (l : PackedLog g.row.H.Denot g.row.W.Denot). slice_get l.before 0) c.self.view_is
