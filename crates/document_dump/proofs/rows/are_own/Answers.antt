use Rattle.std.proofs.Common.{◌≡◌, ◌&&◌, ◌-◌, ◌+◌, ◌<◌, Bool, length, sym, ap, ◌∙◌, arith}
use Rattle.std.specs.List.{list_all, range_with_len}
use Rattle.document_dump.specs.Rows.{is_own}
use Rattle.document_dump.proofs.RowsMade.{all_next, all_none, own_all}
use Rattle.document_dump.proofs.rows.are_own.Goals as goal

pub loop-t-init : goal.loop-t-init
loop-t-init c = own_all c.args.skip c.args.slots.now.slots

pub loop-t-preserved : goal.loop-t-preserved
loop-t-preserved c =
    let s = c.args.slots.now.slots in
    let t = c.loop-t.t in
    let n = length s.slots in
    let below : t < n = omega arith in
    c.loop-t.invariant ∙ all_next (is_own c.args.skip s) t n below
    ∙ ap (λ (b : Bool). b && list_all (is_own c.args.skip s) (range_with_len (t + 1) (n - (t + 1)))) (sym c.is_own.ensures ∙ c.if-not-is_own.false)
