use Rattle.std.proofs.Common.{inr}
use Rattle.std.proofs.lemmas.Result.{err_from_is_err_and}
use Rattle.file_format.specs.Slots.{IsFoundSlot}
use Rattle.document_stat.proofs.Files.{refused_header}
use Rattle.document_stat.proofs.counting.choose_slot.Goals as goal

pub returns-in_err-check_slot-clause-err : goal.returns-in_err-check_slot-clause-err
returns-in_err-check_slot-clause-err g c =
    let file = (g.S.Store.facts c.args.store.now).content in
    let p = err_from_is_err_and c.from_residual-in_err-check_slot.result c.from_residual-in_err-check_slot.ensures.1 in
    rw (p.1, p.2) (λ so.
    let found : IsFoundSlot file c.in_ok-found.found = c.in_ok-found.ensures.found so in
    inr (refused_header file c.in_ok-found.found.slot _ found.long found.counts (c.in_err-check_slot.ensures.refused file)))
