use Rattle.std.proofs.Common.{Err, refl, sym, ap, subst, ◌∙◌}
use Rattle.std.specs.Prelude.{Result, IfErr}
use Rattle.std.proofs.lemmas.Result.{err_from_is_err_and}
use Rattle.vm_blocks.proofs.Marking.{on_err_always}
use Rattle.vm_blocks.specs.Changes.{directed_all}
use Rattle.vm_blocks.specs.Incoming.{IsObstacle, others}
use Rattle.vm_blocks.specs.Preparing.{CanApplyAll, after_changes}
use Rattle.vm_blocks.specs.declared.in_memory.Obstacle.{Obstacle}
use Rattle.vm_blocks.proofs.BringingIn.{applied_by_others, keeps_out, leave_since, obstacle_since, others_known, unlocked_since}
use Rattle.vm_blocks.proofs.Incoming.{only_others_here, others_same}
use Rattle.vm_blocks.proofs.Reversing.{all_in_memory_stay}
use Rattle.vm_blocks.proofs.in_memory.change_in_memory.Goals as goal

-- a block can't be brought in

pub returns-in_err-bring_in_all-clause-err : goal.returns-in_err-bring_in_all-clause-err
returns-in_err-bring_in_all-clause-err g c = on_err_always c.from_residual.result c.in_err-bring_in_all.ensures.err

pub returns-in_err-bring_in_all-clause-refusals : goal.returns-in_err-bring_in_all-clause-refusals
returns-in_err-bring_in_all-clause-refusals g c =
    let e = err_from_is_err_and c.from_residual.result c.from_residual.ensures.1 in
    subst (λ (r : Result (Unit {0}) Obstacle). IfErr r (IsObstacle g.S.Store.facts c.args.blocks.now.disk.store c.bring_in_all.new.blocks.disk.store)) (sym (e.1 ∙ ap Err e.2)) c.in_err-bring_in_all.ensures.refusals

pub returns-in_err-bring_in_all-clause-sure : goal.returns-in_err-bring_in_all-clause-sure
returns-in_err-bring_in_all-clause-sure g c = λ none here applies. absurd (cc (c.in_err-bring_in_all.ensures.sure none).0)

-- all are in

pub change_others-requires-clause-listed : goal.change_others-requires-clause-listed
change_others-requires-clause-listed g c =
    others_known g.S.Store.facts c.args.direction c.args.changes.now c.args.blocks.now c.bring_in_all.new.blocks c.in_ok-bring_in_all.ensures.ok c.requires.listed

pub change_others-requires-clause-unlocked : goal.change_others-requires-clause-unlocked
change_others-requires-clause-unlocked g c = c.in_ok-bring_in_all.ensures.ok.back.locks.count ∙ c.requires.unlocked

pub returns-in-Ok-clause-ok : goal.returns-in-Ok-clause-ok
returns-in-Ok-clause-ok g c =
    applied_by_others g.S.Store.facts c.args.direction c.args.changes.now c.args.blocks.now c.bring_in_all.new.blocks c.in_ok-bring_in_all.ensures.ok c.requires.listed c.change_others.new.blocks c.in-Ok.ensures.ok

pub returns-in-Ok-clause-sure : goal.returns-in-Ok-clause-sure
returns-in-Ok-clause-sure g c = λ none here applies.
    let all = directed_all c.args.direction c.args.changes.now in
    let old = c.args.blocks.now in
    let mid = c.bring_in_all.new.blocks in
    let stays = (c.in_ok-bring_in_all.ensures.sure none).1 in
    let same = others_same all old.document none applies in
    let did = c.in-Ok.ensures.sure (only_others_here mid all (all_in_memory_stay all old mid stays here)) (subst (CanApplyAll (others all)) (sym stays.document) same.0) in
    (refl, did.1 ∙ stays.disk, did.2 ∙ ap (after_changes (others all)) stays.document ∙ same.1)

-- the others can't be made

pub take_out_again-requires-clause-leave : goal.take_out_again-requires-clause-leave
take_out_again-requires-clause-leave g c =
    leave_since g.S.Store.facts c.args.direction c.args.changes.now c.args.blocks.now c.bring_in_all.new.blocks c.change_others.new.blocks c.in_ok-bring_in_all.ensures.ok.back c.in-Err.ensures.err

pub take_out_again-requires-clause-unlocked : goal.take_out_again-requires-clause-unlocked
take_out_again-requires-clause-unlocked g c =
    unlocked_since g.S.Store.facts c.args.direction c.args.changes.now c.args.blocks.now c.bring_in_all.new.blocks c.change_others.new.blocks c.in_ok-bring_in_all.ensures.ok.back c.in-Err.ensures.err c.requires.unlocked

pub returns-in-Err-clause-err : goal.returns-in-Err-clause-err
returns-in-Err-clause-err g c =
    let out = c.take_out_again.ensures in
    keeps_out g.S.Store.facts c.args.direction c.args.changes.now c.args.blocks.now c.bring_in_all.new.blocks c.change_others.new.blocks c.in_ok-bring_in_all.ensures.ok.back c.in-Err.ensures.err c.take_out_again.new.blocks
    out.disk out.document out.frames out.locks

pub returns-in-Err-clause-refusals : goal.returns-in-Err-clause-refusals
returns-in-Err-clause-refusals g c =
    obstacle_since g.S.Store.facts c.args.direction c.args.changes.now c.args.blocks.now c.bring_in_all.new.blocks c.change_others.new.blocks c.in_ok-bring_in_all.ensures.ok.back c.in-Err.ensures.err c.take_out_again.new.blocks
    c.take_out_again.ensures.disk c.in-Err.obstacle c.in-Err.ensures.refusals

pub returns-in-Err-clause-sure : goal.returns-in-Err-clause-sure
returns-in-Err-clause-sure g c = λ none here applies.
    let all = directed_all c.args.direction c.args.changes.now in
    let old = c.args.blocks.now in
    let mid = c.bring_in_all.new.blocks in
    let stays = (c.in_ok-bring_in_all.ensures.sure none).1 in
    let same = others_same all old.document none applies in
    let did = c.in-Err.ensures.sure (only_others_here mid all (all_in_memory_stay all old mid stays here)) (subst (CanApplyAll (others all)) (sym stays.document) same.0) in
    absurd (cc did.0)
