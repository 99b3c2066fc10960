use Rattle.std.proofs.Common.{Err, refl, sym, ap, subst, ◌∙◌}
use Rattle.std.specs.Prelude.{Result, IfErr}
use Rattle.std.proofs.lemmas.Result.{err_from_is_err_and}
use Rattle.geos_model.specs.Document.{without_blocks}
use Rattle.vm_blocks.specs.State.{CacheState, KeepsLocks, locked_count}
use Rattle.vm_blocks.proofs.Marking.{on_err_always}
use Rattle.vm_blocks.specs.Changes.{directed_all}
use Rattle.vm_blocks.specs.Incoming.{IsObstacle, others}
use Rattle.vm_blocks.specs.InMemory.{CanTakeOut, all_in_place, all_outgoing}
use Rattle.vm_blocks.specs.Keeping.{KeepsBlocks}
use Rattle.vm_blocks.specs.Preparing.{CanApplyAll, after_changes}
use Rattle.vm_blocks.specs.declared.in_memory.Obstacle.{Obstacle}
use Rattle.vm_blocks.proofs.ChangingInMemory.{applied_in_memory, listed_then}
use Rattle.vm_blocks.proofs.Incoming.{none_of_others, others_fit, others_here, others_in_place, others_leave, others_leaving, others_listed}
use Rattle.vm_blocks.proofs.InMemory.{all_can_go, all_fit, all_listed, all_settled}
use Rattle.vm_blocks.proofs.KeepingLaws.{keeps-locks}
use Rattle.vm_blocks.proofs.Reversing.{all_in_memory_stay}
use Rattle.vm_blocks.proofs.in_memory.change_others.Goals as goal

-- a block can't be brought into memory

pub returns-in_err-load_all-clause-err : goal.returns-in_err-load_all-clause-err
returns-in_err-load_all-clause-err g c = on_err_always c.from_residual.result c.load_all.ensures.keeps

pub returns-in_err-load_all-clause-refusals : goal.returns-in_err-load_all-clause-refusals
returns-in_err-load_all-clause-refusals g c =
    let e = err_from_is_err_and c.from_residual.result c.from_residual.ensures.1 in
    subst (λ (r : Result (Unit {0}) Obstacle). IfErr r (IsObstacle g.S.Store.facts c.args.blocks.now.disk.store c.load_all.new.blocks.disk.store)) (sym (e.1 ∙ ap Err e.2)) c.in_err-load_all.ensures.err

pub returns-in_err-load_all-clause-sure : goal.returns-in_err-load_all-clause-sure
returns-in_err-load_all-clause-sure g c = λ here applies.
    absurd (cc (c.in_err-load_all.ensures.sure (others_here c.args.blocks.now (directed_all c.args.direction c.args.changes.now) here)).0)

-- all are there

pub carry_out_all-requires : goal.carry_out_all-requires
carry_out_all-requires g c =
    let whole = directed_all c.args.direction c.args.changes.now in
    let mid = c.load_all.new.blocks in
    others_listed whole mid.document (all_listed (others whole) mid.document (listed_then g.S.Store.facts (others whole) c.args.blocks.now mid c.load_all.ensures.keeps c.requires.listed) (none_of_others whole))

-- one can't be made

pub returns-then-not-carry_out_all-clause-err : goal.returns-then-not-carry_out_all-clause-err
returns-then-not-carry_out_all-clause-err g c =
    subst (λ (s : CacheState g.row.S.Denot). KeepsBlocks g.S.Store.facts c.args.blocks.now s) (sym (c.carry_out_all.ensures.none c.if-not-carry_out_all.true).0) c.load_all.ensures.keeps

pub returns-then-not-carry_out_all-clause-sure : goal.returns-then-not-carry_out_all-clause-sure
returns-then-not-carry_out_all-clause-sure g c = λ here applies.
    let whole = directed_all c.args.direction c.args.changes.now in
    let old = c.args.blocks.now in
    let mid = c.load_all.new.blocks in
    let all_here = others_here old whole here in
    let stays = (c.load_all.ensures.sure all_here).1 in
    let listed = listed_then g.S.Store.facts (others whole) old mid c.load_all.ensures.keeps c.requires.listed in
    let fit = all_fit (others whole) mid.document (subst (CanApplyAll (others whole)) (sym stays.document) applies) listed (none_of_others whole) in
    absurd ((c.carry_out_all.ensures.none c.if-not-carry_out_all.true).1 (all_in_memory_stay whole old mid stays all_here) (others_fit whole mid.document fit))

-- all are made

pub take_out_all-requires-clause-leave : goal.take_out_all-requires-clause-leave
take_out_all-requires-clause-leave g c =
    let whole = directed_all c.args.direction c.args.changes.now in
    let mid = c.load_all.new.blocks in
    let document = ap (λ (s : CacheState g.row.S.Denot). s.document) (c.carry_out_all.ensures.all c.if-not-carry_out_all.false) in
    let listed = listed_then g.S.Store.facts (others whole) c.args.blocks.now mid c.load_all.ensures.keeps c.requires.listed in
    let can = subst (CanTakeOut (others whole)) (others_in_place whole mid.document) (all_can_go (others whole) mid.document listed (none_of_others whole) c.reveal_invariant.ensures.listed.handles) in
    subst (CanTakeOut whole) (sym document) (others_leave whole (all_in_place whole mid.document) can)

pub take_out_all-requires-clause-unlocked : goal.take_out_all-requires-clause-unlocked
take_out_all-requires-clause-unlocked g c =
    ap (λ (s : CacheState g.row.S.Denot). locked_count s.resident) (c.carry_out_all.ensures.all c.if-not-carry_out_all.false)
    ∙ (keeps-locks g.S.Store.facts c.args.blocks.now c.load_all.new.blocks c.load_all.ensures.keeps).count ∙ c.requires.unlocked

pub returns-clause-ok : goal.returns-clause-ok
returns-clause-ok g c =
    let whole = directed_all c.args.direction c.args.changes.now in
    let mid = c.load_all.new.blocks in
    let is = c.carry_out_all.ensures.all c.if-not-carry_out_all.false in
    let new = c.take_out_all.new.blocks in
    applied_in_memory g.S.Store.facts (others whole) c.args.blocks.now mid c.load_all.ensures.keeps new c.requires.listed (none_of_others whole)
    (c.take_out_all.ensures.disk ∙ ap (λ (s : CacheState g.row.S.Denot). s.disk) is)
    (c.take_out_all.ensures.document ∙ ap (λ (s : CacheState g.row.S.Denot). without_blocks s.document (all_outgoing whole)) is ∙ others_leaving whole mid.document)
    (c.take_out_all.ensures.frames ∙ ap (λ (s : CacheState g.row.S.Denot). s.frames) is)
    (subst (λ (s : CacheState g.row.S.Denot). KeepsLocks s.resident new.resident) is c.take_out_all.ensures.locks)

pub returns-clause-sure : goal.returns-clause-sure
returns-clause-sure g c = λ here applies.
    let whole = directed_all c.args.direction c.args.changes.now in
    let mid = c.load_all.new.blocks in
    let stays = (c.load_all.ensures.sure (others_here c.args.blocks.now whole here)).1 in
    let is = c.carry_out_all.ensures.all c.if-not-carry_out_all.false in
    let listed = listed_then g.S.Store.facts (others whole) c.args.blocks.now mid c.load_all.ensures.keeps c.requires.listed in (
      refl,
      c.take_out_all.ensures.disk ∙ ap (λ (s : CacheState g.row.S.Denot). s.disk) is ∙ stays.disk,
      c.take_out_all.ensures.document ∙ ap (λ (s : CacheState g.row.S.Denot). without_blocks s.document (all_outgoing whole)) is ∙ others_leaving whole mid.document
          ∙ all_settled (others whole) mid.document listed (none_of_others whole) ∙ ap (after_changes (others whole)) stays.document,
    )
