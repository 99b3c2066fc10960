use Rattle.std.proofs.Common.{List, drop, refl, sym, ap, subst, arith, ◌∙◌}
use Rattle.std.proofs.lemmas.List.{take_rest}
use Rattle.vm_blocks.specs.Incoming.{CanGoAgain, without_again}
use Rattle.vm_blocks.specs.declared.change.Change.{Change}
use Rattle.vm_blocks.proofs.BringingIn.{brings_all, brings_more, brings_none, keeps_out, leave_since, next_named, next_quiet, obstacle_since, unlocked_since}
use Rattle.vm_blocks.proofs.bringing_in.bring_in_all.Goals as goal

pub loop-rest-init : goal.loop-rest-init
loop-rest-init g c = brings_none g.S.Store.facts c.args.direction c.args.changes.now c.args.blocks.now c.requires.listed

-- the next one

pub bring_in-requires-clause-handles : goal.bring_in-requires-clause-handles
bring_in-requires-clause-handles g c =
    (next_named g.S.Store.facts c.args.direction c.args.changes.now c.args.blocks.now c.loop-rest.rest c.loop-rest.blocks c.loop-rest.invariant c.loop-rest-test.true c.index-changes-rest.result c.index-changes-rest.is).handles

pub bring_in-requires-clause-distinct : goal.bring_in-requires-clause-distinct
bring_in-requires-clause-distinct g c =
    (next_named g.S.Store.facts c.args.direction c.args.changes.now c.args.blocks.now c.loop-rest.rest c.loop-rest.blocks c.loop-rest.invariant c.loop-rest-test.true c.index-changes-rest.result c.index-changes-rest.is).distinct

pub loop-rest-preserved : goal.loop-rest-preserved
loop-rest-preserved g c =
    brings_more g.S.Store.facts c.args.direction c.args.changes.now c.args.blocks.now c.loop-rest.rest c.loop-rest.blocks c.loop-rest.invariant c.loop-rest-test.true c.index-changes-rest.result c.index-changes-rest.is
    c.bring_in.new.blocks c.in_default.ensures.ok (λ none. (c.in_default.ensures.sure none).1)

-- it can't come in

pub take_out_again-requires-clause-leave : goal.take_out_again-requires-clause-leave
take_out_again-requires-clause-leave g c =
    let cs = c.args.changes.now in
    let l = c.loop-rest in
    subst (λ (xs : List Change). CanGoAgain c.args.direction xs c.bring_in.new.blocks.document) (sym (take_rest cs l.rest))
    (leave_since g.S.Store.facts c.args.direction (drop l.rest cs) c.args.blocks.now l.blocks c.bring_in.new.blocks l.invariant.back c.in-Err.ensures.err)

pub take_out_again-requires-clause-unlocked : goal.take_out_again-requires-clause-unlocked
take_out_again-requires-clause-unlocked g c =
    let l = c.loop-rest in
    unlocked_since g.S.Store.facts c.args.direction (drop l.rest c.args.changes.now) c.args.blocks.now l.blocks c.bring_in.new.blocks l.invariant.back c.in-Err.ensures.err c.requires.unlocked

pub returns-in-Err-clause-err : goal.returns-in-Err-clause-err
returns-in-Err-clause-err g c =
    let cs = c.args.changes.now in
    let l = c.loop-rest in
    let out = c.take_out_again.ensures in
    keeps_out g.S.Store.facts c.args.direction (drop l.rest cs) c.args.blocks.now l.blocks c.bring_in.new.blocks l.invariant.back c.in-Err.ensures.err c.take_out_again.new.blocks out.disk
    (out.document ∙ ap (λ (xs : List Change). without_again c.args.direction xs c.bring_in.new.blocks.document) (take_rest cs l.rest)) out.frames out.locks

pub returns-in-Err-clause-refusals : goal.returns-in-Err-clause-refusals
returns-in-Err-clause-refusals g c =
    let l = c.loop-rest in
    obstacle_since g.S.Store.facts c.args.direction (drop l.rest c.args.changes.now) c.args.blocks.now l.blocks c.bring_in.new.blocks l.invariant.back c.in-Err.ensures.err c.take_out_again.new.blocks c.take_out_again.ensures.disk
    c.in-Err.obstacle c.in-Err.ensures.refusals

pub returns-in-Err-clause-sure : goal.returns-in-Err-clause-sure
returns-in-Err-clause-sure g c = λ quiet.
    let none = (next_quiet g.S.Store.facts c.args.direction c.args.changes.now c.args.blocks.now c.loop-rest.rest c.loop-rest.blocks c.loop-rest.invariant c.loop-rest-test.true c.index-changes-rest.result c.index-changes-rest.is quiet).0 in
    absurd (cc (c.in-Err.ensures.sure none).0)

-- all came in

pub returns-clause-ok : goal.returns-clause-ok
returns-clause-ok g c =
    brings_all g.S.Store.facts c.args.direction c.args.changes.now c.args.blocks.now c.loop-rest.rest c.loop-rest.blocks c.loop-rest.invariant (omega (arith, c.loop-rest-test.false))

pub returns-clause-sure : goal.returns-clause-sure
returns-clause-sure g c = λ quiet. (refl, (c.loop-rest.invariant.sure quiet).1)
