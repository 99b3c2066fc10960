use Rattle.std.proofs.Common.{◌≤◌, List, length, reverse, ap, sym, subst, ◌∙◌, arith}
use Rattle.std.specs.Prelude.{◌+◌, Result, Err, IfErr}
use Rattle.std.proofs.lemmas.List.{length_push}
use Rattle.std.proofs.lemmas.Result.{err_from_is_err_and}
use Rattle.std.proofs.lemmas.Iterator.Adapters.{YieldsList-from_rev_slice}
use Rattle.std.proofs.lemmas.Iterator.Consumers.{YieldsList-turn, YieldsList-end}
use Rattle.geos_model.specs.declared.fault.Fault.{Fault}
use Rattle.document_file.proofs.PassingLemmas.{KeepsCommitted-trans}
use Rattle.vm_blocks.specs.Changes.{directed, directed_all}
use Rattle.vm_blocks.specs.Preparing.{CantPrepareAll}
use Rattle.vm_blocks.specs.declared.change.Change.{Change}
use Rattle.vm_blocks.proofs.ChangingAll.{Carries, left, left_more, left_none, all_unlocked, in_reach, carries_none, carries_more, carries_all, carries_unready}
use Rattle.vm_blocks.proofs.KeepingLaws.{keeps-passes, keeps-frames, keeps-locks}
use Rattle.vm_blocks.proofs.file_blocks.FileBlocks.turn_all.Goals as goal

pub loop-change-init : goal.loop-change-init
loop-change-init g c = carries_none g.S.Store.facts (directed_all c.args.direction c.args.changes.now) c.args.self.now c.requires.listed

pub turn-requires-clause-listed : goal.turn-requires-clause-listed
turn-requires-clause-listed g c =
    let l = c.loop-change in
    let t = YieldsList-turn (YieldsList-from_rev_slice c.args.changes.now cc) l.yielded _ l.yielded_by _ _ c.in-Some.change c.in-Some.is c.next.ensures.steps in
    let p = subst (λ (rest : List Change). Carries g.S.Store.facts (directed_all c.args.direction c.args.changes.now) rest c.args.self.now l.self) (left_more c.args.direction c.args.changes.now (length l.yielded) c.in-Some.change.now t) l.invariant in
    p.listed.0

pub turn-requires-clause-unlocked : goal.turn-requires-clause-unlocked
turn-requires-clause-unlocked g c =
    let l = c.loop-change in
    all_unlocked l.self (l.invariant.locks.count ∙ c.requires.unlocked) (directed c.args.direction c.in-Some.change.now)

pub loop-change-preserved : goal.loop-change-preserved
loop-change-preserved g c =
    let facts = g.S.Store.facts in
    let l = c.loop-change in
    let all = directed_all c.args.direction c.args.changes.now in
    let n = length l.yielded in
    let change = directed c.args.direction c.in-Some.change.now in
    let t = YieldsList-turn (YieldsList-from_rev_slice c.args.changes.now cc) l.yielded _ l.yielded_by _ _ c.in-Some.change c.in-Some.is c.next.ensures.steps in
    let p = subst (λ (rest : List Change). Carries facts all rest c.args.self.now l.self) (left_more c.args.direction c.args.changes.now n c.in-Some.change.now t) l.invariant in
    subst (λ m. Carries facts all (left c.args.direction c.args.changes.now m) c.args.self.now c.turn.new.self) (sym (length_push l.yielded c.in-Some.change))
    (carries_more facts all change (left c.args.direction c.args.changes.now (n + 1)) c.args.self.now l.self c.turn.new.self p c.in_ok-turn.ensures.ok)

pub returns-in_err-turn-clause-refusals : goal.returns-in_err-turn-clause-refusals
returns-in_err-turn-clause-refusals g c =
    let facts = g.S.Store.facts in
    let l = c.loop-change in
    let all = directed_all c.args.direction c.args.changes.now in
    let n = length l.yielded in
    let change = directed c.args.direction c.in-Some.change.now in
    let t = YieldsList-turn (YieldsList-from_rev_slice c.args.changes.now cc) l.yielded _ l.yielded_by _ _ c.in-Some.change c.in-Some.is c.next.ensures.steps in
    let p = subst (λ (rest : List Change). Carries facts all rest c.args.self.now l.self) (left_more c.args.direction c.args.changes.now n c.in-Some.change.now t) l.invariant in
    let near = in_reach l.self (l.invariant.locks.count ∙ c.requires.unlocked) (subst (λ k. 1 ≤ k) (sym l.invariant.frames) c.reveal_invariant.ensures.some) change in
    let e = err_from_is_err_and c.from_residual.result c.from_residual.ensures.1 in
    subst (λ (r : Result (Unit {0}) Fault). IfErr r (CantPrepareAll facts all c.args.self.now c.turn.new.self)) (sym (e.1 ∙ ap Err e.2))
    (carries_unready facts all change (left c.args.direction c.args.changes.now (n + 1)) c.args.self.now l.self c.turn.new.self p c.in_err-turn.field-0.0 near c.in_err-turn.ensures.refusals)

pub returns-in_err-turn-clause-passes : goal.returns-in_err-turn-clause-passes
returns-in_err-turn-clause-passes g c =
    let l = c.loop-change in
    KeepsCommitted-trans g.S.Store.facts c.args.self.now.disk l.self.disk c.turn.new.self.disk l.invariant.passes (keeps-passes g.S.Store.facts l.self c.turn.new.self c.in_err-turn.ensures.err)

pub returns-in_err-turn-clause-frames : goal.returns-in_err-turn-clause-frames
returns-in_err-turn-clause-frames g c =
    let l = c.loop-change in
    keeps-frames g.S.Store.facts l.self c.turn.new.self c.in_err-turn.ensures.err ∙ l.invariant.frames

pub returns-in_err-turn-clause-locks : goal.returns-in_err-turn-clause-locks
returns-in_err-turn-clause-locks g c =
    let l = c.loop-change in
    let kept = keeps-locks g.S.Store.facts l.self c.turn.new.self c.in_err-turn.ensures.err in
    record { each = λ h. kept.each h ∙ l.invariant.locks.each h; count = kept.count ∙ l.invariant.locks.count }

pub returns-clause-ok : goal.returns-clause-ok
returns-clause-ok g c =
    let facts = g.S.Store.facts in
    let l = c.loop-change in
    let all = directed_all c.args.direction c.args.changes.now in
    let t = YieldsList-end (YieldsList-from_rev_slice c.args.changes.now cc) l.yielded _ l.yielded_by _ _ c.in-None.is c.next.ensures.steps in
    let most : length (reverse c.args.changes.now) ≤ length l.yielded = omega (arith, t.1) in
    carries_all facts all c.args.self.now l.self (subst (λ (rest : List Change). Carries facts all rest c.args.self.now l.self) (left_none c.args.direction c.args.changes.now (length l.yielded) most) l.invariant)
