use Rattle.vm_blocks.proofs.KeepingLaws.{keeps-steady, keeps-trans, keeps-unless_corrupt}
use Rattle.std.proofs.Common.{sym, ◌∙◌}
use Rattle.vm_chains.proofs.Loading.{carried, carried_so, still_room}
use Rattle.vm_chains.proofs.StepLemmas.{at_none, at_some, goes-met_all, goes-over, goes-passed, goes-refl, goes-refused, refused_then, stepped}
use Rattle.vm_chains.specs.Stepping.{HasPassed, IsOver}
use Rattle.vm_chains.proofs.stepping.Walk.finish.Goals as goal

pub loop-self-init : goal.loop-self-init
loop-self-init g c = goes-refl g.S.Store.facts c.args.blocks.now c.args.self

pub pass-requires : goal.pass-requires
pass-requires g c = record { room = still_room g.S.Store.facts c.args.blocks.now c.loop-self.blocks c.loop-self.invariant.keeps c.requires.room }

pub returns-in_err-_next-clause-keeps : goal.returns-in_err-_next-clause-keeps
returns-in_err-_next-clause-keeps g c = keeps-trans g.S.Store.facts c.args.blocks.now c.loop-self.blocks c.pass.new.blocks c.loop-self.invariant.keeps c.pass.ensures.keeps

pub returns-in_err-_next-clause-value : goal.returns-in_err-_next-clause-value
returns-in_err-_next-clause-value g c = λ root steady along.
    carried c.from_residual.result c.in_err-_next.field-0.0 _ _ c.from_residual.ensures.1
    (goes-refused g.S.Store.facts c.args.blocks.now c.loop-self.blocks c.pass.new.blocks c.args.self c.loop-self.self c.loop-self.invariant c.pass.ensures.keeps c.in_err-_next.field-0.0
    (c.in_err-_next.ensures.value (keeps-steady g.S.Store.facts c.args.blocks.now c.loop-self.blocks c.loop-self.invariant.keeps steady)) root steady along)

pub returns-in_err-_next-clause-refusals : goal.returns-in_err-_next-clause-refusals
returns-in_err-_next-clause-refusals g c =
    carried_so c.from_residual.result c.in_err-_next.field-0.0 _ c.from_residual.ensures.1
    (refused_then g.S.Store.facts c.args.blocks.now c.loop-self.blocks c.pass.new.blocks c.in_err-_next.field-0.0 c.loop-self.invariant.keeps c.in_err-_next.ensures.passed)

pub loop-self-preserved : goal.loop-self-preserved
loop-self-preserved g c =
    let facts = g.S.Store.facts in let a = c.args.blocks.now in let b = c.loop-self.blocks in let e = c.pass.new.blocks in
    let old = c.loop-self.self in let new = c.pass.new.self in let next = c.in_ok-_next.field-0 in let h = c.in-Some._next in
    goes-passed facts a b e c.args.self old c.loop-self.invariant c.pass.ensures.keeps h.0 new
    (at_some next h (IsOver old new) (λ x. HasPassed e.document x.0 old new) c.in-Some.is c.in_ok-_next.ensures.passed)
    (λ steady. stepped e.document old new next h c.in-Some.is (c.in_ok-_next.ensures.value steady))

pub returns-clause-keeps : goal.returns-clause-keeps
returns-clause-keeps g c = keeps-trans g.S.Store.facts c.args.blocks.now c.loop-self.blocks c.pass.new.blocks c.loop-self.invariant.keeps c.pass.ensures.keeps

pub returns-clause-value : goal.returns-clause-value
returns-clause-value g c = λ root steady along.
    goes-over g.S.Store.facts c.args.blocks.now c.loop-self.blocks c.pass.new.blocks c.args.self c.loop-self.self c.loop-self.invariant c.pass.ensures.keeps c.pass.new.self c.into_handles.result.items
    (at_none c.in_ok-_next.field-0 (IsOver c.loop-self.self c.pass.new.self) (λ x. HasPassed c.pass.new.blocks.document x.0 c.loop-self.self c.pass.new.self) c.in_default.not-Some c.in_ok-_next.ensures.passed) c.into_handles.ensures root steady along

pub returns-clause-met : goal.returns-clause-met
returns-clause-met g c = λ root has.
    let a = c.args.blocks.now in let e = c.pass.new.blocks in
    let keeps = keeps-trans g.S.Store.facts a c.loop-self.blocks e c.loop-self.invariant.keeps c.pass.ensures.keeps in
    goes-met_all g.S.Store.facts a c.loop-self.blocks e c.args.self c.loop-self.self c.loop-self.invariant c.pass.ensures.keeps c.pass.new.self c.into_handles.result.items
    (λ h live. c.reveal_invariant.ensures.listed.handles h (sym ((keeps-unless_corrupt g.S.Store.facts a e keeps).live h) ∙ live))
    (at_none c.in_ok-_next.field-0 (IsOver c.loop-self.self c.pass.new.self) (λ x. HasPassed c.pass.new.blocks.document x.0 c.loop-self.self c.pass.new.self) c.in_default.not-Some c.in_ok-_next.ensures.passed) c.into_handles.ensures root has
