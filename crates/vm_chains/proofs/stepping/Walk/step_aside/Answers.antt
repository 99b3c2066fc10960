use Rattle.std.proofs.Common.{sym, ◌∙◌, inl}
use Rattle.geos_model.specs.declared.fault.Fault.TheVariants.{Memory}
use Rattle.vm_blocks.specs.Keeping.{IsEnvironmentFault}
use Rattle.vm_blocks.proofs.KeepingLaws.{keeps-refl, keeps-unless_corrupt, lacks-memory}
use Rattle.vm_chains.specs.Stepping.{IsOver, IsTaken}
use Rattle.vm_chains.proofs.Loading.{carried, carried_so}
use Rattle.vm_chains.proofs.StepLemmas.{at_some, stops_there}
use Rattle.vm_chains.proofs.stepping.Walk.step_aside.Goals as goal

pub returns-in_err-handle-clause-keeps : goal.returns-in_err-handle-clause-keeps
returns-in_err-handle-clause-keeps g c = keeps-refl g.S.Store.facts c.args.blocks.now

pub returns-in_default-clause-keeps : goal.returns-in_default-clause-keeps
returns-in_default-clause-keeps g c = keeps-refl g.S.Store.facts c.args.blocks.now

pub returns-in_err-follow_aside-clause-value : goal.returns-in_err-follow_aside-clause-value
returns-in_err-follow_aside-clause-value g c = λ steady.
    let old = c.args.self.now in let mid = c.take_next.new.self in let e = c.follow_aside.new.blocks in
    let taken = at_some c.in_ok-handle.field-0 c.in-Some.handle (IsOver old mid) (λ x. IsTaken x.0 old mid) c.in-Some.is c.in_ok-handle.ensures in
    carried c.from_residual-in_err-follow_aside.result c.in_err-follow_aside.field-0.0 _ _ c.from_residual-in_err-follow_aside.ensures.1
    (stops_there (IsEnvironmentFault g.S.Store.facts c.args.blocks.now.disk.store e.disk.store) e.document old c.in-Some.handle.0 mid.pending c.in_err-follow_aside.field-0.0 taken.next
    (c.in_err-follow_aside.ensures.value steady))

pub meet-requires-clause-handle : goal.meet-requires-clause-handle
meet-requires-clause-handle g c =
    let h = c.in-Some.handle.0 in let e = c.follow_aside.new.blocks in
    c.reveal_invariant.ensures.listed.handles h
    (sym ((keeps-unless_corrupt g.S.Store.facts c.args.blocks.now e c.follow_aside.ensures.keeps).live h) ∙ c.in_ok-follow_aside.ensures.live)

pub returns-in_err-meet-clause-value : goal.returns-in_err-meet-clause-value
returns-in_err-meet-clause-value g c = λ steady.
    carried c.from_residual-in_err-meet.result Memory _ _ c.from_residual-in_err-meet.ensures.1 (inl (lacks-memory g.S.Store.facts c.args.blocks.now.disk.store c.follow_aside.new.blocks.disk.store))

pub returns-in_err-meet-clause-refusals : goal.returns-in_err-meet-clause-refusals
returns-in_err-meet-clause-refusals g c =
    carried_so c.from_residual-in_err-meet.result Memory _ c.from_residual-in_err-meet.ensures.1 (inl (lacks-memory g.S.Store.facts c.args.blocks.now.disk.store c.follow_aside.new.blocks.disk.store))
