use Rattle.std.proofs.Common.{◌≡◌, None, Ok, Err, IsOk, List, map, inr, refl, ap, sym, subst, ◌∙◌}
use Rattle.std.specs.Prelude.{IfErr}
use Rattle.std.proofs.lemmas.Result.{err_from_is_err_and}
use Rattle.geos_model.specs.Reply.{Accepted, reply_by}
use Rattle.geos_model.specs.declared.command.Command.TheVariants as commands
use Rattle.document_file.specs.Disk.{KeepsCommitted}
use Rattle.vm_blocks.specs.Changes.{directed}
use Rattle.geos_model.specs.declared.fault.Fault.{Fault}
use Rattle.vm_blocks.specs.Preparing.{AreInMemory, CanApplyAllByHandle, CantPrepareAll, AreApplied, NoneComesIn}
use Rattle.vm_blocks.specs.declared.change.Change.{Change}
use Rattle.chunk_edits.specs.declared.direction.Direction.TheVariants.{Backwards}
use Rattle.vm_blocks.proofs.KeepingLaws.{keeps-passes}
use Rattle.undo_log.specs.Logging.{after_all, before, open_changes}
use Rattle.undo_log.specs.Sessions.{SessionState, cache_of, CanApplyAllDirected, IsStep}
use Rattle.undo_log.specs.Turning.{IsNotAbandoned, IsSureGroup, abandon_fault}
use Rattle.undo_log.proofs.Groups.{abandoned_invariant, group_listed}
use Rattle.undo_log.proofs.Keeping.{Holds, keeps_refl, kept_invariant}
use Rattle.undo_log.proofs.LookUps.{session_with}
use Rattle.undo_log.proofs.Turns.{abandon_free, abandon_held, abandon_refused, abandon_taken, group_can, group_not_taken, some_changes}
use Rattle.undo_log.proofs.session.Session.abandon.Goals as goal

pub returns-in-Some-clause-step : goal.returns-in-Some-clause-step
returns-in-Some-clause-step g c = abandon_held g.S.Store.facts c.args.self.now c.in-Some.fault (sym c.in-Some.ensures.is)

pub returns-in-Some-clause-err : goal.returns-in-Some-clause-err
returns-in-Some-clause-err g c = keeps_refl g.S.Store.facts c.args.self.now

pub take_back-requires-clause-listed : goal.take_back-requires-clause-listed
take_back-requires-clause-listed g c =
    let log = c.self.inside.log.lists in
    let old = session_with c.self.inside.blocks log in
    subst (λ (cs : List Change). CanApplyAllByHandle (map (directed Backwards) cs) c.self.inside.blocks.document) (sym c.group.ensures)
    (group_listed g.S.Store.facts c.self.inside.blocks c.self.inside.blocks log (open_changes log.group) (abandon_free old (ap abandon_fault c.self.view_is ∙ sym c.in_default.ensures.is)).0 c.self.invariant)

pub invariant_of-self : goal.invariant_of-self
invariant_of-self g c = kept_invariant g.S.Store.facts c.self.inside.blocks c.take_back.new.blocks c.self.inside.log.lists c.in_err-take_back.ensures.err c.self.invariant

pub invariant_of-self-2 : goal.invariant_of-self-2
invariant_of-self-2 g c =
    let facts = g.S.Store.facts in let log = c.self.inside.log.lists in
    let old = session_with c.self.inside.blocks log in
    subst (Holds c.take_back.new.blocks) (sym c.abandon_group.ensures)
    (abandoned_invariant facts c.self.inside.blocks c.take_back.new.blocks log (open_changes log.group) (abandon_free old (ap abandon_fault c.self.view_is ∙ sym c.in_default.ensures.is)).0 c.reveal_invariant-2.ensures
    (subst (λ (cs : List Change). AreApplied facts (map (directed Backwards) cs) c.self.inside.blocks c.take_back.new.blocks) c.group.ensures c.in_ok-take_back.ensures.ok) c.self.invariant)

pub returns-in_err-take_back-clause-step : goal.returns-in_err-take_back-clause-step
returns-in_err-take_back-clause-step g c =
    let facts = g.S.Store.facts in let log = c.self.inside.log.lists in let e = c.in_err-take_back in
    let old = session_with c.self.inside.blocks log in
    let new = session_with c.take_back.new.blocks log in
    let is_open = (abandon_free old (ap abandon_fault c.self.view_is ∙ sym c.in_default.ensures.is)).0 in
    let p = err_from_is_err_and c.from_residual.result c.from_residual.ensures.1 in
    subst (λ (s : SessionState g.row.S.Denot). IsStep facts s new commands.Abandon (reply_by (λ _. Accepted) c.from_residual.result)) c.self.view_is
    (subst (λ r. IsStep facts old new commands.Abandon (reply_by (λ _. Accepted) r)) (sym (p.1 ∙ ap Err p.2))
    (abandon_refused facts old new (open_changes log.group) is_open e.field-0.0 (record { blocks = e.ensures.err; log = refl }) (some_changes (open_changes log.group) c.group.result.now c.group.ensures c.take_back.result e.field-0.0 e.was _ c.take_back.ensures.none)
    (group_not_taken facts old new (open_changes log.group) is_open e.field-0.0 (subst (λ (cs : List Change). CantPrepareAll facts (map (directed Backwards) cs) (cache_of old) (cache_of new) e.field-0.0) c.group.ensures e.ensures.refusals))))

pub returns-in_err-take_back-clause-refusals : goal.returns-in_err-take_back-clause-refusals
returns-in_err-take_back-clause-refusals g c =
    let facts = g.S.Store.facts in let log = c.self.inside.log.lists in let e = c.in_err-take_back in
    let old = session_with c.self.inside.blocks log in
    let new = session_with c.take_back.new.blocks log in
    let is_free = (ap abandon_fault c.self.view_is ∙ sym c.in_default.ensures.is) in
    let unready : CantPrepareAll facts (map (directed Backwards) (open_changes log.group)) (cache_of old) (cache_of new) e.field-0.0 =
    subst (λ (cs : List Change). CantPrepareAll facts (map (directed Backwards) cs) (cache_of old) (cache_of new) e.field-0.0) c.group.ensures e.ensures.refusals in
    let p = err_from_is_err_and c.from_residual.result c.from_residual.ensures.1 in
    subst (λ (s : SessionState g.row.S.Denot). IfErr c.from_residual.result (IsNotAbandoned facts s new)) c.self.view_is
    (subst (λ r. IfErr r (IsNotAbandoned facts old new)) (sym (p.1 ∙ ap Err p.2))
    (inr (
      is_free,
      some_changes (open_changes log.group) c.group.result.now c.group.ensures c.take_back.result e.field-0.0 e.was _ c.take_back.ensures.none,
      group_not_taken facts old new (open_changes log.group) (abandon_free old is_free).0 e.field-0.0 unready,
      unready,
    )))

pub returns-in_err-take_back-clause-passes : goal.returns-in_err-take_back-clause-passes
returns-in_err-take_back-clause-passes g c =
    subst (λ (s : SessionState g.row.S.Denot). KeepsCommitted g.S.Store.facts s.disk c.take_back.new.blocks.disk) c.self.view_is (keeps-passes g.S.Store.facts c.self.inside.blocks c.take_back.new.blocks c.in_err-take_back.ensures.err)

pub returns-clause-step : goal.returns-clause-step
returns-clause-step g c =
    let facts = g.S.Store.facts in let log = c.self.inside.log.lists in
    let old = session_with c.self.inside.blocks log in
    let new = session_with c.take_back.new.blocks c.abandon_group.new.self.lists in
    let is_free = abandon_free old (ap abandon_fault c.self.view_is ∙ sym c.in_default.ensures.is) in
    subst (λ (s : SessionState g.row.S.Denot). IsStep facts s new commands.Abandon Accepted) c.self.view_is
    (abandon_taken facts old new (open_changes log.group) is_free.0 is_free.1 c.reveal_invariant-2.ensures c.abandon_group.ensures
    (subst (λ (cs : List Change). AreApplied facts (map (directed Backwards) cs) c.self.inside.blocks c.take_back.new.blocks) c.group.ensures c.in_ok-take_back.ensures.ok))

pub returns-in_err-take_back-clause-sure : goal.returns-in_err-take_back-clause-sure
returns-in_err-take_back-clause-sure g c =
    let facts = g.S.Store.facts in let log = c.self.inside.log.lists in let e = c.in_err-take_back in
    let blocks = c.self.inside.blocks in
    let old = session_with blocks log in
    let new = session_with c.take_back.new.blocks log in
    subst (λ (s : SessionState g.row.S.Denot). abandon_fault s ≡ None → IsSureGroup facts s Backwards (open_changes s.log.group)
    → IsOk c.from_residual.result × (new.disk ≡ s.disk) × (new.document ≡ before s.log.group s.document)) c.self.view_is
    (λ free sure.
    let can = group_can facts old new (open_changes log.group) (abandon_free old free).0 sure.exact in
    let taken = subst (λ (xs : List Change). NoneComesIn (map (directed Backwards) xs) → AreInMemory (map (directed Backwards) xs) blocks → CanApplyAllDirected Backwards xs blocks.document
    → IsOk {T = Unit {0}} (Err e.field-0.0) × (c.take_back.new.blocks.disk ≡ blocks.disk) × (c.take_back.new.blocks.document ≡ after_all Backwards xs blocks.document)) c.group.ensures e.ensures.sure in
    absurd (cc (taken sure.none_comes_in sure.in_memory can).0))

pub returns-clause-sure : goal.returns-clause-sure
returns-clause-sure g c =
    let facts = g.S.Store.facts in let log = c.self.inside.log.lists in
    let blocks = c.self.inside.blocks in
    let old = session_with blocks log in
    let new = session_with c.take_back.new.blocks c.abandon_group.new.self.lists in
    subst (λ (s : SessionState g.row.S.Denot). abandon_fault s ≡ None → IsSureGroup facts s Backwards (open_changes s.log.group)
    → IsOk {E = Fault} (Ok (tt {0})) × (new.disk ≡ s.disk) × (new.document ≡ before s.log.group s.document)) c.self.view_is
    (λ free sure.
    let can = group_can facts old new (open_changes log.group) (abandon_free old free).0 sure.exact in
    let taken = subst (λ (xs : List Change). NoneComesIn (map (directed Backwards) xs) → AreInMemory (map (directed Backwards) xs) blocks → CanApplyAllDirected Backwards xs blocks.document
    → IsOk c.take_back.result × (c.take_back.new.blocks.disk ≡ blocks.disk) × (c.take_back.new.blocks.document ≡ after_all Backwards xs blocks.document)) c.group.ensures c.take_back.ensures.sure in
    let made = taken sure.none_comes_in sure.in_memory can in (refl, made.1, made.2))
