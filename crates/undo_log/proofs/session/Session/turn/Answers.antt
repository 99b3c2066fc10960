use Rattle.std.proofs.Common.{◌≡◌, None, Ok, Err, IsOk, inr, refl, ap, sym, subst, ◌∙◌}
use Rattle.std.specs.Prelude.{IfErr}
use Rattle.std.proofs.lemmas.Result.{err_from_is_err_and}
use Rattle.geos_model.specs.Reply.{Accepted, reply_by}
use Rattle.geos_model.specs.declared.fault.Fault.{Fault}
use Rattle.document_file.specs.Disk.{KeepsCommitted}
use Rattle.vm_blocks.proofs.KeepingLaws.{keeps-passes}
use Rattle.undo_log.specs.Logging.{next_entries, next_moved}
use Rattle.undo_log.specs.Sessions.{SessionState, cache_of, IsStep}
use Rattle.undo_log.specs.Steps.{step_entry}
use Rattle.undo_log.specs.Turning.{IsRefusedUndoOrRedo, IsSure, newest_made, no_step_fault, step_command, busy_fault}
use Rattle.undo_log.proofs.Groups.{moved_invariant, next_listed}
use Rattle.undo_log.proofs.Keeping.{Holds, keeps_refl, kept_invariant}
use Rattle.undo_log.proofs.LookUps.{session_with}
use Rattle.undo_log.proofs.Turns.{cant_take, never_refused, newest_can, newest_is, none_open, next_can, some_newest, sure_turns, turn_held, turn_refused, turn_taken}
use Rattle.undo_log.proofs.session.Session.turn.Goals as goal

pub returns-in-Some-clause-err : goal.returns-in-Some-clause-err
returns-in-Some-clause-err g c = keeps_refl g.S.Store.facts c.args.self.now

pub returns-in-Some-clause-step : goal.returns-in-Some-clause-step
returns-in-Some-clause-step g c = turn_held g.S.Store.facts c.args.self.now c.in-Some.fault (sym c.in-Some.ensures.is) c.args.direction

pub returns-in-None-clause-err : goal.returns-in-None-clause-err
returns-in-None-clause-err g c = keeps_refl g.S.Store.facts c.args.self.now

pub make_step-requires-clause-listed : goal.make_step-requires-clause-listed
make_step-requires-clause-listed g c =
    let old = session_with c.self.inside.blocks c.self.inside.log.lists in
    next_listed g.S.Store.facts c.self.inside.blocks c.self.inside.blocks c.self.inside.log.lists c.args.direction (step_entry c.in-Some-next_step.step).entry (none_open old (ap busy_fault c.self.view_is ∙ sym c.in_default.ensures.is))
    c.in-Some-next_step.ensures.next c.self.invariant

pub invariant_of-self : goal.invariant_of-self
invariant_of-self g c = kept_invariant g.S.Store.facts c.self.inside.blocks c.make_step.new.blocks c.self.inside.log.lists c.in_err-make_step-in-Some-next_step.ensures.err c.self.invariant

pub invariant_of-self-in-Some-next_step : goal.invariant_of-self-in-Some-next_step
invariant_of-self-in-Some-next_step g c =
    let old = session_with c.self.inside.blocks c.self.inside.log.lists in
    subst (Holds c.make_step.new.blocks) (sym c.move_next.ensures)
    (moved_invariant g.S.Store.facts c.self.inside.blocks c.make_step.new.blocks c.self.inside.log.lists c.args.direction (step_entry c.in-Some-next_step.step).entry (none_open old (ap busy_fault c.self.view_is ∙ sym c.in_default.ensures.is))
    c.in-Some-next_step.ensures.next c.reveal_invariant.ensures.listed c.in_ok-make_step-in-Some-next_step.ensures.ok c.self.invariant)

pub returns-in_err-make_step-in-Some-next_step-clause-step : goal.returns-in_err-make_step-in-Some-next_step-clause-step
returns-in_err-make_step-in-Some-next_step-clause-step g c =
    let facts = g.S.Store.facts in let e = c.in_err-make_step-in-Some-next_step in let entry = (step_entry c.in-Some-next_step.step).entry in let first = c.in-Some-next_step.ensures.next in
    let old = session_with c.self.inside.blocks c.self.inside.log.lists in
    let new = session_with c.make_step.new.blocks c.self.inside.log.lists in
    let p = err_from_is_err_and c.from_residual.result c.from_residual.ensures.1 in
    subst (λ (s : SessionState g.row.S.Denot). IsStep facts s new (step_command c.args.direction) (reply_by (λ _. Accepted) c.from_residual.result)) c.self.view_is
    (subst (λ r. IsStep facts old new (step_command c.args.direction) (reply_by (λ _. Accepted) r)) (sym (p.1 ∙ ap Err p.2))
    (turn_refused facts old new c.args.direction entry first e.field-0.0 (record { blocks = e.ensures.err; log = refl }) (never_refused facts c.args.direction entry (cache_of old) (cache_of new) e.field-0.0 c.make_step.result e.was c.make_step.ensures.sure)
    (cant_take facts old new c.args.direction e.field-0.0 entry first.others (λ exact. newest_can facts c.args.direction entry (next_entries c.args.direction old.log) old.document first (next_can facts old c.args.direction (ap busy_fault c.self.view_is ∙ sym c.in_default.ensures.is) exact)) e.ensures.refusals)))

pub returns-in_err-make_step-in-Some-next_step-clause-refusals : goal.returns-in_err-make_step-in-Some-next_step-clause-refusals
returns-in_err-make_step-in-Some-next_step-clause-refusals g c =
    let facts = g.S.Store.facts in let e = c.in_err-make_step-in-Some-next_step in let entry = (step_entry c.in-Some-next_step.step).entry in let first = c.in-Some-next_step.ensures.next in
    let old = session_with c.self.inside.blocks c.self.inside.log.lists in
    let new = session_with c.make_step.new.blocks c.self.inside.log.lists in
    let p = err_from_is_err_and c.from_residual.result c.from_residual.ensures.1 in
    subst (λ (s : SessionState g.row.S.Denot). IfErr c.from_residual.result (IsRefusedUndoOrRedo facts (no_step_fault c.args.direction) (next_entries c.args.direction s.log) s new)) c.self.view_is
    (subst (λ r. IfErr r (IsRefusedUndoOrRedo facts (no_step_fault c.args.direction) (next_entries c.args.direction old.log) old new)) (sym (p.1 ∙ ap Err p.2))
    (inr ((ap busy_fault c.self.view_is ∙ sym c.in_default.ensures.is), inr (some_newest entry (next_entries c.args.direction old.log) first, cant_take facts old new c.args.direction e.field-0.0 entry first.others (λ exact. newest_can facts c.args.direction entry (next_entries c.args.direction old.log) old.document first (next_can facts old c.args.direction (ap busy_fault c.self.view_is ∙ sym c.in_default.ensures.is) exact)) e.ensures.refusals))))

pub returns-in_err-make_step-in-Some-next_step-clause-passes : goal.returns-in_err-make_step-in-Some-next_step-clause-passes
returns-in_err-make_step-in-Some-next_step-clause-passes g c =
    subst (λ (s : SessionState g.row.S.Denot). KeepsCommitted g.S.Store.facts s.disk c.make_step.new.blocks.disk) c.self.view_is (keeps-passes g.S.Store.facts c.self.inside.blocks c.make_step.new.blocks c.in_err-make_step-in-Some-next_step.ensures.err)

pub returns-in_err-make_step-in-Some-next_step-clause-sure : goal.returns-in_err-make_step-in-Some-next_step-clause-sure
returns-in_err-make_step-in-Some-next_step-clause-sure g c =
    let facts = g.S.Store.facts in let e = c.in_err-make_step-in-Some-next_step in let entry = (step_entry c.in-Some-next_step.step).entry in
    let old = session_with c.self.inside.blocks c.self.inside.log.lists in
    let new = session_with c.make_step.new.blocks c.self.inside.log.lists in
    subst (λ (s : SessionState g.row.S.Denot). busy_fault s ≡ None → IsSure facts s c.args.direction (next_entries c.args.direction s.log) → IsOk c.from_residual.result × (new.disk ≡ s.disk) × (new.document ≡ newest_made c.args.direction (next_entries c.args.direction s.log) s.document)) c.self.view_is
    (λ free sure. absurd (never_refused facts c.args.direction entry (cache_of old) (cache_of new) e.field-0.0 c.make_step.result e.was c.make_step.ensures.sure
    (sure_turns facts old c.args.direction entry (next_entries c.args.direction old.log) c.in-Some-next_step.ensures.next (next_can facts old c.args.direction free) sure)))

pub returns-in_ok-make_step-in-Some-next_step-clause-step : goal.returns-in_ok-make_step-in-Some-next_step-clause-step
returns-in_ok-make_step-in-Some-next_step-clause-step g c =
    let facts = g.S.Store.facts in
    let old = session_with c.self.inside.blocks c.self.inside.log.lists in
    let new = session_with c.make_step.new.blocks c.move_next.new.self.lists in
    subst (λ (s : SessionState g.row.S.Denot). IsStep facts s new (step_command c.args.direction) Accepted) c.self.view_is
    (turn_taken facts old new c.args.direction (step_entry c.in-Some-next_step.step).entry c.in-Some-next_step.ensures.next (ap busy_fault c.self.view_is ∙ sym c.in_default.ensures.is) c.move_next.ensures c.in_ok-make_step-in-Some-next_step.ensures.ok)

pub returns-in_ok-make_step-in-Some-next_step-clause-sure : goal.returns-in_ok-make_step-in-Some-next_step-clause-sure
returns-in_ok-make_step-in-Some-next_step-clause-sure g c =
    let facts = g.S.Store.facts in let entry = (step_entry c.in-Some-next_step.step).entry in let first = c.in-Some-next_step.ensures.next in
    let old = session_with c.self.inside.blocks c.self.inside.log.lists in
    let new = session_with c.make_step.new.blocks c.move_next.new.self.lists in
    subst (λ (s : SessionState g.row.S.Denot). busy_fault s ≡ None → IsSure facts s c.args.direction (next_entries c.args.direction s.log) → IsOk {E = Fault} (Ok (tt {0})) × (new.disk ≡ s.disk) × (new.document ≡ newest_made c.args.direction (next_entries c.args.direction s.log) s.document)) c.self.view_is
    (λ free sure.
    let made = c.make_step.ensures.sure (sure_turns facts old c.args.direction entry (next_entries c.args.direction old.log) first (next_can facts old c.args.direction free) sure) in
    (refl, made.1, made.2 ∙ newest_is facts c.args.direction entry (next_entries c.args.direction old.log) old.document first))

pub returns-in_ok-make_step-in-Some-next_step-clause-moved : goal.returns-in_ok-make_step-in-Some-next_step-clause-moved
returns-in_ok-make_step-in-Some-next_step-clause-moved g c = c.move_next.ensures ∙ ap (λ (s : SessionState g.row.S.Denot). next_moved c.args.direction s.log) c.self.view_is
