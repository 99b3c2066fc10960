use Rattle.std.proofs.Common.{◌≡◌, ◌||◌, false, true, IsTrue, Some, None, Result, Ok, Err, refl, sym, ap, subst, ◌∙◌}
use Rattle.std.specs.Prelude.{◌↔◌}
use Rattle.std.specs.Result.{IsErrAnd}
use Rattle.file_format.specs.File.{stands}
use Rattle.geos_model.specs.Machine.{Step}
use Rattle.geos_model.specs.Reply.{Accepted, Refused as RefusedWith}
use Rattle.geos_model.specs.declared.command.Command.TheVariants as commands
use Rattle.geos_model.specs.declared.fault.Fault.TheVariants.{Worn}
use Rattle.document_file.specs.declared.file.Refused.{Refused}
use Rattle.document_file.specs.Calls.{last_sequence}
use Rattle.vm_blocks.specs.State.{as_file}
use Rattle.undo_log.specs.Committing.{IsSaveAsRefused}
use Rattle.undo_log.specs.Sessions.{SessionState, machine_of, failed_since, IsExact}
use Rattle.undo_log.specs.Turning.{busy_fault}
use Rattle.undo_log.proofs.Beginnings.{comes_back}
use Rattle.undo_log.proofs.Keeping.{Holds}
use Rattle.undo_log.proofs.LookUps.{session_with}
use Rattle.undo_log.proofs.SavingAs.{refused, accepted, held_step, not_moved, not_worn, saved_invariant, saved_or_not, worn_free}
use Rattle.undo_log.proofs.session.Session.save_as.Goals as goal

-- what the file answers, of these types
abbrev answered : (S : Type 0) → S → Result S (Refused S)
answered S store = Ok store

abbrev turned_away : (S : Type 0) → Refused S → Result S (Refused S)
turned_away S refused = Err refused

pub returns-in-Ok-clause-ok : goal.returns-in-Ok-clause-ok
returns-in-Ok-clause-ok g c =
    let facts = g.S.Store.facts in let e = c.in-Ok.ensures in
    let old = session_with c.self.inside.blocks c.self.inside.log.lists in
    let new = session_with c.save_as.new.self c.mark_saved.new.self.lists in
    subst (λ (s : SessionState g.row.S.Denot). IsExact facts s → IsTrue (facts c.args.target).honest → IsExact facts new × Step false (machine_of true s) (Some commands.SaveAs) Accepted (machine_of false new)) c.self.view_is
    (accepted facts old new (ap busy_fault c.self.view_is ∙ sym c.in_default.ensures.is) (λ (r : Refused g.row.S.Denot). r.fault) c.args.target (λ _. Unit {0}) (answered g.row.S.Denot c.in-Ok.store) (record { log = c.mark_saved.ensures; frames = e.resident.1; resident = e.resident.0 }) e.saved_as e.worn)

pub returns-in-Err-clause-err : goal.returns-in-Err-clause-err
returns-in-Err-clause-err g c =
    let facts = g.S.Store.facts in let e = c.in-Err.ensures in let log = c.self.inside.log.lists in
    let old = session_with c.self.inside.blocks log in
    let new = session_with c.save_as.new.self log in
    subst (λ (s : SessionState g.row.S.Denot). IsExact facts s → IsExact facts new
    × Step (failed_since (facts s.disk.store) (facts c.save_as.new.self.disk.store) || failed_since (facts c.args.target) (facts c.in-Err.refused.store)) (machine_of true s) (Some commands.SaveAs) (RefusedWith c.in-Err.refused.fault) (machine_of true new)) c.self.view_is
    (refused facts old new (ap busy_fault c.self.view_is ∙ sym c.in_default.ensures.is) (λ (r : Refused g.row.S.Denot). r.fault) (λ (r : Refused g.row.S.Denot). r.store) c.args.target (λ _. Unit {0}) (turned_away g.row.S.Denot c.in-Err.refused) (record { log = refl; frames = e.resident.1; resident = e.resident.0 }) e.saved_as e.worn)

pub returns-in-Err-clause-saved_as : goal.returns-in-Err-clause-saved_as
returns-in-Err-clause-saved_as g c =
    let facts = g.S.Store.facts in let e = c.in-Err.ensures in let log = c.self.inside.log.lists in
    let new = session_with c.save_as.new.self log in
    subst (λ (s : SessionState g.row.S.Denot). IsSaveAsRefused facts c.args.target c.in-Err.refused.store s new c.in-Err.refused.fault) c.self.view_is
    (saved_or_not facts (session_with c.self.inside.blocks log) new (ap busy_fault c.self.view_is ∙ sym c.in_default.ensures.is) (λ (r : Refused g.row.S.Denot). r.fault) (λ (r : Refused g.row.S.Denot). r.store) c.args.target (turned_away g.row.S.Denot c.in-Err.refused) e.saved_as)

pub returns-in-Ok-clause-worn : goal.returns-in-Ok-clause-worn
returns-in-Ok-clause-worn g c =
    let e = c.in-Ok.ensures in let log = c.self.inside.log.lists in
    subst (λ (s : SessionState g.row.S.Denot). IsErrAnd (answered g.row.S.Denot c.in-Ok.store) (λ r. r.fault ≡ Worn) ↔ (busy_fault s ≡ None) × (s.disk.sequence ≡ last_sequence)) c.self.view_is
    (worn_free g.S.Store.facts (session_with c.self.inside.blocks log) (session_with c.save_as.new.self log) (ap busy_fault c.self.view_is ∙ sym c.in_default.ensures.is) _ e.worn)

pub returns-in-Err-clause-worn : goal.returns-in-Err-clause-worn
returns-in-Err-clause-worn g c =
    let e = c.in-Err.ensures in let log = c.self.inside.log.lists in
    subst (λ (s : SessionState g.row.S.Denot). (c.in-Err.refused.fault ≡ Worn) ↔ (busy_fault s ≡ None) × (s.disk.sequence ≡ last_sequence)) c.self.view_is
    (worn_free g.S.Store.facts (session_with c.self.inside.blocks log) (session_with c.save_as.new.self log) (ap busy_fault c.self.view_is ∙ sym c.in_default.ensures.is) _ e.worn)

pub returns-in-Ok-clause-reverted : goal.returns-in-Ok-clause-reverted
returns-in-Ok-clause-reverted g c =
    let facts = g.S.Store.facts in
    subst (λ (s : SessionState g.row.S.Denot). IsTrue (facts s.disk.store).honest → stands (facts c.in-Ok.store).content ≡ Ok (s.disk.saved, s.disk.saved)) c.self.view_is
    (comes_back facts g.met.S.Store.timely c.args.target (as_file c.self.inside.blocks) (as_file c.save_as.new.self) (λ _. Unit {0}) (answered g.row.S.Denot c.in-Ok.store) c.in-Ok.ensures.saved_as)

pub invariant_of-self : goal.invariant_of-self
invariant_of-self g c =
    subst (Holds c.save_as.new.self) (sym c.mark_saved.ensures)
    (saved_invariant g.S.Store.facts c.self.inside.blocks c.save_as.new.self c.self.inside.log.lists c.args.target (λ (r : Refused g.row.S.Denot). r.store) (λ (r : Refused g.row.S.Denot). r.fault) (answered g.row.S.Denot c.in-Ok.store) c.in-Ok.ensures.saved_as c.self.invariant)

pub invariant_of-self-in-Err : goal.invariant_of-self-in-Err
invariant_of-self-in-Err g c =
    saved_invariant g.S.Store.facts c.self.inside.blocks c.save_as.new.self c.self.inside.log.lists c.args.target (λ (r : Refused g.row.S.Denot). r.store) (λ (r : Refused g.row.S.Denot). r.fault) (turned_away g.row.S.Denot c.in-Err.refused) c.in-Err.ensures.saved_as c.self.invariant

pub returns-in-Some-clause-err : goal.returns-in-Some-clause-err
returns-in-Some-clause-err g c = λ exact. (exact, held_step g.S.Store.facts c.args.self.now c.in-Some.fault (sym c.in-Some.ensures.is) _)

pub returns-in-Some-clause-saved_as : goal.returns-in-Some-clause-saved_as
returns-in-Some-clause-saved_as g c =
    let facts = g.S.Store.facts in
    let old = session_with c.self.inside.blocks c.self.inside.log.lists in
    subst (λ (s : SessionState g.row.S.Denot). IsSaveAsRefused facts c.args.target c.args.target s s c.in-Some.fault) c.self.view_is
    (not_moved facts old c.in-Some.fault (ap busy_fault c.self.view_is ∙ sym c.in-Some.ensures.is) c.args.target c.reveal_invariant.ensures.crash_consistent)

pub returns-in-Some-clause-worn : goal.returns-in-Some-clause-worn
returns-in-Some-clause-worn g c = not_worn g.S.Store.facts c.args.self.now c.in-Some.fault (sym c.in-Some.ensures.is)
