use Rattle.std.proofs.Common.{refl, sym, subst, ◌∙◌}
use Rattle.geos_model.specs.Targets.{edit_of}
use Rattle.geos_model.specs.declared.fault.Fault.TheVariants.{Memory}
use Rattle.vm_blocks.proofs.KeepingLaws.{keeps-refl}
use Rattle.undo_log.specs.Editing.{EditsSession}
use Rattle.undo_log.specs.Logging.{Log}
use Rattle.undo_log.specs.Making.{MakesRecorded}
use Rattle.undo_log.specs.Sessions.{SessionState}
use Rattle.undo_log.proofs.Editing.{carried, edit_barred, edit_fails, edited, edited_holds, lacks_memory}
use Rattle.undo_log.proofs.LookUps.{same_session, session_with}
use Rattle.undo_log.proofs.session.Session.edit_once.Goals as goal

-- a lock bars the edit
pub returns-then-is_barred : goal.returns-then-is_barred
returns-then-is_barred g c =
    let facts = g.S.Store.facts in let edit = edit_of c.args.target in
    let old = session_with c.self.inside.blocks c.self.inside.log.lists in
    subst (λ (s : SessionState g.row.S.Denot). EditsSession facts edit s s _) c.self.view_is
    (edit_barred facts old edit c.reveal_invariant.ensures.distinct (sym c.is_barred.ensures ∙ c.if-is_barred.true))

-- memory for the lists runs out
pub returns-in_err-reserve : goal.returns-in_err-reserve
returns-in_err-reserve g c =
    let facts = g.S.Store.facts in let edit = edit_of c.args.target in
    let old = session_with c.self.inside.blocks c.self.inside.log.lists in
    let new = session_with c.self.inside.blocks c.reserve.new.self.lists in
    let distinct = c.reveal_invariant.ensures.distinct in
    let free = sym c.is_barred.ensures ∙ c.if-is_barred.false in
    let same = same_session c.self.inside.blocks c.self.inside.blocks c.self.inside.log.lists c.reserve.new.self.lists refl c.in_err-reserve.ensures.lists in
    carried c.self.view_is Memory c.from_residual.result c.from_residual.ensures.1
    (edit_fails facts old new edit distinct free Memory (record { blocks = keeps-refl facts c.self.inside.blocks; log = c.in_err-reserve.ensures.lists })
    (lacks_memory facts old new edit distinct free (λ _. same) (λ _. same) (λ _ _. (refl, refl))))

-- the edit is made with its record, or refused
pub invariant_of-self-2 : goal.invariant_of-self-2
invariant_of-self-2 g c =
    let facts = g.S.Store.facts in let edit = edit_of c.args.target in let old = c.self.inside.blocks in let new = c.make_recorded.new.blocks in
    let records = subst (λ (l : Log). MakesRecorded facts edit old new l c.make_recorded.new.log.lists c.make_recorded.result) c.in_ok-reserve.ensures.lists c.make_recorded.ensures in
    edited_holds facts edit old new c.self.inside.log.lists c.make_recorded.new.log.lists c.make_recorded.result c.reveal_invariant.ensures.listed records c.self.invariant

pub returns : goal.returns
returns g c =
    let facts = g.S.Store.facts in let edit = edit_of c.args.target in
    let old = session_with c.self.inside.blocks c.self.inside.log.lists in
    let new = session_with c.make_recorded.new.blocks c.make_recorded.new.log.lists in
    let free = sym c.is_barred.ensures ∙ c.if-is_barred.false in
    let records = subst (λ (l : Log). MakesRecorded facts edit c.self.inside.blocks c.make_recorded.new.blocks l c.make_recorded.new.log.lists c.make_recorded.result) c.in_ok-reserve.ensures.lists c.make_recorded.ensures in
    subst (λ (s : SessionState g.row.S.Denot). EditsSession facts edit s new c.make_recorded.result) c.self.view_is (edited facts old new edit c.reveal_invariant.ensures.distinct free c.make_recorded.result records)
