use Rattle.std.proofs.Common.{◌≡◌, Ok, List, nat_lt, refl, ap, sym, subst, ◌∙◌, arith}
use Rattle.std.specs.Vec.{with_items}
use Rattle.std.proofs.lemmas.List.{with_items_is}
use Rattle.geos_model.specs.Targets.{large_edit}
use Rattle.geos_model.specs.declared.command.Done.TheVariants.{Nothing}
use Rattle.geos_model.specs.declared.fault.Fault.TheVariants.{Memory}
use Rattle.vm_blocks.specs.Preparing.{AreApplied, CantPrepareAll}
use Rattle.vm_blocks.specs.declared.change.Change.{Change}
use Rattle.vm_blocks.proofs.KeepingLaws.{keeps-locks, keeps-trans}
use Rattle.undo_log.specs.Editing.{EditsSession}
use Rattle.undo_log.specs.Logging.{Log, with_changes}
use Rattle.undo_log.specs.Sessions.{SessionState}
use Rattle.undo_log.proofs.Editing.{carried, edit_barred}
use Rattle.undo_log.proofs.Keeping.{Holds, kept_invariant}
use Rattle.undo_log.proofs.LargeEdits.{large_holds, large_is, large_made, large_unmade, large_unplanned, large_unserved}
use Rattle.undo_log.proofs.LookUps.{session_with}
use Rattle.undo_log.proofs.session.Session.edit_large.Goals as goal

-- a lock bars the edit
pub returns-then-has_locks : goal.returns-then-has_locks
returns-then-has_locks g c =
    let facts = g.S.Store.facts in let edit = large_edit c.args.root c.args.edit in
    let old = session_with c.self.inside.blocks c.self.inside.log.lists in
    subst (λ (s : SessionState g.row.S.Denot). EditsSession facts edit s s _) c.self.view_is
    (edit_barred facts old edit c.reveal_invariant.ensures.distinct ((large_is c.args.root c.args.edit).bars_is c.self.inside.blocks.resident ∙ sym c.has_locks.ensures ∙ c.if-has_locks.true))

-- it isn't planned
pub invariant_of-self : goal.invariant_of-self
invariant_of-self g c = kept_invariant g.S.Store.facts c.self.inside.blocks c.plan_large.new.blocks c.self.inside.log.lists c.in_err-changes.ensures.keeps c.self.invariant

pub returns-in_err-changes : goal.returns-in_err-changes
returns-in_err-changes g c =
    let facts = g.S.Store.facts in let edit = large_edit c.args.root c.args.edit in let large = large_is c.args.root c.args.edit in
    let old = session_with c.self.inside.blocks c.self.inside.log.lists in
    let new = session_with c.plan_large.new.blocks c.self.inside.log.lists in
    let free = large.bars_is c.self.inside.blocks.resident ∙ sym c.has_locks.ensures ∙ c.if-has_locks.false in
    let fault = c.in_err-changes.field-0.0 in
    carried c.self.view_is fault c.from_residual.result c.from_residual.ensures.1
    (large_unplanned facts old new edit large c.reveal_invariant.ensures.distinct free (record { blocks = c.in_err-changes.ensures.keeps; log = refl }) fault c.in_err-changes.ensures)

-- memory for the log runs out
pub invariant_of-self-in_err-reserve : goal.invariant_of-self-in_err-reserve
invariant_of-self-in_err-reserve g c =
    subst (λ (l : Log). Holds c.plan_large.new.blocks l) (sym c.in_err-reserve.ensures.lists)
    (kept_invariant g.S.Store.facts c.self.inside.blocks c.plan_large.new.blocks c.self.inside.log.lists c.in_ok-changes.ensures.keeps c.self.invariant)

pub returns-in_err-reserve : goal.returns-in_err-reserve
returns-in_err-reserve g c =
    let facts = g.S.Store.facts in let edit = large_edit c.args.root c.args.edit in let large = large_is c.args.root c.args.edit in
    let old = session_with c.self.inside.blocks c.self.inside.log.lists in
    let new = session_with c.plan_large.new.blocks c.reserve.new.self.lists in
    let free = large.bars_is c.self.inside.blocks.resident ∙ sym c.has_locks.ensures ∙ c.if-has_locks.false in
    carried c.self.view_is Memory c.from_residual-in_err-reserve.result c.from_residual-in_err-reserve.ensures.1
    (large_unserved facts old new edit large c.reveal_invariant.ensures.distinct free (record { blocks = c.in_ok-changes.ensures.keeps; log = c.in_err-reserve.ensures.lists }) c.in_ok-changes.ensures.room (λ unread. (c.in_ok-changes.ensures.unseen unread).1))

-- nothing is marked or locked
pub make_all-requires-clause-unmarked : goal.make_all-requires-clause-unmarked
make_all-requires-clause-unmarked g c =
    (kept_invariant g.S.Store.facts c.self.inside.blocks c.plan_large.new.blocks c.self.inside.log.lists c.in_ok-changes.ensures.keeps c.self.invariant).1

pub make_all-requires-clause-unlocked : goal.make_all-requires-clause-unlocked
make_all-requires-clause-unlocked g c =
    ap (nat_lt 0) (keeps-locks g.S.Store.facts c.self.inside.blocks c.plan_large.new.blocks c.in_ok-changes.ensures.keeps).count ∙ sym c.has_locks.ensures ∙ c.if-has_locks.false

-- its changes aren't made
pub invariant_of-self-in_err-make_all : goal.invariant_of-self-in_err-make_all
invariant_of-self-in_err-make_all g c =
    let facts = g.S.Store.facts in let mid = c.plan_large.new.blocks in let new = c.make_all.new.blocks in
    subst (λ (l : Log). Holds new l) (sym c.in_ok-reserve.ensures.lists)
    (kept_invariant facts c.self.inside.blocks new c.self.inside.log.lists (keeps-trans facts c.self.inside.blocks mid new c.in_ok-changes.ensures.keeps c.in_err-make_all.ensures.err) c.self.invariant)

pub returns-in_err-make_all : goal.returns-in_err-make_all
returns-in_err-make_all g c =
    let facts = g.S.Store.facts in let edit = large_edit c.args.root c.args.edit in let large = large_is c.args.root c.args.edit in
    let mid = c.plan_large.new.blocks in let plan = c.in_ok-changes.ensures in let fault = c.in_err-make_all.field-0.0 in
    let old = session_with c.self.inside.blocks c.self.inside.log.lists in
    let new = session_with c.make_all.new.blocks c.reserve.new.self.lists in
    let free = large.bars_is c.self.inside.blocks.resident ∙ sym c.has_locks.ensures ∙ c.if-has_locks.false in
    let why = subst (λ (cs : List Change). CantPrepareAll facts cs mid c.make_all.new.blocks fault) c.as_mut_slice.ensures.value c.in_err-make_all.ensures.refusals in
    carried c.self.view_is fault c.from_residual-in_err-make_all.result c.from_residual-in_err-make_all.ensures.1
    (large_unmade facts old new mid edit large c.reveal_invariant.ensures.distinct free c.in_ok-changes.changes plan fault
    (record { blocks = keeps-trans facts c.self.inside.blocks mid c.make_all.new.blocks plan.keeps c.in_err-make_all.ensures.err; log = c.in_ok-reserve.ensures.lists }) why)

-- they are

pub invariant_of-self-2 : goal.invariant_of-self-2
invariant_of-self-2 g c =
    let facts = g.S.Store.facts in let edit = large_edit c.args.root c.args.edit in let large = large_is c.args.root c.args.edit in
    let mid = c.plan_large.new.blocks in let changes = c.in_ok-changes.changes in
    let old = session_with c.self.inside.blocks c.self.inside.log.lists in
    let new = session_with c.make_all.new.blocks c.add_all.new.self.lists in
    let free = large.bars_is c.self.inside.blocks.resident ∙ sym c.has_locks.ensures ∙ c.if-has_locks.false in
    let makes = subst (λ (cs : List Change). AreApplied facts cs mid c.make_all.new.blocks) c.as_mut_slice.ensures.value c.in_ok-make_all.ensures.ok in
    let left : (with_items changes c.make_all.new.changes).items ≡ changes.items =
    ap (λ (cs : List Change). (with_items changes cs).items) (c.make_all.ensures.changes ∙ c.as_mut_slice.ensures.value) ∙ with_items_is changes changes.items (omega arith) in
    let log : c.add_all.new.self.lists ≡ with_changes changes.items c.self.inside.log.lists =
    c.add_all.ensures ∙ ap (λ (cs : List Change). with_changes cs c.reserve.new.self.lists) left ∙ ap (λ (l : Log). with_changes changes.items l) c.in_ok-reserve.ensures.lists in
    large_holds facts old new mid edit large c.reveal_invariant.ensures.distinct free changes c.in_ok-changes.ensures makes c.reveal_invariant.ensures.listed log c.self.invariant

pub returns : goal.returns
returns g c =
    let facts = g.S.Store.facts in let edit = large_edit c.args.root c.args.edit in let large = large_is c.args.root c.args.edit in
    let mid = c.plan_large.new.blocks in let changes = c.in_ok-changes.changes in
    let old = session_with c.self.inside.blocks c.self.inside.log.lists in
    let new = session_with c.make_all.new.blocks c.add_all.new.self.lists in
    let free = large.bars_is c.self.inside.blocks.resident ∙ sym c.has_locks.ensures ∙ c.if-has_locks.false in
    let makes = subst (λ (cs : List Change). AreApplied facts cs mid c.make_all.new.blocks) c.as_mut_slice.ensures.value c.in_ok-make_all.ensures.ok in
    let left : (with_items changes c.make_all.new.changes).items ≡ changes.items =
    ap (λ (cs : List Change). (with_items changes cs).items) (c.make_all.ensures.changes ∙ c.as_mut_slice.ensures.value) ∙ with_items_is changes changes.items (omega arith) in
    let log : c.add_all.new.self.lists ≡ with_changes changes.items c.self.inside.log.lists =
    c.add_all.ensures ∙ ap (λ (cs : List Change). with_changes cs c.reserve.new.self.lists) left ∙ ap (λ (l : Log). with_changes changes.items l) c.in_ok-reserve.ensures.lists in
    subst (λ (s : SessionState g.row.S.Denot). EditsSession facts edit s new (Ok Nothing)) c.self.view_is
    (large_made facts old new mid edit large c.reveal_invariant.ensures.distinct free changes c.in_ok-changes.ensures makes log)
