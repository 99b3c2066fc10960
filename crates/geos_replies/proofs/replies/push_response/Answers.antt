use Rattle.std.proofs.Common.{◌≡◌, ℕ, List, Ok, true, ap, refl, rules, subst}
use Rattle.std.proofs.lemmas.Result.{on_err_weaker}
use Rattle.geos_model.specs.LookUps.{command_of, is_look_up}
use Rattle.geos_model.specs.Reply.{Accepted, reply_by, reply_of_done}
use Rattle.geos_model.specs.declared.command.Command.{Command}
use Rattle.geos_model.specs.declared.command.Command.TheVariants as commands
use Rattle.undo_log.specs.Sessions.{IsStep}
use Rattle.geos_model.specs.declared.fault.Fault.TheVariants as faults
use Rattle.geos_replies.specs.Replies.{asks_no_body}
use Rattle.geos_replies.proofs.Calls.{on_err_always, was_ok}
use Rattle.geos_replies.proofs.FileFaults.{file_abandon, file_commit, file_edit, file_join, file_lock, file_name, file_turn, file_unlock, file_wrong}
use Rattle.geos_replies.proofs.Frames.{frames_abandon, frames_edit, frames_logged, frames_lock, frames_log, frames_same, frames_turn}
use Rattle.geos_replies.proofs.InMemory.{lock_in_memory, turn_in_memory}
use Rattle.geos_replies.proofs.Refusals.{keeps_commit, keeps_if_same, keeps_same, keeps_with, on_err_of}
use Rattle.geos_replies.proofs.Replying.{done_is_other, extends_told, replied, replied_accepted, replied_mapped, replied_told, seen_as, told_of}
use Rattle.geos_replies.proofs.Serving.{disk_logged, disk_kept, lock_passes, serves_at_rest, serves_commit, serves_logging, serves_passing, serves_staying, told_as_accepted}
use Rattle.geos_replies.proofs.replies.push_response.Goals as goal

-- Edits, and undo and redo, commit nothing.

pub returns-in-Edit-clause-replied : goal.returns-in-Edit-clause-replied
returns-in-Edit-clause-replied g c =
    let facts = g.S.Store.facts in
    let old = c.args.session.now in
    let new = c.edit.new.self in
    let done = c.edit.ensures in
    rw c.in-Edit.is (replied_mapped facts c.push_reply.result _ reply_of_done _ c.edit.result c.map.result _ _ c.map.ensures.cases (λ x y h. search rules) c.push_reply.ensures.ok old new _ _ done_is_other
    (on_err_weaker c.edit.result (keeps_with facts _ _ old new) done.err)
    (file_edit facts _ old new c.edit.result done.refusals)
    (frames_edit facts old new _ c.edit.result done.ok done.err)
    (serves_passing facts _ _ _ _ _ _ done.passes done.step (λ nothing. nothing) tt)
    (λ well. was_ok c.edit.result well done.in_memory))

pub returns-in-Undo-clause-replied : goal.returns-in-Undo-clause-replied
returns-in-Undo-clause-replied g c =
    let facts = g.S.Store.facts in
    let old = c.args.session.now in
    let new = c.undo.new.self in
    let done = c.undo.ensures in
    rw c.in-Undo.is (replied_accepted facts old new _ _ c.push_accepted.result c.undo.result _ _ _
    (on_err_weaker c.undo.result (keeps_with facts _ _ old new) done.err)
    (file_turn facts faults.NothingToUndo _ old new (λ is. cc is) c.undo.result done.refusals)
    (frames_turn facts old new _ _ _ _ _ c.undo.result done.ok done.err)
    (serves_passing facts _ _ _ _ _ _ done.passes done.step (λ nothing. nothing) (λ free is. let taken = done.sure free is in (told_as_accepted _ taken.0, taken.1)))
    (turn_in_memory facts _ old new _ _ _ _ c.undo.result done.ok) c.push_accepted.ensures.ok)

pub returns-in-Redo-clause-replied : goal.returns-in-Redo-clause-replied
returns-in-Redo-clause-replied g c =
    let facts = g.S.Store.facts in
    let old = c.args.session.now in
    let new = c.redo.new.self in
    let done = c.redo.ensures in
    rw c.in-Redo.is (replied_accepted facts old new _ _ c.push_accepted-in-Redo.result c.redo.result _ _ _
    (on_err_weaker c.redo.result (keeps_with facts _ _ old new) done.err)
    (file_turn facts faults.NothingToRedo _ old new (λ is. cc is) c.redo.result done.refusals)
    (frames_turn facts old new _ _ _ _ _ c.redo.result done.ok done.err)
    (serves_passing facts _ _ _ _ _ _ done.passes done.step (λ nothing. nothing) (λ free is. let taken = done.sure free is in (told_as_accepted _ taken.0, taken.1)))
    (turn_in_memory facts _ old new _ _ _ _ c.redo.result done.ok) c.push_accepted-in-Redo.ensures.ok)

-- To begin a group or to end one calls no store; to abandon one commits nothing.

pub returns-in-Begin-clause-replied : goal.returns-in-Begin-clause-replied
returns-in-Begin-clause-replied g c =
    let facts = g.S.Store.facts in
    let old = c.args.session.now in
    let new = c.begin.new.self in
    let done = c.begin.ensures in
    let same = disk_kept facts _ _ _ old new _ c.begin.result done.ok done.err in
    rw c.in-Begin.is (replied_accepted facts old new _ _ c.push_accepted-in-Begin.result c.begin.result _ _ _
    (keeps_if_same facts _ _ old new _ _ c.begin.result done.err)
    (file_wrong facts _ _ old.disk.store new.disk.store faults.GroupOpen (λ is. cc is) c.begin.result done.err)
    (frames_log facts old new _ _ _ _ c.begin.result done.ok done.err)
    (serves_staying facts _ _ _ _ _ _ same done.exact done.step (λ stays. stays) tt)
    (λ well. tt) c.push_accepted-in-Begin.ensures.ok)

pub returns-in-End-clause-replied : goal.returns-in-End-clause-replied
returns-in-End-clause-replied g c =
    let facts = g.S.Store.facts in
    let old = c.args.session.now in
    let new = c.end.new.self in
    let done = c.end.ensures in
    let same = disk_kept facts _ _ _ old new _ c.end.result done.ok done.err in
    rw c.in-End.is (replied_accepted facts old new _ _ c.push_accepted-in-End.result c.end.result _ _ _
    (keeps_if_same facts _ _ old new _ _ c.end.result done.err)
    (file_wrong facts _ _ old.disk.store new.disk.store faults.NoGroup (λ is. cc is) c.end.result done.err)
    (frames_log facts old new _ _ _ _ c.end.result done.ok done.err)
    (serves_staying facts _ _ _ _ _ _ same done.exact done.step (λ stays. stays) tt)
    (λ well. tt) c.push_accepted-in-End.ensures.ok)

pub returns-in-Abandon-clause-replied : goal.returns-in-Abandon-clause-replied
returns-in-Abandon-clause-replied g c =
    let facts = g.S.Store.facts in
    let old = c.args.session.now in
    let new = c.abandon.new.self in
    let done = c.abandon.ensures in
    rw c.in-Abandon.is (replied_accepted facts old new _ _ c.push_accepted-in-Abandon.result c.abandon.result _ _ _
    (on_err_weaker c.abandon.result (keeps_with facts _ _ old new) done.err)
    (file_abandon facts old new c.abandon.result done.refusals)
    (frames_abandon facts old new c.abandon.result done.ok done.err)
    (serves_passing facts _ _ _ _ _ _ done.passes done.step (λ nothing. nothing) (λ free sure. let taken = done.sure free sure in (told_as_accepted _ taken.0, taken.1)))
    (λ well. tt) c.push_accepted-in-Abandon.ensures.ok)

-- To join two steps, to name one or to forget some calls no store.

pub returns-in-Join-clause-replied : goal.returns-in-Join-clause-replied
returns-in-Join-clause-replied g c =
    let facts = g.S.Store.facts in
    let old = c.args.session.now in
    let new = c.join.new.self in
    let done = c.join.ensures in
    rw c.in-Join.is (replied_accepted facts old new _ _ c.push_accepted-in-Join.result c.join.result _ _ _
    (on_err_weaker c.join.result (keeps_same facts _ _ old new) (on_err_of _ _ c.join.result done.done))
    (file_join facts old new c.join.result done.refusals)
    (frames_logged facts old new _ c.join.result done.done)
    (serves_logging facts _ _ _ _ _ _ (disk_logged facts old new _ c.join.result done.done) done.step (λ stays. stays) tt)
    (λ well. tt) c.push_accepted-in-Join.ensures.ok)

pub returns-in-Forget-clause-replied : goal.returns-in-Forget-clause-replied
returns-in-Forget-clause-replied g c =
    let facts = g.S.Store.facts in
    let old = c.args.session.now in
    let new = c.forget.new.self in
    let done = c.forget.ensures in
    let disk : new.disk ≡ old.disk = rw done.done refl in
    rw c.in-Forget.is (replied_accepted facts old new _ _ c.push_accepted-in-Forget.result (Ok tt) _ _ _
    tt tt (rw done.done refl)
    (serves_logging facts _ _ _ _ _ _ disk done.step (λ stays. stays) (refl, disk))
    (λ well. tt) c.push_accepted-in-Forget.ensures.ok)

pub returns-in-Name-clause-replied : goal.returns-in-Name-clause-replied
returns-in-Name-clause-replied g c =
    let facts = g.S.Store.facts in
    let old = c.args.session.now in
    let new = c.name_step.new.self in
    let done = c.name_step.ensures in
    let named = ap (λ (name : List ℕ). commands.Name name) c.as_slice.ensures in
    rw c.in-Name.is (replied_accepted facts old new _ _ c.push_accepted-in-Name.result c.name_step.result _ _ _
    (on_err_weaker c.name_step.result (keeps_same facts _ _ old new) (on_err_of _ _ c.name_step.result done.done))
    (file_name facts old new _ c.name_step.result done.refusals)
    (frames_logged facts old new _ c.name_step.result done.done)
    (serves_logging facts _ _ _ _ _ _ (disk_logged facts old new _ c.name_step.result done.done) (subst (λ (asked : Command). IsStep facts old new asked (reply_by (λ _. Accepted) c.name_step.result)) named done.step) (λ stays. stays) tt)
    (λ well. tt) c.push_accepted-in-Name.ensures.ok)

-- Commits.

pub returns-in-Update-clause-replied : goal.returns-in-Update-clause-replied
returns-in-Update-clause-replied g c =
    let facts = g.S.Store.facts in
    let old = c.args.session.now in
    let new = c.update.new.self in
    let done = c.update.ensures in
    rw c.in-Update.is (replied_accepted facts old new _ _ c.push_accepted-in-Update.result c.update.result _ _ _
    (keeps_commit facts _ _ old new _ _ c.update.result done.commit (on_err_of _ _ c.update.result done.lists.0) done.lists.1 (on_err_always c.update.result done.resident))
    (file_commit facts old new c.update.result done.fails.file)
    done.lists.1
    (serves_commit facts _ _ _ _ _ _ _ done.commit.commits done.commit.passes done.fails.file done.step (λ settles. settles) tt)
    (λ well. tt) c.push_accepted-in-Update.ensures.ok)

pub returns-in-Save-clause-replied : goal.returns-in-Save-clause-replied
returns-in-Save-clause-replied g c =
    let facts = g.S.Store.facts in
    let old = c.args.session.now in
    let new = c.save.new.self in
    let done = c.save.ensures in
    rw c.in-Save.is (replied_accepted facts old new _ _ c.push_accepted-in-Save.result c.save.result _ _ _
    (keeps_commit facts _ _ old new _ _ c.save.result done.commit (on_err_of _ _ c.save.result done.lists.0) done.lists.1 (on_err_always c.save.result done.resident))
    (file_commit facts old new c.save.result done.fails.file)
    done.lists.1
    (serves_commit facts _ _ _ _ _ _ _ done.commit.commits done.commit.passes done.fails.file done.step (λ settles. settles) tt)
    (λ well. tt) c.push_accepted-in-Save.ensures.ok)

pub returns-in-Revert-clause-replied : goal.returns-in-Revert-clause-replied
returns-in-Revert-clause-replied g c =
    let facts = g.S.Store.facts in
    let old = c.args.session.now in
    let new = c.revert.new.self in
    let done = c.revert.ensures in
    rw c.in-Revert.is (replied_accepted facts old new _ _ c.push_accepted-in-Revert.result c.revert.result _ _ _
    (keeps_commit facts _ _ old new _ _ c.revert.result done.commit (on_err_of _ _ c.revert.result done.lists.0) done.lists.1 (on_err_of _ _ c.revert.result done.resident))
    (file_commit facts old new c.revert.result done.fails.file)
    done.lists.1
    (serves_commit facts _ _ _ _ _ _ _ done.commit.commits done.commit.passes done.fails.file done.step (λ settles. settles) tt)
    (λ well. tt) c.push_accepted-in-Revert.ensures.ok)

pub returns-in-SaveAs-clause-replied : goal.returns-in-SaveAs-clause-replied
returns-in-SaveAs-clause-replied g c =
    let done = c.save_as.ensures in
    rw c.in-SaveAs.is (replied g.S.Store.facts c.push_accepted-in-SaveAs.result (λ _. Accepted) c.save_as.result _ _ _ _ _ (λ x. refl) done.stays done.file done.frames done.serves (λ well. tt) c.push_accepted-in-SaveAs.ensures.ok)

-- A lock may bring the block into memory; to take one away, or to use one, calls no store.

pub returns-in-Lock-clause-replied : goal.returns-in-Lock-clause-replied
returns-in-Lock-clause-replied g c =
    let facts = g.S.Store.facts in
    let old = c.args.session.now in
    let new = c.lock.new.self in
    let done = c.lock.ensures in
    rw c.in-Lock.is (replied_accepted facts old new _ _ c.push_accepted-in-Lock.result c.lock.result _ _ _
    (on_err_weaker c.lock.result (keeps_with facts _ _ old new) done.err)
    (file_lock facts _ old new c.lock.result done.refusals)
    (frames_lock facts old new _ c.lock.result done.ok done.err)
    (serves_passing facts _ _ _ _ _ _ (lock_passes facts _ _ _ c.lock.result done.ok done.err) done.step (λ nothing. nothing) tt)
    (lock_in_memory facts _ _ _ c.lock.result done.ok) c.push_accepted-in-Lock.ensures.ok)

pub returns-in-Unlock-clause-replied : goal.returns-in-Unlock-clause-replied
returns-in-Unlock-clause-replied g c =
    let facts = g.S.Store.facts in
    let old = c.args.session.now in
    let new = c.unlock.new.self in
    let done = c.unlock.ensures in
    rw c.in-Unlock.is (replied_accepted facts old new _ _ c.push_accepted-in-Unlock.result c.unlock.result _ _ _
    (on_err_weaker c.unlock.result (keeps_same facts _ _ old new) done.err)
    (file_unlock facts _ old new c.unlock.result done.refusals)
    (frames_same old new done.same)
    (serves_at_rest facts _ _ _ _ _ _ done.same done.step (λ stays. stays) tt)
    (λ well. tt) c.push_accepted-in-Unlock.ensures.ok)

pub returns-in-Dirty-clause-replied : goal.returns-in-Dirty-clause-replied
returns-in-Dirty-clause-replied g c =
    let facts = g.S.Store.facts in
    let old = c.args.session.now in
    let new = c.dirty.new.self in
    let done = c.dirty.ensures in
    rw c.in-Dirty.is (replied_accepted facts old new _ _ c.push_accepted-in-Dirty.result c.dirty.result _ _ _
    (on_err_always c.dirty.result (keeps_same facts _ _ old new done.same))
    (file_unlock facts _ old new c.dirty.result done.refusals)
    (frames_same old new (rw done.same refl))
    (serves_at_rest facts _ _ _ _ _ _ (rw done.same refl) done.step (λ stays. stays) tt)
    (λ well. tt) c.push_accepted-in-Dirty.ensures.ok)

-- Look-ups commit nothing.

pub returns-in-Some-clause-replied : goal.returns-in-Some-clause-replied
returns-in-Some-clause-replied g c =
    let asked = c.push_look_up.ensures in
    let seen : command_of c.in-Some.look_up ≡ c.args.command.now = seen_as c.args.command.now c.look_up.result c.look_up.ensures c.in-Some.look_up c.in-Some.is in
    let asks : is_look_up c.args.command.now ≡ true = search rules in
    replied_told g.S.Store.facts c.push_look_up.result c.args.session.now c.push_look_up.new.session c.args.target.now c.args.former.now c.args.command.now _ _ asks
    (subst (λ (x : Command). asks_no_body x ≡ true → c.push_look_up.new.session ≡ c.args.session.now) seen asked.stays)
    (told_of g.S.Store.facts c.push_look_up.result c.args.session.now c.push_look_up.new.session _ _ (command_of c.in-Some.look_up) c.args.command.now seen asked.told)

pub returns-in-Some-clause-ok : goal.returns-in-Some-clause-ok
returns-in-Some-clause-ok g c =
    extends_told c.push_look_up.result g.S.Store.facts c.args.session.now c.push_look_up.new.session (command_of c.in-Some.look_up) _ _ c.push_look_up.ensures.told
