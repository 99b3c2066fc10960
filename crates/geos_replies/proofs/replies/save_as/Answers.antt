use Rattle.std.proofs.Common.{◌∙◌, sym}
use Rattle.geos_replies.proofs.FileFaults.{file_save_as}
use Rattle.geos_replies.proofs.Refusals.{keeps_target}
use Rattle.geos_replies.proofs.Serving.{serves_accepted, serves_refused}
use Rattle.geos_replies.proofs.replies.save_as.Goals as goal

-- The old store is put aside.
pub returns-in-Ok-clause-serves : goal.returns-in-Ok-clause-serves
returns-in-Ok-clause-serves g c =
    let was = sym c.take.ensures.value ∙ c.in-Some.is in
    let done = c.in-Ok.ensures in
    let gone = c.take.ensures.after in
    rw (was, gone) (serves_accepted g.S.Store.facts c.args.session.now c.save_as.new.self c.in-Some.store c.in-Ok.old c.args.former.now done.ok done.saved_as.reverted done.saved_as.new_file done.saved_as.checksums done.saved_as.follows)

-- The target goes back into its place.
pub returns-in-Err-clause-serves : goal.returns-in-Err-clause-serves
returns-in-Err-clause-serves g c =
    let was = sym c.take.ensures.value ∙ c.in-Some.is in
    let refused = c.in-Err.ensures in
    rw was (serves_refused g.S.Store.facts c.args.session.now c.save_as.new.self c.in-Some.store c.in-Err.refused.store c.args.former.now c.in-Err.refused.fault refused.err refused.saved_as.commits refused.saved_as.passes refused.saved_as.follows)

pub returns-in-Err-clause-stays : goal.returns-in-Err-clause-stays
returns-in-Err-clause-stays g c =
    let was = sym c.take.ensures.value ∙ c.in-Some.is in
    let refused = c.in-Err.ensures in
    rw was (keeps_target g.S.Store.facts c.args.session.now c.save_as.new.self c.in-Some.store c.in-Err.refused.store c.args.former.now c.in-Err.refused.fault refused.saved_as (λ f is. (c.save_as.ensures.held f is).1) refused.lists c.save_as.ensures.resident)

-- A store failed where the fault is the file's.
pub returns-in-Err-clause-file : goal.returns-in-Err-clause-file
returns-in-Err-clause-file g c =
    let was = sym c.take.ensures.value ∙ c.in-Some.is in
    let refused = c.in-Err.ensures in
    let held = c.save_as.ensures.held in
    rw was (file_save_as g.S.Store.facts c.args.session.now c.save_as.new.self c.in-Some.store c.in-Err.refused.store c.args.former.now c.in-Err.refused.fault refused.saved_as (λ f busy. (rw c.in-Err.is at (held f busy).0).0))
