use Rattle.std.proofs.Common.{◌≡◌, List, map, ap, subst, sym}
use Rattle.std.specs.Prelude.{IfErr, IsOk}
use Rattle.vm_blocks.specs.Changes.{directed, directed_all}
use Rattle.vm_blocks.specs.Preparing.{AreInMemory, CanApplyAll, NoneComesIn, after_changes}
use Rattle.vm_blocks.specs.declared.change.Change.{Change}
use Rattle.vm_blocks.proofs.KeepingLaws.{none-open}
use Rattle.undo_log.specs.Logging.{after_entry, changes_in}
use Rattle.undo_log.specs.Turning.{CanApplyEntry, CantApplyEntry}
use Rattle.undo_log.specs.Entries.{LogEntry}
use Rattle.undo_log.proofs.Locks.{none_of_count}
use Rattle.undo_log.proofs.Turns.{all_apply, none_locked, unready_refuses}
use Rattle.undo_log.proofs.turning.make_entry.Goals as goal

pub change-requires-clause-unlocked : goal.change-requires-clause-unlocked
change-requires-clause-unlocked g c = none_locked _ c.args.blocks.now.resident (none_of_count c.args.blocks.now.resident c.requires.unlocked)

pub returns-in-Some-clause-refusals : goal.returns-in-Some-clause-refusals
returns-in-Some-clause-refusals g c =
    subst (λ (e : LogEntry). IfErr c.change.result (CantApplyEntry g.S.Store.facts c.args.direction e c.args.blocks.now c.change.new.self)) (sym c.in-Some.ensures)
    (unready_refuses g.S.Store.facts (directed c.args.direction c.in-Some.change.now) c.args.blocks.now c.change.new.self c.change.result (none-open c.args.blocks.now c.reveal_invariant.ensures.some c.requires.unlocked) c.change.ensures.refusals)

pub returns-in-None-clause-sure : goal.returns-in-None-clause-sure
returns-in-None-clause-sure g c =
    let direction = c.args.direction in
    let old = c.args.blocks.now in
    let new = c.change_all.new.self in
    let cs = changes_in c.args.entry.now.entry in
    let same : directed_all direction c.as_slice.result.now ≡ map (directed direction) cs = ap (map (directed direction)) c.as_slice.ensures in
    let sure = subst (λ (xs : List Change). NoneComesIn xs → AreInMemory xs old → CanApplyAll xs old.document → IsOk c.change_all.result × (new.disk ≡ old.disk) × (new.document ≡ after_changes xs old.document)) same c.change_all.ensures.sure in
    subst (λ (e : LogEntry). CanApplyEntry direction e old → IsOk c.change_all.result × (new.disk ≡ old.disk) × (new.document ≡ after_entry direction e old.document)) (sym c.in-None.ensures)
    (λ can. sure can.0 can.1 (all_apply direction cs old.document can.2))
