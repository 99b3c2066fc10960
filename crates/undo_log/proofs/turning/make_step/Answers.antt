use Rattle.std.proofs.Common.{sym, subst}
use Rattle.std.specs.Prelude.{IfErr}
use Rattle.vm_blocks.specs.ByteChanges.{byte_change}
use Rattle.vm_blocks.specs.Changes.{directed}
use Rattle.vm_blocks.proofs.KeepingLaws.{none-open}
use Rattle.undo_log.specs.Steps.{step_entry}
use Rattle.undo_log.specs.Turning.{CantApplyEntry}
use Rattle.undo_log.specs.declared.step.Step.{Step}
use Rattle.undo_log.proofs.Turns.{unready_refuses}
use Rattle.undo_log.proofs.turning.make_step.Goals as goal

pub returns-in-Bytes-clause-refusals : goal.returns-in-Bytes-clause-refusals
returns-in-Bytes-clause-refusals g c =
    subst (λ (s : Step). IfErr c.change_bytes.result (CantApplyEntry g.S.Store.facts c.args.direction (step_entry s).entry c.args.blocks.now c.change_bytes.new.self)) (sym c.in-Bytes.is)
    (unready_refuses g.S.Store.facts (directed c.args.direction (byte_change c.in-Bytes.change)) c.args.blocks.now c.change_bytes.new.self c.change_bytes.result
    (none-open c.args.blocks.now c.reveal_invariant.ensures.some c.requires.unlocked) c.change_bytes.ensures.refusals)
