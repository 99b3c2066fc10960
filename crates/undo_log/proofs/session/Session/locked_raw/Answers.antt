use Rattle.std.proofs.Common.{Some, ap, ◌∙◌}
use Rattle.geos_model.specs.declared.command.Body.TheVariants.{Raw}
use Rattle.vm_blocks.specs.Bodies.{body_value}
use Rattle.vm_blocks.specs.declared.body.BlockBody.{BlockBody}
use Rattle.undo_log.proofs.Locking.{raw_of, none_of_raw}
use Rattle.undo_log.proofs.session.Session.locked_raw.Goals as goal

pub returns-in_err-body : goal.returns-in_err-body
returns-in_err-body g c = λ target. rw c.from_residual.ensures (none_of_raw c.args.self.now target c.args.block.0 c.in_err-body.ensures)

pub returns-in-Raw : goal.returns-in-Raw
returns-in-Raw g c = λ target.
    let e = c.in_ok-body.ensures in
    ap Some c.bytes.ensures.value ∙ raw_of c.args.self.now target c.args.block.0 e.0 (Raw c.in-Raw.body) (e.1 ∙ ap (λ (x : BlockBody). Some (body_value x)) c.in-Raw.is)
