use Rattle.std.proofs.Common.{Some, refl, ap, ◌∙◌}
use Rattle.geos_model.specs.declared.command.Body.TheVariants.{Heap, Raw}
use Rattle.vm_blocks.specs.Bodies.{body_value}
use Rattle.vm_blocks.specs.declared.body.BlockBody.{BlockBody}
use Rattle.undo_log.proofs.Locking.{chunk_of, no_chunk_of, none_of_chunk}
use Rattle.undo_log.proofs.session.Session.locked_chunk.Goals as goal

pub returns-in_err-heap : goal.returns-in_err-heap
returns-in_err-heap g c = λ target. rw c.from_residual.ensures (none_of_chunk c.args.self.now target c.args.block.0 c.args.chunk.0 c.in_err-heap.ensures)

pub returns-in-Heap : goal.returns-in-Heap
returns-in-Heap g c = λ target.
    let e = c.in_ok-heap.ensures in
    c.chunk.ensures.value ∙ chunk_of c.args.self.now target c.args.block.0 e.0 (Heap c.in-Heap.heap.chunks) (e.1 ∙ ap (λ (x : BlockBody). Some (body_value x)) c.in-Heap.is) c.args.chunk.0

pub returns-in-Raw : goal.returns-in-Raw
returns-in-Raw g c = λ target.
    let e = c.in_ok-heap.ensures in
    no_chunk_of c.args.self.now target c.args.block.0 e.0 (Raw c.in-Raw.field-0) (e.1 ∙ ap (λ (x : BlockBody). Some (body_value x)) c.in-Raw.is) c.args.chunk.0 refl
