use Rattle.std.proofs.Common.{List, ℕ, Some, ap, false, refl, subst, sym}
use Rattle.geos_model.specs.Reply.{BytesAre, reply_of}
use Rattle.geos_model.specs.declared.command.Command.TheVariants as commands
use Rattle.geos_model.specs.declared.fault.Fault.{Fault}
use Rattle.doc_edits.specs.Found.{IsChunkAt}
use Rattle.doc_edits.specs.LookUps.{IsPreparedLookUp}
use Rattle.doc_edits.specs.declared.look_ups.Prepared.{Prepared}
use Rattle.doc_edits.proofs.LookUps.{answered_with_room, mapped, read_reply, sure}
use Rattle.doc_edits.proofs.look_ups.answer.Goals as goal

pub returns-in-Raw : goal.returns-in-Raw
returns-in-Raw g c =
    let b = c.in-Raw.block in let d = c.args.blocks.now.document in let reply = BytesAre c.bytes.result.now in
    rw c.in-Raw.is (λ lists. sure (commands.ReadRaw b) d reply (answered_with_room (λ (fault : Fault). ⊥) false refl (commands.ReadRaw b) d reply (rw c.raw_at.ensures refl) (rw c.raw_at.ensures (ap (λ (bytes : List ℕ). Some (BytesAre bytes)) (sym c.bytes.ensures.value)))))

pub returns-in-Chunk : goal.returns-in-Chunk
returns-in-Chunk g c =
    let d = c.args.blocks.now.document in
    rw c.in-Chunk.is (λ lists. read_reply d c.in-Chunk.block c.in-Chunk.chunk (λ bytes. bytes.now) c.bytes_in.result _ (c.bytes_in.ensures d c.in-Chunk.block.0 c.heap_at.ensures)
    (mapped (λ bytes. BytesAre bytes.now) _ c.bytes_in.result c.map.result c.map.ensures.cases (λ x y h. ap reply_of h)))

pub returns-in-Array : goal.returns-in-Array
returns-in-Array g c =
    let d = c.args.blocks.now.document in
    rw c.in-Array.is (λ lists. c.array_reply.ensures d c.in-Array.block c.in-Array.chunk (subst (λ (bytes : List ℕ). IsChunkAt d c.in-Array.block.0 c.in-Array.chunk.0 bytes) (sym c.known_at.ensures) (subst (λ (p : Prepared). IsPreparedLookUp p c.args.blocks.now) c.in-Array.is c.requires.ready).1))
