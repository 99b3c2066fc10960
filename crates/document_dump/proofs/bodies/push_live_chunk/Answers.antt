use Rattle.document_dump.proofs.ArraysMade.{to_make-array}
use Rattle.document_dump.proofs.bodies.push_live_chunk.Goals as goal

pub push_array_edits-requires : goal.push_array_edits-requires
push_array_edits-requires c = to_make-array c.args.bytes.now c.in-Some.array.array c.in-Some.ensures
