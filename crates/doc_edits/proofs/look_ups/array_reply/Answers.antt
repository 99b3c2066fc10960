use Rattle.doc_edits.proofs.look_ups.array_reply.Goals as goal

pub returns-in-Chunk : goal.returns-in-Chunk
returns-in-Chunk c = rw c.in-Chunk.is c.chunk_array_reply.ensures

pub returns-in-Element : goal.returns-in-Element
returns-in-Element c = rw c.in-Element.is c.element_array_reply.ensures

pub returns-in-Name : goal.returns-in-Name
returns-in-Name c = rw c.in-Name.is c.name_array_reply.ensures
