use Rattle.std.proofs.Common.{refl, sym, subst}
use Rattle.chunk_edits.proofs.FoundLemmas.{found_short}
use Rattle.doc_edits.proofs.ChunkParts.{SplicesOf, plain_built, no_longer_built}
use Rattle.doc_edits.proofs.Documents.{chunks_are}
use Rattle.doc_edits.proofs.building.build_splice.Goals as goal

pub returns-in-Resize : goal.returns-in-Resize
returns-in-Resize c =
    subst (SplicesOf c.args.heap.now.chunks c.args.chunk c.args.bytes.now c.resize.result) (sym c.in-Resize.is) (λ d b live there.
    let here = sym (chunks_are d b.0 c.args.heap.now.chunks live) in
    plain_built _ d b c.args.chunk _ _ _ there.heap there.live there.valid refl refl refl refl _ _ _ refl c.resize.result (rw (there.value, here) at c.resize.ensures.built) (rw (there.value, here) at c.resize.ensures.fits) (rw there.value at c.resize.ensures.run))

pub returns-in-Insert : goal.returns-in-Insert
returns-in-Insert c =
    subst (SplicesOf c.args.heap.now.chunks c.args.chunk c.args.bytes.now c.insert.result) (sym c.in-Insert.is) (λ d b live there.
    let here = sym (chunks_are d b.0 c.args.heap.now.chunks live) in
    plain_built _ d b c.args.chunk _ _ _ there.heap there.live there.valid refl refl refl refl _ _ _ refl c.insert.result (rw (there.value, here) at c.insert.ensures.built) (rw (there.value, here) at c.insert.ensures.fits) c.insert.ensures.run)

pub returns-in-Delete : goal.returns-in-Delete
returns-in-Delete c =
    subst (SplicesOf c.args.heap.now.chunks c.args.chunk c.args.bytes.now c.delete.result) (sym c.in-Delete.is) (λ d b live there.
    no_longer_built _ d b c.args.chunk _ _ _ there.heap there.live there.valid refl refl refl refl _ _ _ refl c.delete.result (rw there.value at c.delete.ensures.built) (rw there.value at c.delete.ensures.no_longer) c.delete.ensures.run)

pub delete-requires : goal.delete-requires
delete-requires c = found_short c.args.heap.now.chunks c.args.chunk.0 c.args.bytes.now c.requires

pub returns-in-Write : goal.returns-in-Write
returns-in-Write c =
    subst (SplicesOf c.args.heap.now.chunks c.args.chunk c.args.bytes.now c.write.result) (sym c.in-Write.is) (λ d b live there.
    no_longer_built _ d b c.args.chunk _ _ _ there.heap there.live there.valid refl refl refl refl _ _ _ refl c.write.result (rw there.value at c.write.ensures.built) (rw there.value at c.write.ensures.no_longer) c.write.ensures.run)

pub write-requires : goal.write-requires
write-requires c = found_short c.args.heap.now.chunks c.args.chunk.0 c.args.bytes.now c.requires

pub returns-in-Splice : goal.returns-in-Splice
returns-in-Splice c =
    subst (SplicesOf c.args.heap.now.chunks c.args.chunk c.args.bytes.now c.splice.result) (sym c.in-Splice.is) (λ d b live there.
    let here = sym (chunks_are d b.0 c.args.heap.now.chunks live) in
    plain_built _ d b c.args.chunk _ _ _ there.heap there.live there.valid refl refl refl refl _ _ _ refl c.splice.result (rw (there.value, here) at c.splice.ensures.built) (rw (there.value, here) at c.splice.ensures.fits) c.splice.ensures.run)
