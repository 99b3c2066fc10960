use Rattle.std.proofs.Common.{Err, refl}
use Rattle.geos_model.specs.Document.{is_heap}
use Rattle.geos_model.specs.LookUps.{array_look_up}
use Rattle.geos_model.specs.Meaning.{chunk_at}
use Rattle.geos_model.specs.Reply.{Accepted}
use Rattle.geos_model.specs.declared.command.Command.TheVariants as commands
use Rattle.doc_edits.specs.LookUps.{AnswersFromBlocks}
use Rattle.doc_edits.proofs.LookUps.{array_asks, chunk_looks, chunk_missed, chunk_seen, load_missed, load_seen, shown_err, with_room}
use Rattle.doc_edits.proofs.look_ups.prepare_in_chunk.Goals as goal

-- the bytes of a chunk

pub returns-in_err-load_heap-in-Read-clause-sees : goal.returns-in_err-load_heap-in-Read-clause-sees
returns-in_err-load_heap-in-Read-clause-sees g c =
    let a = c.args.blocks.now in let new = c.load_heap.new.self in let b = c.args.block in let e = c.load_heap.ensures in let k = c.args.chunk in let asked = commands.Read b k in let fault = c.in_err-load_heap-in-Read.field-0.0 in
    let missed = load_missed g.S.Store.facts is_heap a new b.0 c.load_heap.result e.keeps e.early e.shut e.already asked (chunk_looks asked b k refl) refl (λ (_ : Unit {0}). Accepted) (Err fault) fault c.in_err-load_heap-in-Read.was refl c.in_err-load_heap-in-Read.ensures.err in
    rw c.in-Read.is (λ lists. shown_err (AnswersFromBlocks g.S.Store.facts a new asked) (λ (_ : Unit {0}). Accepted) (Err fault) missed new lists fault refl c.from_residual.result c.from_residual.ensures.1)

pub returns-in_ok-load_heap-in-Read-clause-sees : goal.returns-in_ok-load_heap-in-Read-clause-sees
returns-in_ok-load_heap-in-Read-clause-sees g c =
    let a = c.args.blocks.now in let new = c.load_heap.new.self in let b = c.args.block in let e = c.load_heap.ensures in let k = c.args.chunk in let asked = commands.Read b k in
    rw c.in-Read.is (λ lists reply shows. load_seen g.S.Store.facts is_heap a new b.0 c.load_heap.result e.keeps e.early e.shut e.already asked (chunk_looks asked b k refl) refl tt c.in_ok-load_heap-in-Read.was reply
    (λ lacks no_room room. with_room lacks no_room room asked new.document reply shows))

-- an array

pub returns-in_err-load_chunk-in-Array-clause-sees : goal.returns-in_err-load_chunk-in-Array-clause-sees
returns-in_err-load_chunk-in-Array-clause-sees g c =
    let a = c.args.blocks.now in let new = c.load_chunk.new.blocks in let b = c.args.block in let found = c.load_chunk.ensures.found in let k = c.args.chunk in let asked = array_look_up b k c.in-Array.asked in let asks = array_asks b k c.in-Array.asked in let fault = c.in_err-load_chunk-in-Array.field-0.0 in
    let missed = chunk_missed g.S.Store.facts a new b k (λ _. chunk_at new.document b.0 k.0) c.load_chunk.result found.keeps found.found found.in_memory asked asks.0 asks.1 (λ (_ : Unit {0}). Accepted) (Err fault) fault c.in_err-load_chunk-in-Array.was refl in
    rw c.in-Array.is (λ lists. shown_err (AnswersFromBlocks g.S.Store.facts a new asked) (λ (_ : Unit {0}). Accepted) (Err fault) missed new lists fault refl c.from_residual-in_err-load_chunk-in-Array.result c.from_residual-in_err-load_chunk-in-Array.ensures.1)

pub returns-in_ok-load_chunk-in-Array-clause-sees : goal.returns-in_ok-load_chunk-in-Array-clause-sees
returns-in_ok-load_chunk-in-Array-clause-sees g c =
    let a = c.args.blocks.now in let new = c.load_chunk.new.blocks in let b = c.args.block in let found = c.load_chunk.ensures.found in let k = c.args.chunk in let asked = array_look_up b k c.in-Array.asked in let asks = array_asks b k c.in-Array.asked in
    rw c.in-Array.is (λ lists reply shows. chunk_seen g.S.Store.facts a new b k (λ _. chunk_at new.document b.0 k.0) c.load_chunk.result found.keeps found.found found.in_memory asked asks.0 asks.1 tt c.in_ok-load_chunk-in-Array.was reply
    (λ lacks no_room room there. with_room lacks no_room room asked new.document reply shows))
