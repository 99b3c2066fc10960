use Rattle.std.proofs.Common.{[], Err, refl}
use Rattle.geos_model.specs.Document.{is_raw}
use Rattle.geos_model.specs.Reply.{Accepted, chunks_are, info_is, look_up_conditions}
use Rattle.geos_model.specs.declared.command.Command.TheVariants as commands
use Rattle.geos_model.specs.declared.handle.VmHandle.{VmHandle}
use Rattle.doc_edits.specs.LookUps.{AnswersFromBlocks}
use Rattle.doc_edits.proofs.LookUps.{load_missed, load_seen, shown_err, shown_ok, with_room}
use Rattle.doc_edits.proofs.RoomLemmas.{LooksFor, looks_for_raw}
use Rattle.doc_edits.proofs.look_ups.prepare_in_block.Goals as goal

pub returns-in_err-info-in-Info-clause-sees : goal.returns-in_err-info-in-Info-clause-sees
returns-in_err-info-in-Info-clause-sees g c =
    rw c.in-Info.is (shown_err (AnswersFromBlocks g.S.Store.facts c.args.blocks.now c.info.new.blocks (commands.Info c.args.block)) info_is c.info.result c.info.ensures c.info.new.blocks c.args.lists.now _ c.in_err-info-in-Info.was c.from_residual.result c.from_residual.ensures.1)

pub returns-in_ok-info-in-Info-clause-sees : goal.returns-in_ok-info-in-Info-clause-sees
returns-in_ok-info-in-Info-clause-sees g c =
    rw c.in-Info.is (shown_ok (AnswersFromBlocks g.S.Store.facts c.args.blocks.now c.info.new.blocks (commands.Info c.args.block)) info_is c.info.result c.info.ensures _ c.in_ok-info-in-Info.was)

-- a raw block
looks_raw : (b : VmHandle) → LooksFor is_raw b.0 (look_up_conditions (commands.ReadRaw b))
looks_raw b = looks_for_raw b.0 (look_up_conditions (commands.ReadRaw b)) (λ d. ([], refl, refl))

pub returns-in_err-load_raw-in-ReadRaw-clause-sees : goal.returns-in_err-load_raw-in-ReadRaw-clause-sees
returns-in_err-load_raw-in-ReadRaw-clause-sees g c =
    let a = c.args.blocks.now in let new = c.load_raw.new.self in let b = c.args.block in let e = c.load_raw.ensures in let asked = commands.ReadRaw b in let fault = c.in_err-load_raw-in-ReadRaw.field-0.0 in
    let missed = load_missed g.S.Store.facts is_raw a new b.0 c.load_raw.result e.keeps e.early e.shut e.already asked (looks_raw b) refl (λ (_ : Unit {0}). Accepted) (Err fault) fault c.in_err-load_raw-in-ReadRaw.was refl c.in_err-load_raw-in-ReadRaw.ensures.err in
    rw c.in-ReadRaw.is (shown_err (AnswersFromBlocks g.S.Store.facts a new asked) (λ (_ : Unit {0}). Accepted) (Err fault) missed new c.args.lists.now fault refl c.from_residual-in_err-load_raw-in-ReadRaw.result c.from_residual-in_err-load_raw-in-ReadRaw.ensures.1)

pub returns-in_ok-load_raw-in-ReadRaw-clause-sees : goal.returns-in_ok-load_raw-in-ReadRaw-clause-sees
returns-in_ok-load_raw-in-ReadRaw-clause-sees g c =
    let a = c.args.blocks.now in let new = c.load_raw.new.self in let b = c.args.block in let e = c.load_raw.ensures in let asked = commands.ReadRaw b in
    rw c.in-ReadRaw.is (λ reply shows. load_seen g.S.Store.facts is_raw a new b.0 c.load_raw.result e.keeps e.early e.shut e.already asked (looks_raw b) refl tt c.in_ok-load_raw-in-ReadRaw.was reply
    (λ lacks no_room room. with_room lacks no_room room asked new.document reply shows))

-- the list of chunks

pub returns-in_err-lists-in-Chunks-clause-sees : goal.returns-in_err-lists-in-Chunks-clause-sees
returns-in_err-lists-in-Chunks-clause-sees g c =
    rw c.in-Chunks.is (shown_err (AnswersFromBlocks g.S.Store.facts c.args.blocks.now c.chunks.new.blocks (commands.Chunks c.args.block)) (λ handles. chunks_are handles.items) c.chunks.result c.chunks.ensures c.chunks.new.blocks c.args.lists.now _ c.in_err-lists-in-Chunks.was c.from_residual-in_err-lists-in-Chunks.result c.from_residual-in_err-lists-in-Chunks.ensures.1)

pub returns-in_ok-lists-in-Chunks-clause-sees : goal.returns-in_ok-lists-in-Chunks-clause-sees
returns-in_ok-lists-in-Chunks-clause-sees g c =
    rw c.in-Chunks.is (shown_ok (AnswersFromBlocks g.S.Store.facts c.args.blocks.now c.chunks.new.blocks (commands.Chunks c.args.block)) (λ handles. chunks_are handles.items) c.chunks.result c.chunks.ensures _ c.in_ok-lists-in-Chunks.was)

-- what is asked of a chunk
pub returns-in-InChunk-clause-sees : goal.returns-in-InChunk-clause-sees
returns-in-InChunk-clause-sees g c = rw c.in-InChunk.is (c.prepare_in_chunk.ensures.sees c.args.lists.now)
