use Rattle.std.proofs.Common.{◌≡◌, [], List, ℕ, true, false, Some, refl, ap, sym}
use Rattle.geos_model.specs.Document.{is_heap}
use Rattle.geos_model.specs.Reply.{ChunksAre, chunks_are, look_up_conditions}
use Rattle.geos_model.specs.declared.command.Command.TheVariants as commands
use Rattle.geos_model.specs.declared.fault.Fault.{Fault}
use Rattle.geos_model.specs.declared.fault.Fault.TheVariants.{Memory}
use Rattle.geos_model.specs.declared.handle.VmHandle.{VmHandle}
use Rattle.vm_blocks.specs.Keeping.{IsEnvironmentFault, has_no_frame_for}
use Rattle.vm_blocks.proofs.KeepingLaws.{lacks-memory}
use Rattle.doc_edits.specs.LookUps.{makes_list}
use Rattle.doc_edits.proofs.LookUps.{answered_with_room, lacked, load_missed, load_rests, load_room, load_seen, refused_as}
use Rattle.doc_edits.proofs.RoomLemmas.{LooksFor, looks_for_heap}
use Rattle.doc_edits.proofs.look_ups.chunks.Goals as goal

looks : (b : VmHandle) → LooksFor is_heap b.0 (look_up_conditions (commands.Chunks b))
looks b = looks_for_heap b.0 (look_up_conditions (commands.Chunks b)) (λ d. ([], refl, refl))

pub returns-in_err-load_heap : goal.returns-in_err-load_heap
returns-in_err-load_heap g c =
    let b = c.args.block in let e = c.load_heap.ensures in
    load_missed g.S.Store.facts is_heap c.args.blocks.now c.load_heap.new.self b.0 c.load_heap.result e.keeps e.early e.shut e.already (commands.Chunks b) (looks b) refl
    _ c.from_residual.result c.in_err-load_heap.field-0.0 c.in_err-load_heap.was c.from_residual.ensures.1 c.in_err-load_heap.ensures.err

-- memory runs out for the list
pub returns-in_err-handles : goal.returns-in_err-handles
returns-in_err-handles g c =
    let a = c.args.blocks.now in let loaded = c.load_heap.new.self in let b = c.args.block in let e = c.load_heap.ensures in
    let lacks = IsEnvironmentFault g.S.Store.facts a.disk.store loaded.disk.store in
    let lacks_list = λ (fault : Fault). (fault ≡ Memory) × (makes_list (commands.Chunks b) ≡ true) in
    let room : has_no_frame_for a b.0 ≡ false = load_room g.S.Store.facts is_heap a loaded b.0 c.load_heap.result e.keeps e.early e.shut e.already (commands.Chunks b) (looks b) refl tt c.in_ok-load_heap.was in
    record {
      keeps = e.keeps;
      value = refused_as lacks (has_no_frame_for a b.0) (commands.Chunks b) loaded.document _ c.from_residual-in_err-handles.result Memory c.from_residual-in_err-handles.ensures.1
          (lacked lacks (has_no_frame_for a b.0) room (commands.Chunks b) loaded.document Memory (lacks-memory g.S.Store.facts a.disk.store loaded.disk.store));
      already = λ nothing.
          let rest = load_rests g.S.Store.facts is_heap a loaded b.0 c.load_heap.result e.keeps e.early e.shut e.already (commands.Chunks b) (looks b) refl nothing in (
            rest.0,
            rest.1,
            refused_as lacks_list false (commands.Chunks b) a.document _ c.from_residual-in_err-handles.result Memory c.from_residual-in_err-handles.ensures.1 (lacked lacks_list false refl (commands.Chunks b) a.document Memory (refl, refl)),
          );
    }

pub returns : goal.returns
returns g c =
    let b = c.args.block in let e = c.load_heap.ensures in let loaded = c.load_heap.new.self in
    load_seen g.S.Store.facts is_heap c.args.blocks.now loaded b.0 c.load_heap.result e.keeps e.early e.shut e.already (commands.Chunks b) (looks b) refl tt c.in_ok-load_heap.was (chunks_are c.in_ok-handles.field-0.items)
    (λ lacks no_room room. answered_with_room lacks no_room room (commands.Chunks b) loaded.document (chunks_are c.in_ok-handles.field-0.items) (rw c.heap_at.ensures refl)
    (rw c.heap_at.ensures (ap (λ (hs : List ℕ). Some (ChunksAre hs)) (sym c.in_ok-handles.ensures))))
