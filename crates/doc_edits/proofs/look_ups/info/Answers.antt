use Rattle.std.proofs.Common.{◌≡◌, ℕ, List, [], length, Option, Some, None, Err, refl, ap, sym, ◌∙◌}
use Rattle.std.specs.FinMap.{get}
use Rattle.std.specs.Option.{option_map, option_map_or}
use Rattle.geos_model.specs.Document.{Block, is_live, no_attributes}
use Rattle.geos_model.specs.Reply.{HeapIs, RawIs, body_info, look_up_conditions}
use Rattle.geos_model.specs.declared.command.Body.{Body}
use Rattle.geos_model.specs.declared.command.Command.TheVariants as commands
use Rattle.geos_model.specs.declared.handle.VmHandle.{VmHandle}
use Rattle.geos_model.specs.declared.block.Attributes.{Attributes}
use Rattle.vm_blocks.specs.Bodies.{body_value}
use Rattle.vm_blocks.specs.declared.body.BlockBody.{BlockBody}
use Rattle.vm_blocks.specs.declared.body.BlockBody.TheVariants as block_bodies
use Rattle.vm_blocks.specs.Keeping.{IsEnvironmentFault}
use Rattle.vm_blocks.proofs.KeepingLaws.{loaded-live}
use Rattle.doc_edits.proofs.LookUps.{answered_with_room, load_missed, load_seen}
use Rattle.doc_edits.proofs.RoomLemmas.{LooksFor, early_dead, err_dead, looks_for_any}
use Rattle.doc_edits.proofs.look_ups.info.Goals as goal

looks : (b : VmHandle) → LooksFor is_live b.0 (look_up_conditions (commands.Info b))
looks b = looks_for_any b.0 (look_up_conditions (commands.Info b)) (λ d. ([], refl, refl))

-- the user ID and the body of a block are its information
told : (o : Option Block) (attributes : Attributes) (body : Body) → option_map (λ b. b.body) o ≡ Some body → attributes ≡ option_map_or (λ b. b.attributes) o no_attributes
    → option_map (λ b. body_info b.attributes.user_id b.body) o ≡ Some (body_info attributes.user_id body)
told None attributes body is same = absurd (cc is)
told (Some b) attributes body is same = let this : b.body ≡ body = cc is in rw (this, same) refl

pub attributes-user_id-requires : goal.attributes-user_id-requires
attributes-user_id-requires g c = loaded-live c.load.new.self c.args.block.0 c.in_ok-load.ensures.ok

pub returns-in_err-load : goal.returns-in_err-load
returns-in_err-load g c =
    let a = c.args.blocks.now in let loaded = c.load.new.self in let b = c.args.block in let e = c.load.ensures in
    load_missed g.S.Store.facts is_live a loaded b.0 c.load.result e.keeps (early_dead a loaded b.0 c.load.result e.dead) e.shut (λ here live. e.already here) (commands.Info b) (looks b) refl
    _ c.from_residual.result c.in_err-load.field-0.0 c.in_err-load.was c.from_residual.ensures.1 (err_dead a loaded b.0 (IsEnvironmentFault g.S.Store.facts a.disk.store loaded.disk.store) (Err c.in_err-load.field-0.0) c.in_err-load.ensures.err)

pub returns-in-Raw : goal.returns-in-Raw
returns-in-Raw g c =
    let a = c.args.blocks.now in let loaded = c.load.new.self in let b = c.args.block in let e = c.load.ensures in
    load_seen g.S.Store.facts is_live a loaded b.0 c.load.result e.keeps (early_dead a loaded b.0 c.load.result e.dead) e.shut (λ here live. e.already here) (commands.Info b) (looks b) refl tt c.in_ok-load.was _
    (λ lacks no_room room. answered_with_room lacks no_room room (commands.Info b) loaded.document _ (rw (loaded-live loaded b.0 c.in_ok-load.ensures.ok) refl) (told (get loaded.document.blocks b.0) c.attributes-user_id.result (body_value (block_bodies.Raw c.in-Raw.body)) (c.body.ensures ∙ ap (λ (x : BlockBody). Some (body_value x)) c.in-Raw.is) c.attributes-user_id.ensures.value
    ∙ ap (λ (bytes : List ℕ). Some (RawIs c.attributes-user_id.result.user_id (length bytes))) (sym c.bytes.ensures.value)))

pub returns-in-Heap : goal.returns-in-Heap
returns-in-Heap g c =
    let a = c.args.blocks.now in let loaded = c.load.new.self in let b = c.args.block in let e = c.load.ensures in
    load_seen g.S.Store.facts is_live a loaded b.0 c.load.result e.keeps (early_dead a loaded b.0 c.load.result e.dead) e.shut (λ here live. e.already here) (commands.Info b) (looks b) refl tt c.in_ok-load.was _
    (λ lacks no_room room. answered_with_room lacks no_room room (commands.Info b) loaded.document _ (rw (loaded-live loaded b.0 c.in_ok-load.ensures.ok) refl) (told (get loaded.document.blocks b.0) c.attributes-user_id.result (body_value (block_bodies.Heap c.in-Heap.heap)) (c.body.ensures ∙ ap (λ (x : BlockBody). Some (body_value x)) c.in-Heap.is) c.attributes-user_id.ensures.value
    ∙ ap (λ (n : ℕ). Some (HeapIs c.attributes-user_id.result.user_id n)) (sym c.need.ensures)))
