use Rattle.std.proofs.Common.{◌≡◌, ◌==◌, ◌∷◌, [], true, false, ap, ◌∙◌, sym, inr}
use Rattle.vm_blocks.specs.Bodies.{body_value}
use Rattle.geos_model.specs.Document.{Block, handles_of}
use Rattle.vm_blocks.proofs.KeepingLaws.{loaded-live}
use Rattle.vm_blocks.proofs.KindLemmas.{typed_there}
use Rattle.doc_edits.proofs.BlockPlans.{free_planned, map_refused}
use Rattle.doc_edits.proofs.block_plans.plan_free_block.Goals as goal

pub attributes-requires : goal.attributes-requires
attributes-requires g c = loaded-live c.args.blocks.now c.args.handle.0 c.requires

pub returns-then-eq-clause-planned : goal.returns-then-eq-clause-planned
returns-then-eq-clause-planned g c =
    let d = c.args.blocks.now.document in let h = c.args.handle in
    let map : (d.map_block == h.0) ≡ true = sym (ap (λ n. n == h.0) c.map_block.ensures) ∙ sym c.if-eq.ensures in
    inr (map_refused d h (loaded-live c.args.blocks.now h.0 c.requires) map)

pub returns-clause-planned : goal.returns-clause-planned
returns-clause-planned g c =
    let d = c.args.blocks.now.document in let h = c.args.handle in
    let other : (d.map_block == h.0) ≡ false = sym (ap (λ n. n == h.0) c.map_block.ensures) ∙ sym c.if-eq.ensures in
    free_planned d h c.attributes.result (body_value c.body.result.now) c.attributes.ensures.value c.body.ensures c.in_ok-freed.freed other (c.in_ok-freed.ensures ∙ ap (λ (b : Block). (h.0, b) ∷ []) c.in_ok-saved.ensures)

pub returns-clause-alone : goal.returns-clause-alone
returns-clause-alone g c = ap handles_of c.in_ok-freed.ensures

pub imaged_block-requires : goal.imaged_block-requires
imaged_block-requires g c = typed_there c.args.blocks.now.document c.args.handle.0 (body_value c.body.result.now) c.attributes.result c.body.ensures c.attributes.ensures.typed
