use Rattle.std.proofs.Common.{◌∷◌, [], ap, ◌∙◌, sym, inr}
use Rattle.vm_blocks.specs.Bodies.{body_value}
use Rattle.geos_model.specs.Document.{Block}
use Rattle.vm_blocks.proofs.KeepingLaws.{loaded-live}
use Rattle.vm_blocks.proofs.KindLemmas.{typed_there}
use Rattle.doc_edits.proofs.BlockPlans.{copy_planned, none_refused}
use Rattle.doc_edits.proofs.block_plans.plan_copy_block.Goals as goal

pub attributes-requires : goal.attributes-requires
attributes-requires g c = loaded-live c.args.blocks.now c.args.from.0 c.requires

pub returns-in-None : goal.returns-in-None
returns-in-None g c =
    let d = c.args.blocks.now.document in let h = c.args.from in
    inr (none_refused d h (loaded-live c.args.blocks.now h.0 c.requires) (sym c.in-None.ensures.value))

pub returns : goal.returns
returns g c =
    let d = c.args.blocks.now.document in let h = c.args.from in let new = c.in-Some.handle in
    copy_planned d h c.attributes.result (body_value c.body.result.now) c.attributes.ensures.value c.body.ensures c.in_ok-made.made new (sym c.in-Some.ensures.value)
    (record { handle = c.in-Some.ensures.within; free = c.in-Some.ensures.free })
    (c.in_ok-made.ensures ∙ ap (λ (b : Block). (new.0, b) ∷ []) c.in_ok-copy.ensures)

pub imaged_block-requires : goal.imaged_block-requires
imaged_block-requires g c = typed_there c.args.blocks.now.document c.args.from.0 (body_value c.body.result.now) c.attributes.result c.body.ensures c.attributes.ensures.typed
