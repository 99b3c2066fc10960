use Rattle.std.proofs.lemmas.Bool.{not-false, true≢false}
use Rattle.std.proofs.Common.{◌≡◌, true, false, refl, sym, ap, ◌∙◌, inr}
use Rattle.std.specs.FinMap.{get}
use Rattle.geos_model.specs.Document.{block_at, is_heap, is_heap_body}
use Rattle.vm_blocks.specs.Bodies.{body_value}
use Rattle.vm_blocks.proofs.ReadImages.{body_is, no_image, unread}
use Rattle.vm_blocks.proofs.DocumentUnderFrames.{heap_body}
use Rattle.vm_blocks.proofs.transfers.read_body.Goals as goal

pub returns-then-is_heap-clause-same : goal.returns-then-is_heap-clause-same
returns-then-is_heap-clause-same g c = λ so.
    let d = c.args.file.now.document in
    let h = c.args.block.0 in
    body_is (body_value c.in-Some.body) (block_at d h).body c.deref.result.now c.in-Some.ensures (c.deref.ensures.value ∙ c.in_ok-image.ensures.image so) (c.reveal_invariant.ensures.document.bodies so h c.requires.live)

pub returns-in-Some-clause-fails : goal.returns-in-Some-clause-fails
returns-in-Some-clause-fails g c =
    let d = c.args.file.now.document in
    let h = c.args.block.0 in
    let body = body_value c.in-Some.body in
    unread g.S.Store.facts _ _ _ _ refl (inr refl) (λ _ so.
    let same : (block_at d h).body ≡ body = body_is body (block_at d h).body c.deref.result.now c.in-Some.ensures (c.deref.ensures.value ∙ c.in_ok-image.ensures.image so) (c.reveal_invariant.ensures.document.bodies so h c.requires.live) in
    let kind : c.unwrap.result.is_heap ≡ is_heap d h = rw c.unwrap.ensures at c.entry.ensures.kind in
    let heap : c.unwrap.result.is_heap ≡ true = not-false _ c.if-not-unwrap.false in
    let raw : c.unwrap.result.is_heap ≡ false = kind ∙ sym (heap_body (get d.blocks h)) ∙ ap is_heap_body same ∙ sym c.is_heap.ensures ∙ c.if-is_heap.false in
    true≢false (sym heap ∙ raw))

pub returns-clause-fails : goal.returns-clause-fails
returns-clause-fails g c =
    let d = c.args.file.now.document in
    let h = c.args.block.0 in
    unread g.S.Store.facts _ _ _ _ refl (inr refl) (λ _ so. no_image (block_at d h).body c.deref.result.now c.in-None.ensures (c.deref.ensures.value ∙ c.in_ok-image.ensures.image so) (c.reveal_invariant.ensures.document.bodies so h c.requires.live))
