use Rattle.std.proofs.Common.{◌≡◌, ℕ, List, Some, nat_eq, sym, ap, ◌∙◌}
use Rattle.std.proofs.lemmas.Map.Steps.{set_value_same}
use Rattle.std.specs.Map.{set_value}
use Rattle.std.specs.Option.{option_copied_mut}
use Rattle.lru.specs.LruCache.{lru_cache}
use Rattle.vm_blocks.specs.Frames.{frame_of}
use Rattle.vm_blocks.specs.declared.body.BlockBody.{BlockBody}
use Rattle.vm_blocks.specs.declared.frame.Frame.{Frame}
use Rattle.vm_blocks.proofs.frame.mark_root.Goals as goal

pub returns-in-Some : goal.returns-in-Some
returns-in-Some c =
    let es = c.args.frames.now.entries in
    let cap = c.args.frames.now.cap in
    let h = c.args.block in
    let f = c.in-Some.frame.now in
    let here : frame_of es h ≡ Some f = sym c.peek_mut.ensures.value ∙ ap option_copied_mut c.in-Some.is in
    ap (λ (b : BlockBody). lru_cache (set_value (nat_eq h) es (record f { body = b })) cap) c.mark_root.ensures
    ∙ ap (λ (fs : List (ℕ × Frame)). lru_cache fs cap) (set_value_same (nat_eq h) es f here)
