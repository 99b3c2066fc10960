use Rattle.std.proofs.Common.{◌≡◌, Some, None, unwrap_or, sym, ap, ◌∙◌}
use Rattle.std.specs.Option.{option_map, option_copied}
use Rattle.vm_blocks.specs.Frames.{frame_of}
use Rattle.vm_blocks.specs.declared.frame.Frame.{Frame}
use Rattle.vm_blocks.proofs.OrderOfUse.{lookup-residents}
use Rattle.vm_blocks.proofs.frame.locks_of.Goals as goal

pub returns-in-Some : goal.returns-in-Some
returns-in-Some c =
    let es = c.args.frames.now.entries in
    let h = c.args.block in
    let here : frame_of es h ≡ Some c.in-Some.frame.now = sym c.peek.ensures ∙ ap option_copied c.in-Some.is in
    sym (ap (λ o. unwrap_or o 0) (lookup-residents h es ∙ ap (option_map (λ (f : Frame). f.locks)) here))

pub returns-in-None : goal.returns-in-None
returns-in-None c =
    let es = c.args.frames.now.entries in
    let h = c.args.block in
    let gone : frame_of es h ≡ None = sym c.peek.ensures ∙ ap option_copied c.in-None.is in
    sym (ap (λ o. unwrap_or o 0) (lookup-residents h es ∙ ap (option_map (λ (f : Frame). f.locks)) gone))
