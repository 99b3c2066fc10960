use Rattle.std.proofs.Common.{◌≡◌, Some, sym, ap, ◌∙◌}
use Rattle.std.specs.Option.{option_copied_mut}
use Rattle.vm_blocks.specs.Changes.{directed_part}
use Rattle.vm_blocks.specs.Frames.{frame_of}
use Rattle.vm_blocks.specs.State.{locked_count}
use Rattle.vm_blocks.proofs.ChangedInPlace.{frame_lent}
use Rattle.vm_blocks.proofs.ReplacedRuns.{blocks_left, changed, either, seats_left}
use Rattle.vm_blocks.proofs.file_blocks.FileBlocks.change_loaded_part.Goals as goal

pub unwrap-frame-requires : goal.unwrap-frame-requires
unwrap-frame-requires g c =
    frame_lent c.self.inside.file c.self.inside.frames.entries c.self.inside.frames.cap c.args.self.now c.self.view_is c.args.handle.0 c.peek_mut.result c.peek_mut.ensures.value c.requires

pub invariant_of-self : goal.invariant_of-self
invariant_of-self g c =
    let facts = g.S.Store.facts in let file = c.self.inside.file in let es = c.self.inside.frames.entries in let cap = c.self.inside.frames.cap in let s = c.args.self.now in
    let h = c.args.handle.0 in let part = directed_part c.args.direction c.args.part.now in let f = c.unwrap-frame.result.now in let new = c.change_part_in_frame.new.frame in
    let here : frame_of es h ≡ Some f = sym c.peek_mut.ensures.value ∙ ap option_copied_mut c.unwrap-frame.ensures in
    let left = either facts file es cap s c.self.view_is h f here part new _ c.change_part_in_frame.result c.change_part_in_frame.ensures in (
      blocks_left facts file es cap s c.self.view_is h f here part new left c.requires c.self.invariant.0,
      c.self.invariant.1 ∙ sym (ap locked_count (seats_left facts file es cap s c.self.view_is h f here part new left)),
    )

pub returns : goal.returns
returns g c =
    let es = c.self.inside.frames.entries in let h = c.args.handle.0 in let f = c.unwrap-frame.result.now in
    let here : frame_of es h ≡ Some f = sym c.peek_mut.ensures.value ∙ ap option_copied_mut c.unwrap-frame.ensures in
    changed g.S.Store.facts c.self.inside.file es c.self.inside.frames.cap c.args.self.now c.self.view_is h f here (directed_part c.args.direction c.args.part.now) c.change_part_in_frame.new.frame c.change_part_in_frame.result c.change_part_in_frame.ensures
