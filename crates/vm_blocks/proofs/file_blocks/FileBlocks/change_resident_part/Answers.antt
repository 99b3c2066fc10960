use Rattle.std.proofs.Common.{◌≡◌, Some, sym, subst, ◌∙◌}
use Rattle.std.specs.Prelude.{Bool, Option}
use Rattle.vm_blocks.specs.Changes.{directed_part}
use Rattle.vm_blocks.specs.Frames.{frame_of, shown}
use Rattle.vm_blocks.specs.InPlace.{TriesPartInMemory}
use Rattle.vm_blocks.proofs.UsedInPlace.{absent, blocks_tried, count_tried, part_tried, present}
use Rattle.vm_blocks.proofs.file_blocks.FileBlocks.change_resident_part.Goals as goal

-- it isn't there
pub returns-in_err-frame : goal.returns-in_err-frame
returns-in_err-frame g c =
    let s = c.self.inside in let old = c.args.self.now in let h = c.args.handle.0 in
    subst (λ (o : Option Bool). TriesPartInMemory h (directed_part c.args.direction c.args.part.now) old (shown s.file s.frames.entries s.frames.cap) o) (sym c.from_residual.ensures)
    (absent g.S.Store.facts s.file s.frames.entries s.frames.cap old c.self.view_is h c.self.invariant.0 (sym c.in_err-frame.ensures.value), c.self.view_is)

-- it is
pub invariant_of-self-2 : goal.invariant_of-self-2
invariant_of-self-2 g c =
    let facts = g.S.Store.facts in let s = c.self.inside in let es = s.frames.entries in let cap = s.frames.cap in let h = c.args.handle.0 in let part = directed_part c.args.direction c.args.part.now in
    let f = c.in_ok-frame.frame.now in let new = c.change_part_in_frame.new.frame in
    let here : frame_of es h ≡ Some f = sym c.in_ok-frame.ensures.value in (
      blocks_tried facts s.file es cap c.args.self.now c.self.view_is h c.self.invariant.0 f here c.len-count.ensures.valid.0 part new c.change_part_in_frame.result c.change_part_in_frame.ensures,
      c.self.invariant.1 ∙ sym (count_tried facts s.file es cap c.args.self.now c.self.view_is h c.self.invariant.0 f here c.len-count.ensures.valid.0 part new c.change_part_in_frame.result c.change_part_in_frame.ensures),
    )

pub returns : goal.returns
returns g c =
    let facts = g.S.Store.facts in let s = c.self.inside in let es = s.frames.entries in let cap = s.frames.cap in let h = c.args.handle.0 in let part = directed_part c.args.direction c.args.part.now in
    let f = c.in_ok-frame.frame.now in let new = c.change_part_in_frame.new.frame in
    let here : frame_of es h ≡ Some f = sym c.in_ok-frame.ensures.value in (
      present facts s.file es cap c.args.self.now c.self.view_is h c.self.invariant.0 f here,
      part_tried facts s.file es cap c.args.self.now c.self.view_is h c.self.invariant.0 f here c.len-count.ensures.valid.0 part new c.change_part_in_frame.result c.change_part_in_frame.ensures,
    )
