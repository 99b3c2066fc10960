use Rattle.std.proofs.Common.{◌≡◌, ℕ, ◌<◌, Bool, true}
use Rattle.std.specs.Prelude.{Some}
use Rattle.geos_model.specs.Document.{Document, is_valid_body}
use Rattle.vm_blocks.specs.Bodies.{body_value}
use Rattle.vm_blocks.specs.Frames.{frame_of, residents, overlay, AreFramesOf}
use Rattle.vm_blocks.specs.declared.frame.Frame.{Frame}
use Rattle.vm_blocks.proofs.frame.mark_all.Given as goal

abbrev pub invariant-loop-block : goal.invariant-loop-block
invariant-loop-block l = record {
  shown : (d : Document) → overlay l.frames.entries d ≡ overlay l.fn.frames.entries d;
  kept : (honest : Bool) (d : Document) → AreFramesOf honest d l.fn.frames.entries → AreFramesOf honest d l.frames.entries;
  marked : (q : ℕ) (f : Frame) → q < l.block → frame_of l.frames.entries q ≡ Some f → f.changed ≡ true;
  valid : (q : ℕ) (f : Frame) → q < l.block → frame_of l.frames.entries q ≡ Some f → is_valid_body (body_value f.body) ≡ true;
  seats_kept : residents l.frames.entries ≡ residents l.fn.frames.entries;
  cap : l.frames.cap ≡ l.fn.frames.cap;
}
