use Rattle.std.proofs.Common.{◌≡◌, Some, sym, ap, ◌∙◌}
use Rattle.std.specs.Option.{option_copied_mut}
use Rattle.geos_model.specs.Document.{is_valid_body}
use Rattle.vm_blocks.specs.Bodies.{body_value}
use Rattle.vm_blocks.specs.Frames.{frame_of}
use Rattle.vm_blocks.specs.Runs.{run_part}
use Rattle.vm_blocks.specs.State.{locked_count}
use Rattle.vm_blocks.proofs.ChangedInPlace.{body_seen, frame_lent}
use Rattle.vm_blocks.proofs.ReplacedRuns.{blocks_left, kind_here, put_or_left, seats_left, tried}
use Rattle.vm_blocks.proofs.file_blocks.FileBlocks.replace_loaded.Goals as goal

pub unwrap-frame-requires : goal.unwrap-frame-requires
unwrap-frame-requires g c =
    frame_lent c.self.inside.file c.self.inside.frames.entries c.self.inside.frames.cap c.args.self.now c.self.view_is c.args.run.block.0 c.peek_mut.result c.peek_mut.ensures.value c.requires.loaded

pub replace_in_frame-requires-clause-kind : goal.replace_in_frame-requires-clause-kind
replace_in_frame-requires-clause-kind g c =
    let es = c.self.inside.frames.entries in let f = c.unwrap-frame.result.now in
    let here : frame_of es c.args.run.block.0 ≡ Some f = sym c.peek_mut.ensures.value ∙ ap option_copied_mut c.unwrap-frame.ensures in
    kind_here g.S.Store.facts c.self.inside.file es c.self.inside.frames.cap c.args.self.now c.self.view_is c.args.run f here c.requires.kind

pub invariant_of-self : goal.invariant_of-self
invariant_of-self g c =
    let facts = g.S.Store.facts in let file = c.self.inside.file in let es = c.self.inside.frames.entries in let cap = c.self.inside.frames.cap in let s = c.args.self.now in
    let run = c.args.run in let h = run.block.0 in let f = c.unwrap-frame.result.now in let new = c.replace_in_frame.new.frame in let done = c.replace_in_frame.ensures in
    let here : frame_of es h ≡ Some f = sym c.peek_mut.ensures.value ∙ ap option_copied_mut c.unwrap-frame.ensures in
    let left = put_or_left facts file es cap s c.self.view_is run f here c.requires.kind new _ c.replace_in_frame.result done.ok done.err in
    let part = run_part run (body_value f.body) in (
      blocks_left facts file es cap s c.self.view_is h f here part new left c.requires.loaded c.self.invariant.0,
      c.self.invariant.1 ∙ sym (ap locked_count (seats_left facts file es cap s c.self.view_is h f here part new left)),
    )

pub returns-clause-tries : goal.returns-clause-tries
returns-clause-tries g c =
    let facts = g.S.Store.facts in let file = c.self.inside.file in let es = c.self.inside.frames.entries in let cap = c.self.inside.frames.cap in let s = c.args.self.now in
    let run = c.args.run in let f = c.unwrap-frame.result.now in let new = c.replace_in_frame.new.frame in let done = c.replace_in_frame.ensures in
    let here : frame_of es run.block.0 ≡ Some f = sym c.peek_mut.ensures.value ∙ ap option_copied_mut c.unwrap-frame.ensures in
    tried facts file es cap s c.self.view_is run f here c.requires.kind new g.R.Recorder.records g.R.Recorder.keeps c.args.recorder.now c.replace_in_frame.new.recorder
    c.replace_in_frame.result done.ok done.recorded done.err c.requires.loaded

pub returns-clause-valid : goal.returns-clause-valid
returns-clause-valid g c =
    let es = c.self.inside.frames.entries in let h = c.args.run.block.0 in let f = c.unwrap-frame.result.now in
    let here : frame_of es h ≡ Some f = sym c.peek_mut.ensures.value ∙ ap option_copied_mut c.unwrap-frame.ensures in
    ap is_valid_body (body_seen c.self.inside.file es c.self.inside.frames.cap c.args.self.now c.self.view_is h f here) ∙ c.replace_in_frame.ensures.valid
