use Rattle.std.proofs.Common.{◌≡◌, Some, sym, subst, ap, refl, ◌∙◌}
use Rattle.std.specs.Prelude.{Option, Result}
use Rattle.geos_model.specs.Document.{is_valid_body}
use Rattle.geos_model.specs.declared.fault.Fault.{Fault}
use Rattle.vm_blocks.specs.Frames.{frame_of, shown}
use Rattle.vm_blocks.specs.LoadedRuns.{TriesRunInMemory}
use Rattle.vm_blocks.proofs.ChangedInPlace.{body_seen}
use Rattle.vm_blocks.proofs.LoadedRuns.{kind_lent, run_blocks, run_count, run_tried}
use Rattle.vm_blocks.proofs.UsedInPlace.{absent, present}
use Rattle.vm_blocks.proofs.file_blocks.FileBlocks.replace_resident.Goals as goal

-- it isn't there
pub returns-in_err-frame-clause-tries : goal.returns-in_err-frame-clause-tries
returns-in_err-frame-clause-tries g c =
    let s = c.self.inside in let old = c.args.self.now in let run = c.args.run in let log = c.args.recorder.now in
    subst (λ (o : Option (Result (Unit {0}) Fault)). TriesRunInMemory g.S.Store.facts g.R.Recorder.records g.R.Recorder.keeps run old (shown s.file s.frames.entries s.frames.cap) log log o) (sym c.from_residual.ensures)
    (absent g.S.Store.facts s.file s.frames.entries s.frames.cap old c.self.view_is run.block.0 c.self.invariant.0 (sym c.in_err-frame.ensures.value), c.self.view_is, refl)

-- it is
pub replace_in_frame-requires-clause-kind : goal.replace_in_frame-requires-clause-kind
replace_in_frame-requires-clause-kind g c =
    let s = c.self.inside in let f = c.in_ok-frame.frame.now in
    let here : frame_of s.frames.entries c.args.run.block.0 ≡ Some f = sym c.in_ok-frame.ensures.value in
    kind_lent g.S.Store.facts g.R.Recorder.records g.R.Recorder.keeps s.file s.frames.entries s.frames.cap c.args.self.now c.self.view_is c.args.run c.self.invariant.0 f here c.len-count.ensures.valid.0 c.requires.kind

pub invariant_of-self-2 : goal.invariant_of-self-2
invariant_of-self-2 g c =
    let facts = g.S.Store.facts in let records = g.R.Recorder.records in let keeps = g.R.Recorder.keeps in let s = c.self.inside in let es = s.frames.entries in let cap = s.frames.cap in let run = c.args.run in
    let f = c.in_ok-frame.frame.now in let done = c.replace_in_frame in let new = done.new.frame in let distinct = c.len-count.ensures.valid.0 in
    let here : frame_of es run.block.0 ≡ Some f = sym c.in_ok-frame.ensures.value in (
      run_blocks facts records keeps s.file es cap c.args.self.now c.self.view_is run c.self.invariant.0 f here distinct c.requires.kind new c.args.recorder.now done.new.recorder done.result done.ensures.ok done.ensures.recorded done.ensures.err,
      c.self.invariant.1
          ∙ sym (run_count facts records keeps s.file es cap c.args.self.now c.self.view_is run c.self.invariant.0 f here distinct c.requires.kind new c.args.recorder.now done.new.recorder done.result done.ensures.ok done.ensures.recorded done.ensures.err),
    )

pub returns-clause-tries : goal.returns-clause-tries
returns-clause-tries g c =
    let facts = g.S.Store.facts in let records = g.R.Recorder.records in let keeps = g.R.Recorder.keeps in let s = c.self.inside in let es = s.frames.entries in let cap = s.frames.cap in let run = c.args.run in
    let f = c.in_ok-frame.frame.now in let done = c.replace_in_frame in let new = done.new.frame in let distinct = c.len-count.ensures.valid.0 in
    let here : frame_of es run.block.0 ≡ Some f = sym c.in_ok-frame.ensures.value in (
      present facts s.file es cap c.args.self.now c.self.view_is run.block.0 c.self.invariant.0 f here,
      run_tried facts records keeps s.file es cap c.args.self.now c.self.view_is run c.self.invariant.0 f here distinct c.requires.kind new c.args.recorder.now done.new.recorder done.result done.ensures.ok done.ensures.recorded done.ensures.err,
    )

pub returns-clause-valid : goal.returns-clause-valid
returns-clause-valid g c = λ _.
    let s = c.self.inside in let f = c.in_ok-frame.frame.now in
    let here : frame_of s.frames.entries c.args.run.block.0 ≡ Some f = sym c.in_ok-frame.ensures.value in
    ap is_valid_body (body_seen s.file s.frames.entries s.frames.cap c.args.self.now c.self.view_is c.args.run.block.0 f here) ∙ c.replace_in_frame.ensures.valid
