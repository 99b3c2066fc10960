use Rattle.std.proofs.Common.{◌≡◌, true, false, refl, sym, ap, subst, ◌∙◌}
use Rattle.std.specs.Prelude.{IfOk, IfErr}
use Rattle.std.proofs.lemmas.Result.{IfOk-weaker}
use Rattle.geos_model.specs.Document.{is_heap, is_live, raw_bytes_of}
use Rattle.vm_blocks.specs.Bodies.{body_value}
use Rattle.vm_blocks.specs.Frames.{residents, shown}
use Rattle.vm_blocks.specs.Keeping.{KeepsBlocks, IsEnvironmentFault, IsHonest, is_loaded}
use Rattle.vm_blocks.specs.State.{CacheState}
use Rattle.vm_blocks.proofs.CallAfterCall.{moves_drift, stays_by}
use Rattle.vm_blocks.proofs.DocumentUnderFrames.{overlay_kind, overlay_live}
use Rattle.vm_blocks.proofs.Fronts.{away, away-bytes, bytes-read, lacks-read, lacks-room, raw-kind, raw-live, raw-read}
use Rattle.vm_blocks.proofs.KeepingLaws.{keeps-by, keeps-refl, steady-honest}
use Rattle.vm_blocks.proofs.Locks.{keeps_refl}
use Rattle.vm_blocks.proofs.StateValidity.{blocks_drift}
use Rattle.vm_blocks.proofs.file_blocks.FileBlocks.read_aside.Goals as goal

-- there is no region

pub returns-in_err-region-in-None-clause-keeps : goal.returns-in_err-region-in-None-clause-keeps
returns-in_err-region-in-None-clause-keeps g c = keeps-refl g.S.Store.facts c.args.self.now

pub returns-in_err-region-in-None-clause-fails : goal.returns-in_err-region-in-None-clause-fails
returns-in_err-region-in-None-clause-fails g c =
    let store = c.args.self.now.disk.store in
    lacks-room g.S.Store.facts c.from_residual.result store store c.from_residual.ensures.1

-- it is in memory

pub returns-then-is_resident-clause-keeps : goal.returns-then-is_resident-clause-keeps
returns-then-is_resident-clause-keeps g c = keeps-refl g.S.Store.facts c.args.self.now

pub returns-then-is_resident-clause-value : goal.returns-then-is_resident-clause-value
returns-then-is_resident-clause-value g c = λ _.
    c.fill.ensures ∙ c.raw_bytes.ensures.value ∙ sym (bytes-read c.args.self.now.document c.args.handle.0 (body_value c.body.result.now) c.body.ensures)

-- it is read

pub read_raw-requires-clause-live : goal.read_raw-requires-clause-live
read_raw-requires-clause-live g c =
    let h = c.args.handle.0 in
    sym (overlay_live _ c.self.inside.frames.entries c.self.inside.file.document h c.self.invariant.0.kept) ∙ ap (λ s. is_live s.document h) c.self.view_is ∙ raw-live c.args.self.now.document h c.requires

pub read_raw-requires-clause-raw : goal.read_raw-requires-clause-raw
read_raw-requires-clause-raw g c =
    let h = c.args.handle.0 in
    sym (overlay_kind _ c.self.inside.frames.entries c.self.inside.file.document h c.self.invariant.0.kept) ∙ ap (λ s. is_heap s.document h) c.self.view_is ∙ raw-kind c.args.self.now.document h c.requires

pub invariant_of-self : goal.invariant_of-self
invariant_of-self g c =
    let facts = g.S.Store.facts in
    let s = c.self.inside in
    let es = s.frames.entries in
    (blocks_drift facts s.file es s.frames.cap c.read_raw.new.self es s.frames.cap c.self.invariant.0 (moves_drift facts s.file c.read_raw.new.self es c.self.invariant.0.kept c.read_raw.ensures.reads.passes c.read_raw.ensures.reads.document) refl, c.self.invariant.1)

pub returns-clause-keeps : goal.returns-clause-keeps
returns-clause-keeps g c =
    let facts = g.S.Store.facts in
    let s = c.self.inside in
    let es = s.frames.entries in
    let b = c.read_raw.new.self in
    subst (λ (t : CacheState g.row.S.Denot). KeepsBlocks facts t (shown b es s.frames.cap)) c.self.view_is
    (keeps-by facts (shown s.file es s.frames.cap) (shown b es s.frames.cap)
    (stays_by facts s.file es s.frames.cap b es s.frames.cap (moves_drift facts s.file b es c.self.invariant.0.kept c.read_raw.ensures.reads.passes c.read_raw.ensures.reads.document) refl)
    (keeps_refl (residents es)))

pub returns-clause-value : goal.returns-clause-value
returns-clause-value g c =
    let facts = g.S.Store.facts in
    let s = c.self.inside in
    let es = s.frames.entries in
    let h = c.args.handle.0 in
    let state = shown s.file es s.frames.cap in
    let live : is_live state.document h ≡ true = ap (λ t. is_live t.document h) c.self.view_is ∙ raw-live c.args.self.now.document h c.requires in
    let none : is_loaded state h ≡ false = ap (λ t. is_loaded t h) c.self.view_is ∙ sym c.is_resident.ensures ∙ c.if-is_resident.false in
    let same = away-bytes es s.file.document h (away state es h refl live none) in
    let held : is_live s.file.document h ≡ true = sym (overlay_live _ es s.file.document h c.self.invariant.0.kept) ∙ live in
    subst (λ (t : CacheState g.row.S.Denot). IfOk c.read_raw.result (λ body. IsHonest facts t.disk.store → body ≡ raw_bytes_of t.document h)) c.self.view_is
    (IfOk-weaker c.read_raw.result _ _ (λ body is steady. raw-read s.file.document h body held (is (steady-honest facts s.file.disk.store steady)) ∙ sym same) c.read_raw.ensures.body)

pub returns-clause-fails : goal.returns-clause-fails
returns-clause-fails g c =
    let facts = g.S.Store.facts in
    let old = c.self.inside.file.disk.store in let new = c.read_raw.new.self.disk.store in
    subst (λ (t : CacheState g.row.S.Denot). IfErr c.read_raw.result (IsEnvironmentFault facts t.disk.store new)) c.self.view_is (lacks-read facts c.read_raw.result old new c.read_raw.ensures.fails)
