use Rattle.std.proofs.Common.{◌≡◌, true, false, not, ◌&&◌, refl, sym, ap, subst, ◌∙◌}
use Rattle.std.specs.Prelude.{Ok, IfOk, IfErr}
use Rattle.std.proofs.lemmas.Result.{IfOk-weaker}
use Rattle.vm_store.specs.Facts.{FailedSince}
use Rattle.geos_model.specs.Document.{is_heap, is_live, raw_bytes_of}
use Rattle.geos_model.specs.declared.fault.Fault.TheVariants.{File}
use Rattle.document_file.specs.Fronts.{first_word}
use Rattle.vm_blocks.specs.Bodies.{body_value}
use Rattle.vm_blocks.specs.Frames.{residents, shown}
use Rattle.vm_blocks.specs.Keeping.{KeepsBlocks, IsHonest, is_loaded}
use Rattle.vm_blocks.specs.State.{CacheState}
use Rattle.vm_blocks.proofs.CallAfterCall.{moves_drift, stays_by}
use Rattle.vm_blocks.proofs.DocumentUnderFrames.{overlay_kind, overlay_live}
use Rattle.vm_blocks.proofs.Fronts.{and-false, and-true, away, away-bytes, bytes-read, raw-kind, raw-live}
use Rattle.vm_blocks.proofs.KeepingLaws.{keeps-by, keeps-refl, steady-honest}
use Rattle.vm_blocks.proofs.Locks.{keeps_refl}
use Rattle.vm_blocks.proofs.StateValidity.{blocks_drift}
use Rattle.vm_blocks.proofs.file_blocks.FileBlocks.first_word.Goals as goal

-- it is in memory

pub returns-then-is_resident-clause-keeps : goal.returns-then-is_resident-clause-keeps
returns-then-is_resident-clause-keeps g c = keeps-refl g.S.Store.facts c.args.self.now

pub returns-then-is_resident-clause-already : goal.returns-then-is_resident-clause-already
returns-then-is_resident-clause-already g c = λ loaded.
    (ap Ok (c.first_word.ensures ∙ ap (first_word false) (sym (bytes-read c.args.self.now.document c.args.handle.0 (body_value c.body.result.now) c.body.ensures))), refl)

pub returns-then-is_resident-clause-value : goal.returns-then-is_resident-clause-value
returns-then-is_resident-clause-value g c = λ _.
    let a = c.args.self.now in let h = c.args.handle.0 in
    let loaded : is_loaded a h ≡ true = sym c.is_resident.ensures ∙ c.if-is_resident.true in
    c.first_word.ensures ∙ (λ i. first_word (sym (ap (λ b. a.disk.checksums && not b) loaded ∙ and-false a.disk.checksums) i) (sym (bytes-read a.document h (body_value c.body.result.now) c.body.ensures) i))

-- it is read

pub read_first_word-requires-clause-live : goal.read_first_word-requires-clause-live
read_first_word-requires-clause-live g c =
    let h = c.args.handle.0 in
    sym (overlay_live _ c.self.inside.frames.entries c.self.inside.file.document h c.self.invariant.0.kept) ∙ ap (λ s. is_live s.document h) c.self.view_is ∙ raw-live c.args.self.now.document h c.requires

pub read_first_word-requires-clause-raw : goal.read_first_word-requires-clause-raw
read_first_word-requires-clause-raw g c =
    let h = c.args.handle.0 in
    sym (overlay_kind _ c.self.inside.frames.entries c.self.inside.file.document h c.self.invariant.0.kept) ∙ ap (λ s. is_heap s.document h) c.self.view_is ∙ raw-kind c.args.self.now.document h c.requires

pub invariant_of-self : goal.invariant_of-self
invariant_of-self g c =
    let facts = g.S.Store.facts in
    let s = c.self.inside in
    let es = s.frames.entries in
    (blocks_drift facts s.file es s.frames.cap c.read_first_word.new.self es s.frames.cap c.self.invariant.0 (moves_drift facts s.file c.read_first_word.new.self es c.self.invariant.0.kept c.read_first_word.ensures.reads.passes c.read_first_word.ensures.reads.document) refl, c.self.invariant.1)

pub returns-clause-keeps : goal.returns-clause-keeps
returns-clause-keeps g c =
    let facts = g.S.Store.facts in
    let s = c.self.inside in
    let es = s.frames.entries in
    let b = c.read_first_word.new.self in
    subst (λ (t : CacheState g.row.S.Denot). KeepsBlocks facts t (shown b es s.frames.cap)) c.self.view_is
    (keeps-by facts (shown s.file es s.frames.cap) (shown b es s.frames.cap)
    (stays_by facts s.file es s.frames.cap b es s.frames.cap (moves_drift facts s.file b es c.self.invariant.0.kept c.read_first_word.ensures.reads.passes c.read_first_word.ensures.reads.document) refl)
    (keeps_refl (residents es)))

pub returns-clause-value : goal.returns-clause-value
returns-clause-value g c =
    let facts = g.S.Store.facts in
    let s = c.self.inside in
    let es = s.frames.entries in
    let h = c.args.handle.0 in
    let state = shown s.file es s.frames.cap in
    let live : is_live state.document h ≡ true = ap (λ t. is_live t.document h) c.self.view_is ∙ raw-live c.args.self.now.document h c.requires in
    let none : is_loaded state h ≡ false = ap (λ t. is_loaded t h) c.self.view_is ∙ sym c.is_resident.ensures ∙ c.if-is_resident.false in
    let same = away-bytes es s.file.document h (away state es h refl live none) in
    let summed : (state.disk.checksums && not (is_loaded state h)) ≡ state.disk.checksums = ap (λ b. state.disk.checksums && not b) none ∙ and-true state.disk.checksums in
    subst (λ (t : CacheState g.row.S.Denot). IfOk c.read_first_word.result (λ word. IsHonest facts t.disk.store → word ≡ first_word (t.disk.checksums && not (is_loaded t h)) (raw_bytes_of t.document h))) c.self.view_is
    (IfOk-weaker c.read_first_word.result _ _ (λ word is steady. is (steady-honest facts s.file.disk.store steady) ∙ (λ i. first_word (sym summed i) (sym same i))) c.read_first_word.ensures.word)

pub returns-clause-fails : goal.returns-clause-fails
returns-clause-fails g c =
    let facts = g.S.Store.facts in
    subst (λ (t : CacheState g.row.S.Denot). IfErr c.read_first_word.result (λ fault. (fault ≡ File) × FailedSince (facts t.disk.store) (facts c.read_first_word.new.self.disk.store))) c.self.view_is c.read_first_word.ensures.fails
