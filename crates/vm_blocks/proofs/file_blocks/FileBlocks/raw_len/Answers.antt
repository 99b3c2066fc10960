use Rattle.std.proofs.Common.{◌≡◌, IsTrue, true, false, length, refl, sym, ap, subst, ◌∙◌, arith}
use Rattle.geos_model.specs.Document.{block_at, is_heap, is_live, raw_bytes_of}
use Rattle.geos_model.specs.Image.{image}
use Rattle.vm_blocks.specs.Bodies.{body_value}
use Rattle.vm_blocks.specs.Frames.{shown}
use Rattle.vm_blocks.specs.Keeping.{IsHonest, is_loaded}
use Rattle.vm_blocks.specs.State.{CacheState}
use Rattle.vm_blocks.proofs.DocumentUnderFrames.{overlay_kind, overlay_live}
use Rattle.vm_blocks.proofs.Fronts.{away, away-bytes, bytes-read, heap-bytes, image-bytes}
use Rattle.vm_blocks.proofs.KeepingLaws.{steady-honest}
use Rattle.vm_blocks.proofs.file_blocks.FileBlocks.raw_len.Goals as goal

-- it is in memory

pub returns-then-is_resident-clause-value : goal.returns-then-is_resident-clause-value
returns-then-is_resident-clause-value g c = λ _.
    ap length (c.raw_bytes.ensures.value ∙ sym (bytes-read c.args.self.now.document c.args.handle.0 (body_value c.body.result.now) c.body.ensures))

pub returns-then-is_resident-clause-loaded : goal.returns-then-is_resident-clause-loaded
returns-then-is_resident-clause-loaded g c = λ _.
    ap length (c.raw_bytes.ensures.value ∙ sym (bytes-read c.args.self.now.document c.args.handle.0 (body_value c.body.result.now) c.body.ensures))

-- it isn't

pub unwrap-place-requires : goal.unwrap-place-requires
unwrap-place-requires g c = c.entry.ensures.live ∙ sym (overlay_live _ c.self.inside.frames.entries c.self.inside.file.document c.args.handle.0 c.self.invariant.0.kept) ∙ ap (λ s. is_live s.document c.args.handle.0) c.self.view_is ∙ c.requires

pub returns-then-place-clause-value : goal.returns-then-place-clause-value
returns-then-place-clause-value g c = λ _.
    let d = c.self.inside.file.document in
    let h = c.args.handle.0 in
    let kind : c.unwrap-place.result.is_heap ≡ is_heap d h = rw c.unwrap-place.ensures at c.entry.ensures.kind in
    let here : is_heap c.args.self.now.document h ≡ is_heap d h = sym (ap (λ s. is_heap s.document h) c.self.view_is) ∙ overlay_kind _ c.self.inside.frames.entries d h c.self.invariant.0.kept in
    sym (ap length (heap-bytes c.args.self.now.document h (here ∙ sym kind ∙ c.if-place.true)))

pub returns-else-place-clause-value : goal.returns-else-place-clause-value
returns-else-place-clause-value g c = λ steady.
    let facts = g.S.Store.facts in
    let file = c.self.inside.file in
    let es = c.self.inside.frames.entries in
    let h = c.args.handle.0 in
    let state = shown file es c.self.inside.frames.cap in
    let so = steady-honest facts file.disk.store (subst (λ (t : CacheState g.row.S.Denot). IsHonest facts t.disk.store) (sym c.self.view_is) steady) in
    let kind : c.unwrap-place.result.is_heap ≡ is_heap file.document h = rw c.unwrap-place.ensures at c.entry.ensures.kind in
    let size : IsTrue (facts file.disk.store).honest → length (image (block_at file.document h).body) ≡ c.unwrap-place.result.extent.length = rw c.unwrap-place.ensures at c.entry.ensures.size in
    let behind = image-bytes file.document h c.unwrap-place.result.extent.length (sym kind ∙ c.if-place.false) (size so) in
    let live : is_live state.document h ≡ true = ap (λ t. is_live t.document h) c.self.view_is ∙ c.requires in
    let none : is_loaded state h ≡ false = ap (λ t. is_loaded t h) c.self.view_is ∙ sym c.is_resident.ensures ∙ c.if-is_resident.false in
    let same : raw_bytes_of c.args.self.now.document h ≡ raw_bytes_of file.document h = sym (ap (λ t. raw_bytes_of t.document h) c.self.view_is) ∙ away-bytes es file.document h (away state es h refl live none) in
    let long = ap length same in
    omega (arith, behind, long)
