use Rattle.std.proofs.Common.{◌≡◌, sym, ap, ◌∙◌}
use Rattle.geos_model.specs.Document.{is_heap, is_live, attributes_of}
use Rattle.geos_model.specs.declared.block.Attributes.{Attributes}
use Rattle.vm_blocks.proofs.DocumentUnderFrames.{overlay_live, overlay_kind, overlay_attributes}
use Rattle.vm_blocks.proofs.file_blocks.FileBlocks.attributes.Goals as goal

pub unwrap-requires : goal.unwrap-requires
unwrap-requires g c = c.entry.ensures.live ∙ sym (overlay_live _ c.self.inside.frames.entries c.self.inside.file.document c.args.handle.0 c.self.invariant.0.kept) ∙ ap (λ s. is_live s.document c.args.handle.0) c.self.view_is ∙ c.requires

pub returns-clause-value : goal.returns-clause-value
returns-clause-value g c =
    let attributes : c.unwrap.result.attributes ≡ attributes_of c.self.inside.file.document c.args.handle.0 = rw c.unwrap.ensures at c.entry.ensures.attributes in
    attributes ∙ sym (overlay_attributes c.self.inside.frames.entries c.self.inside.file.document c.args.handle.0) ∙ ap (λ s. attributes_of s.document c.args.handle.0) c.self.view_is

pub returns-clause-typed : goal.returns-clause-typed
returns-clause-typed g c = λ raw.
    let d = c.self.inside.file.document in
    let h = c.args.handle.0 in
    let attributes : c.unwrap.result.attributes ≡ attributes_of d h = rw c.unwrap.ensures at c.entry.ensures.attributes in
    let kind = sym (overlay_kind _ c.self.inside.frames.entries d h c.self.invariant.0.kept) ∙ ap (λ s. is_heap s.document h) c.self.view_is in
    ap (λ (a : Attributes). a.heap_type) attributes ∙ c.reveal_invariant.ensures.document.typed h (kind ∙ raw)
