use Rattle.std.proofs.Common.{◌≡◌, true, Bool, arith, sym, ap, subst, ◌∙◌}
use Rattle.geos_model.specs.Document.{Document, is_heap, is_live, with_attributes, IsTyped}
use Rattle.document_file.specs.Disk.{FileState}
use Rattle.vm_blocks.specs.Changes.{attributes_for_kind}
use Rattle.vm_blocks.specs.Frames.{overlay, shown}
use Rattle.vm_blocks.specs.Sound.{AreBlocksOf, IsValidState}
use Rattle.vm_blocks.specs.State.{CacheState}
use Rattle.vm_blocks.proofs.DocumentUnderFrames.{overlay_kind, overlay_live}
use Rattle.vm_blocks.proofs.KindLemmas.{attributes_for_kind-typed}
use Rattle.vm_blocks.proofs.StateValidity.{sound_attributes}
use Rattle.vm_blocks.proofs.Tables.{overlay_set_attributes, kept_set_attributes}
use Rattle.vm_blocks.proofs.file_blocks.FileBlocks.put_attributes.Goals as goal

pub set_attributes-requires : goal.set_attributes-requires
set_attributes-requires g c =
    let es = c.self.inside.frames.entries in
    let d = c.self.inside.file.document in
    let h = c.args.handle.0 in
    let now = is_heap c.args.self.now.document h in
    let given : c.attributes_for_kind-given.result ≡ attributes_for_kind now c.args.attributes = c.attributes_for_kind-given.ensures ∙ ap (λ (k : Bool). attributes_for_kind k c.args.attributes) c.is_heap.ensures in
    record {
      live = sym (overlay_live _ es d h c.self.invariant.0.kept) ∙ ap (λ s. is_live s.document h) c.self.view_is ∙ c.requires;
      typed = λ raw. subst (IsTyped now) (sym given) (attributes_for_kind-typed now c.args.attributes) (sym (ap (λ s. is_heap s.document h) c.self.view_is) ∙ overlay_kind _ es d h c.self.invariant.0.kept ∙ raw);
    }

pub invariant_of-self : goal.invariant_of-self
invariant_of-self g c =
    let facts = g.S.Store.facts in
    let file = c.self.inside.file in
    let es = c.self.inside.frames.entries in
    let cap = c.self.inside.frames.cap in
    let h = c.args.handle.0 in
    let u = c.attributes_for_kind-given.result in
    let now = is_heap c.args.self.now.document h in
    let given : u ≡ attributes_for_kind now c.args.attributes = c.attributes_for_kind-given.ensures ∙ ap (λ (k : Bool). attributes_for_kind k c.args.attributes) c.is_heap.ensures in
    let typed : IsTyped (is_heap (overlay es file.document) h) u = λ raw. subst (IsTyped now) (sym given) (attributes_for_kind-typed now c.args.attributes) (sym (ap (λ s. is_heap s.document h) c.self.view_is) ∙ raw) in
    let shows : is_live (overlay es file.document) h ≡ true = ap (λ s. is_live s.document h) c.self.view_is ∙ c.requires in
    let live : is_live file.document h ≡ true = sym (overlay_live _ es file.document h c.self.invariant.0.kept) ∙ shows in
    let new : FileState g.row.S.Denot = record file { document = with_attributes file.document h u } in (
      subst (λ (x : FileState g.row.S.Denot). AreBlocksOf facts x es cap) (sym c.set_attributes.ensures) (record {
        kept = kept_set_attributes u es file.document h live (facts file.disk.store).honest c.self.invariant.0.kept;
        state = subst (λ (d : Document). IsValidState facts (record (shown new es cap) { document = d })) (sym (overlay_set_attributes u es file.document h live shows))
            (sound_attributes facts (shown file es cap) h u (record { user_id = omega arith; heap_type = omega arith }) typed c.self.invariant.0.state);
      }),
      c.self.invariant.1,
    )

pub returns : goal.returns
returns g c =
    let file = c.self.inside.file in
    let es = c.self.inside.frames.entries in
    let cap = c.self.inside.frames.cap in
    let old = c.args.self.now in
    let h = c.args.handle.0 in
    let u = c.attributes_for_kind-given.result in
    let now = is_heap old.document h in
    let given : u ≡ attributes_for_kind now c.args.attributes = c.attributes_for_kind-given.ensures ∙ ap (λ (k : Bool). attributes_for_kind k c.args.attributes) c.is_heap.ensures in
    let shows : is_live (overlay es file.document) h ≡ true = ap (λ s. is_live s.document h) c.self.view_is ∙ c.requires in
    let live : is_live file.document h ≡ true = sym (overlay_live _ es file.document h c.self.invariant.0.kept) ∙ shows in
    ap (λ (x : FileState g.row.S.Denot). shown x es cap) c.set_attributes.ensures
    ∙ ap (λ (x : Document). record (shown file es cap) { document = x }) (overlay_set_attributes u es file.document h live shows)
    ∙ ap (λ (s : CacheState g.row.S.Denot). record s { document = with_attributes s.document h u }) c.self.view_is
    ∙ ap (λ a. record old { document = with_attributes old.document h a }) given
