use Rattle.std.proofs.Common.{◌≡◌, ◌≢◌, ◌⊎◌, true, inl, inr, sym, ap, subst, ◌∙◌}
use Rattle.std.proofs.lemmas.Bool.{cases_eq}
use Rattle.geos_model.specs.Document.{Document, is_live}
use Rattle.document_file.specs.Disk.{FileState}
use Rattle.vm_blocks.specs.State.{CacheState}
use Rattle.vm_blocks.specs.Frames.{overlay, shown}
use Rattle.vm_blocks.specs.Sound.{AreBlocksOf, IsValidState}
use Rattle.vm_blocks.proofs.DocumentUnderFrames.{overlay_live}
use Rattle.vm_blocks.proofs.StateValidity.{sound_map}
use Rattle.vm_blocks.proofs.Tables.{overlay_set_map, kept_set_map}
use Rattle.vm_blocks.proofs.file_blocks.FileBlocks.put_map.Goals as goal

pub set_map-requires : goal.set_map-requires
set_map-requires g c =
    let file = c.self.inside.file in
    let h = c.args.block.0 in
    elim (cases_eq h 0) as (λ _. (h ≡ 0) ⊎ (is_live file.document h ≡ true)) [
      | inl none ↦ inl none
      | inr some ↦ inr (sym (overlay_live _ c.self.inside.frames.entries file.document h c.self.invariant.0.kept) ∙ ap (λ s. is_live s.document h) c.self.view_is ∙ c.requires some)
    ]

pub invariant_of-self : goal.invariant_of-self
invariant_of-self g c =
    let facts = g.S.Store.facts in
    let file = c.self.inside.file in
    let es = c.self.inside.frames.entries in
    let cap = c.self.inside.frames.cap in
    let h = c.args.block.0 in
    let live : h ≢ 0 → is_live (overlay es file.document) h ≡ true = λ some. ap (λ s. is_live s.document h) c.self.view_is ∙ c.requires some in
    let new : FileState g.row.S.Denot = record file { document = record file.document { map_block = h } } in (
      subst (λ (x : FileState g.row.S.Denot). AreBlocksOf facts x es cap) (sym c.set_map.ensures) (record {
        kept = kept_set_map (facts file.disk.store).honest es file.document h c.self.invariant.0.kept;
        state = subst (λ (d : Document). IsValidState facts (record (shown new es cap) { document = d })) (sym (overlay_set_map es file.document h)) (sound_map facts (shown file es cap) h live c.self.invariant.0.state);
      }),
      c.self.invariant.1,
    )

pub returns : goal.returns
returns g c =
    let file = c.self.inside.file in
    let es = c.self.inside.frames.entries in
    let cap = c.self.inside.frames.cap in
    let h = c.args.block.0 in
    ap (λ (x : FileState g.row.S.Denot). shown x es cap) c.set_map.ensures
    ∙ ap (λ (x : Document). record (shown file es cap) { document = x }) (overlay_set_map es file.document h)
    ∙ ap (λ (s : CacheState g.row.S.Denot). record s { document = record s.document { map_block = h } }) c.self.view_is
