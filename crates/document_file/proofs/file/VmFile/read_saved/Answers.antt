use Rattle.std.proofs.Common.{◌≡◌, IsTrue, sym, ap, subst, ◌∙◌}
use Rattle.std.specs.Prelude.{IfOk}
use Rattle.geos_model.specs.Document.{is_live, block_at}
use Rattle.geos_model.specs.Image.{image}
use Rattle.document_file.specs.Documents.{blocks_in, document_in, AreImaged}
use Rattle.document_file.specs.Disk.{SameUnlessCorrupt}
use Rattle.document_file.specs.declared.table.BlockTable.{BlockTable}
use Rattle.document_file.proofs.TableLemmas.{places_drift}
use Rattle.document_file.proofs.EffectsLemmas.{damage_fails, view_reads}
use Rattle.document_file.specs.Effects.{Fails, IsDamage}
use Rattle.document_file.proofs.SumsLemmas.{summed_have}
use Rattle.document_file.specs.Sums.{HaveSums}
use Rattle.document_file.proofs.SoundLemmas.{file_rested}
use Rattle.document_file.proofs.file.VmFile.read_saved.Goals as goal

pub read_block-requires-clause-live : goal.read_block-requires-clause-live
read_block-requires-clause-live g c =
    ap (λ (t : BlockTable). is_live (document_in (g.S.Store.facts c.self.inside.store).content t) c.args.block.0) c.deref.ensures
    ∙ ap (λ s. is_live s.disk.saved c.args.block.0) c.self.view_is ∙ c.requires

pub read_block-requires-clause-images : goal.read_block-requires-clause-images
read_block-requires-clause-images g c = λ so.
    subst (λ (t : BlockTable). AreImaged (g.S.Store.facts c.self.inside.store).content t.places.items) (sym c.deref.ensures) (c.self.invariant.sound.whole so).committed.saved.images

pub read_block-requires-clause-sums : goal.read_block-requires-clause-sums
read_block-requires-clause-sums g c = λ so.
    subst (λ (t : BlockTable). HaveSums (g.S.Store.facts c.self.inside.store).content t.places.items) (sym c.deref.ensures) (summed_have _ _ _ (c.self.invariant.sound.whole so).committed.saved.sums)

pub invariant_of-self : goal.invariant_of-self
invariant_of-self g c =
    let i = c.self.inside in
    file_rested (g.S.Store.facts i.store) (g.S.Store.facts c.read_block.new.store) i.live i.slots i.space i.bounds c.self.invariant c.read_block.ensures.looks

pub returns-clause-reads : goal.returns-clause-reads
returns-clause-reads g c =
    let i = c.self.inside in let store = c.read_block.new.store in
    view_reads g.S.Store.facts i.store store i.live i.slots c.self.invariant.sound (λ so. (g.met.S.Store.timely store so).now) c.args.self.now c.self.view_is c.read_block.ensures.looks

pub returns-clause-image : goal.returns-clause-image
returns-clause-image g c =
    let a = g.S.Store.facts c.self.inside.store in
    let image_is = subst (λ (t : BlockTable). IfOk c.read_block.result (λ bytes. IsTrue a.honest → bytes.items ≡ image (block_at (document_in a.content t) c.args.block.0).body)) c.deref.ensures c.read_block.ensures.image in
    subst (λ s. IfOk c.read_block.result (λ bytes. IsTrue (g.S.Store.facts s.disk.store).honest → bytes.items ≡ image (block_at s.disk.saved c.args.block.0).body)) c.self.view_is image_is

pub returns-clause-saved : goal.returns-clause-saved
returns-clause-saved g c =
    let i = c.self.inside in
    let a = g.S.Store.facts i.store in
    let b = g.S.Store.facts c.read_block.new.store in
    let saved = i.slots.committed.saved.table.value in
    subst (λ s. SameUnlessCorrupt (g.S.Store.facts s.disk.store).honest s.disk.saved (document_in b.content saved)) c.self.view_is
    (places_drift a.honest a.content b.content saved.places.items saved.map_block (λ so. ap (λ f. blocks_in f saved.places.items) (c.read_block.ensures.looks.unchanged so).content))

pub returns-clause-fails : goal.returns-clause-fails
returns-clause-fails g c =
    let facts = g.S.Store.facts in
    subst (λ s. Fails facts (IsDamage (facts s.disk.store).honest) s.disk.store c.read_block.new.store c.read_block.result) c.self.view_is
    (damage_fails facts c.self.inside.store c.read_block.new.store c.read_block.result c.read_block.ensures.file c.read_block.ensures.damaged c.read_block.ensures.refusals)
