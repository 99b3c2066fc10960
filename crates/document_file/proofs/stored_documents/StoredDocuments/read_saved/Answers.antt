use Rattle.std.proofs.Common.{◌≡◌, IsTrue, sym, ap, subst, ◌∙◌}
use Rattle.std.specs.Prelude.{IfOk}
use Rattle.geos_model.specs.Document.{is_live, block_at}
use Rattle.geos_model.specs.Image.{image}
use Rattle.document_file.specs.Documents.{document_in, AreImaged}
use Rattle.document_file.specs.declared.table.BlockTable.{BlockTable}
use Rattle.document_file.specs.Effects.{Fails, IsDamage}
use Rattle.document_file.specs.Sums.{HaveSums}
use Rattle.document_file.proofs.EffectsLemmas.{damage_fails}
use Rattle.document_file.proofs.StoredDocumentsLemmas.{state_reads, still_lie}
use Rattle.document_file.proofs.stored_documents.StoredDocuments.read_saved.Goals as goal

pub read_block-requires-clause-live : goal.read_block-requires-clause-live
read_block-requires-clause-live g c =
    ap (λ (t : BlockTable). is_live (document_in (g.S.Store.facts c.self.inside.store).content t) c.args.block.0) c.deref.ensures
    ∙ ap (λ s. is_live s.saved c.args.block.0) c.self.view_is ∙ c.requires

pub read_block-requires-clause-images : goal.read_block-requires-clause-images
read_block-requires-clause-images g c = λ so.
    subst (λ (t : BlockTable). AreImaged (g.S.Store.facts c.self.inside.store).content t.places.items) (sym c.deref.ensures) (c.self.invariant.saved so)

pub read_block-requires-clause-sums : goal.read_block-requires-clause-sums
read_block-requires-clause-sums g c = λ so.
    subst (λ (t : BlockTable). HaveSums (g.S.Store.facts c.self.inside.store).content t.places.items) (sym c.deref.ensures) (c.self.invariant.saved_sums so)

pub invariant_of-self : goal.invariant_of-self
invariant_of-self g c = still_lie g.S.Store.facts c.self.inside.store c.read_block.new.store c.self.inside.pair c.read_block.ensures.looks c.self.invariant

pub returns-clause-reads : goal.returns-clause-reads
returns-clause-reads g c = state_reads g.S.Store.facts c.self.inside.store c.read_block.new.store c.self.inside.pair c.args.self.now c.self.view_is c.read_block.ensures.looks

pub returns-clause-image : goal.returns-clause-image
returns-clause-image g c =
    let a = g.S.Store.facts c.self.inside.store in
    let image_is = subst (λ (t : BlockTable). IfOk c.read_block.result (λ bytes. IsTrue a.honest → bytes.items ≡ image (block_at (document_in a.content t) c.args.block.0).body)) c.deref.ensures c.read_block.ensures.image in
    subst (λ s. IfOk c.read_block.result (λ bytes. IsTrue (g.S.Store.facts s.store).honest → bytes.items ≡ image (block_at s.saved c.args.block.0).body)) c.self.view_is image_is

pub returns-clause-fails : goal.returns-clause-fails
returns-clause-fails g c =
    let facts = g.S.Store.facts in
    subst (λ s. Fails facts (IsDamage (facts s.store).honest) s.store c.read_block.new.store c.read_block.result) c.self.view_is
    (damage_fails facts c.self.inside.store c.read_block.new.store c.read_block.result c.read_block.ensures.file c.read_block.ensures.damaged c.read_block.ensures.refusals)
