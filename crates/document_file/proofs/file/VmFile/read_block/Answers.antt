use Rattle.std.proofs.Common.{◌≡◌, IsTrue, length, ap, subst, ◌∙◌}
use Rattle.std.specs.Prelude.{IfOk}
use Rattle.geos_model.specs.Document.{is_live, block_at}
use Rattle.geos_model.specs.Image.{image}
use Rattle.std.proofs.lemmas.Result.{IfOk-weaker}
use Rattle.document_file.specs.Calls.{IsImageLength}
use Rattle.document_file.proofs.EffectsLemmas.{damage_fails, view_reads}
use Rattle.document_file.specs.Effects.{Fails, IsDamage}
use Rattle.document_file.proofs.SumsLemmas.{summed_have}
use Rattle.document_file.proofs.SoundLemmas.{file_rested}
use Rattle.document_file.proofs.file.VmFile.read_block.Goals as goal

pub read_block-requires-clause-live : goal.read_block-requires-clause-live
read_block-requires-clause-live g c = ap (λ s. is_live s.document c.args.block.0) c.self.view_is ∙ c.requires

pub read_block-requires-clause-images : goal.read_block-requires-clause-images
read_block-requires-clause-images g c = λ so. (c.self.invariant.sound.whole so).images

pub read_block-requires-clause-sums : goal.read_block-requires-clause-sums
read_block-requires-clause-sums g c = λ so. summed_have _ _ _ (c.self.invariant.sound.whole so).sums

pub invariant_of-self : goal.invariant_of-self
invariant_of-self g c =
    let i = c.self.inside in
    file_rested (g.S.Store.facts i.store) (g.S.Store.facts c.read_block.new.store) i.live i.slots i.space i.bounds c.self.invariant c.read_block.ensures.looks

pub returns-clause-reads : goal.returns-clause-reads
returns-clause-reads g c =
    let i = c.self.inside in let store = c.read_block.new.store in
    view_reads g.S.Store.facts i.store store i.live i.slots c.self.invariant.sound (λ so. (g.met.S.Store.timely store so).now) c.args.self.now c.self.view_is c.read_block.ensures.looks

pub returns-clause-image : goal.returns-clause-image
returns-clause-image g c =
    subst (λ s. IfOk c.read_block.result (λ bytes. IsTrue (g.S.Store.facts s.disk.store).honest → bytes.items ≡ image (block_at s.document c.args.block.0).body)) c.self.view_is c.read_block.ensures.image

pub returns-clause-size : goal.returns-clause-size
returns-clause-size g c =
    let formed = c.self.invariant.sound.formed in
    IfOk-weaker c.read_block.result _ (λ bytes. IsImageLength (length bytes.items)) (λ bytes long. long formed.placed formed.table.places) c.read_block.ensures.size

pub returns-clause-fails : goal.returns-clause-fails
returns-clause-fails g c =
    let facts = g.S.Store.facts in
    subst (λ s. Fails facts (IsDamage (facts s.disk.store).honest) s.disk.store c.read_block.new.store c.read_block.result) c.self.view_is
    (damage_fails facts c.self.inside.store c.read_block.new.store c.read_block.result c.read_block.ensures.file c.read_block.ensures.damaged c.read_block.ensures.refusals)
