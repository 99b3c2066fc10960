use Rattle.std.proofs.Common.{◌≡◌, IsTrue, ap, subst, ◌∙◌}
use Rattle.std.specs.Prelude.{IfOk}
use Rattle.geos_model.specs.Document.{is_heap, is_live, block_at}
use Rattle.geos_model.specs.declared.command.Body.TheVariants.{Raw}
use Rattle.document_file.proofs.EffectsLemmas.{damage_fails, view_reads}
use Rattle.document_file.specs.Effects.{Fails, IsDamage}
use Rattle.document_file.proofs.SumsLemmas.{summed_have}
use Rattle.document_file.proofs.SoundLemmas.{file_rested}
use Rattle.document_file.proofs.file.VmFile.read_raw.Goals as goal

pub read_raw-requires-clause-live : goal.read_raw-requires-clause-live
read_raw-requires-clause-live g c = ap (λ s. is_live s.document c.args.block.0) c.self.view_is ∙ c.requires.live

pub read_raw-requires-clause-raw : goal.read_raw-requires-clause-raw
read_raw-requires-clause-raw g c = ap (λ s. is_heap s.document c.args.block.0) c.self.view_is ∙ c.requires.raw

pub read_raw-requires-clause-images : goal.read_raw-requires-clause-images
read_raw-requires-clause-images g c = λ so. (c.self.invariant.sound.whole so).images

pub read_raw-requires-clause-placed : goal.read_raw-requires-clause-placed
read_raw-requires-clause-placed g c = c.self.invariant.sound.formed.placed

pub read_raw-requires-clause-places : goal.read_raw-requires-clause-places
read_raw-requires-clause-places g c = c.self.invariant.sound.formed.table.places

pub read_raw-requires-clause-sums : goal.read_raw-requires-clause-sums
read_raw-requires-clause-sums g c = λ so. summed_have _ _ _ (c.self.invariant.sound.whole so).sums

pub invariant_of-self : goal.invariant_of-self
invariant_of-self g c =
    let i = c.self.inside in
    file_rested (g.S.Store.facts i.store) (g.S.Store.facts c.read_raw.new.store) i.live i.slots i.space i.bounds c.self.invariant c.read_raw.ensures.looks

pub returns-clause-reads : goal.returns-clause-reads
returns-clause-reads g c =
    let i = c.self.inside in let store = c.read_raw.new.store in
    view_reads g.S.Store.facts i.store store i.live i.slots c.self.invariant.sound (λ so. (g.met.S.Store.timely store so).now) c.args.self.now c.self.view_is c.read_raw.ensures.looks

pub returns-clause-body : goal.returns-clause-body
returns-clause-body g c =
    subst (λ s. IfOk c.read_raw.result (λ body. IsTrue (g.S.Store.facts s.disk.store).honest → (block_at s.document c.args.block.0).body ≡ Raw body)) c.self.view_is c.read_raw.ensures.body

pub returns-clause-fails : goal.returns-clause-fails
returns-clause-fails g c =
    let facts = g.S.Store.facts in
    subst (λ s. Fails facts (IsDamage (facts s.disk.store).honest) s.disk.store c.read_raw.new.store c.read_raw.result) c.self.view_is
    (damage_fails facts c.self.inside.store c.read_raw.new.store c.read_raw.result c.read_raw.ensures.file c.read_raw.ensures.damaged c.read_raw.ensures.refusals)
